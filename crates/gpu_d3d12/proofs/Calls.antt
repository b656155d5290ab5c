-- What the calls of an allocator return and leave are steps of the model.
use Rattle.std.specs.Prelude.{string_bytes, Vec, String}
use Rattle.std.specs.Global.{Global}
use Rattle.std.proofs.Common.{◌≡◌, refl, sym, ap, subst, ℕ, true, false, Bool, List, map, Option, Some, None, Ok, Err, Result, IfOk, IfErr}
use Rattle.gpu_values.specs.Refusal.{Refusal, refusal_of, refusal_in, invalid_allocation_create_desc}
use Rattle.gpu_values.specs.Report.{report_of}
use Rattle.gpu_values.specs.declared.error.AllocationError.{AllocationError}
use Rattle.gpu_values.specs.declared.error.AllocationError.TheVariants.{HostOutOfMemory}
use Rattle.gpu_values.specs.declared.report.AllocatorReport.{AllocatorReport}
use Rattle.gpu_block_pieces.specs.Leak.{leak_text}
use Rattle.gpu_block_pieces.specs.Request.{Request}
use Rattle.gpu_core.specs.declared.piece.Piece.{Piece}
use Rattle.gpu_device.specs.declared.d3d12.device.D3D12Device.{Ghosts}
use Rattle.gpu_device.specs.declared.d3d12.types.ID3D12Heap.{ID3D12Heap}
use Rattle.gpu_core.specs.Blocks.{total_capacity}
use Rattle.gpu_core.specs.Budgets.{budget_at, SetsBudget}
use Rattle.gpu_core.specs.Leaks.{all_leaks}
use Rattle.gpu_core.specs.Reports.{whole_report}
use Rattle.gpu_core.proofs.Options.{none_some, some_same}
use Rattle.gpu_d3d12.specs.Setup.{kinds_of_device}
use Rattle.gpu_d3d12.specs.declared.describe.AllocationCreateDesc.{AllocationCreateDesc}
use Rattle.gpu_pool.specs.Allocate as environments
use Rattle.gpu_pool.specs.Allocate.{NothingMet, NoHostMemory}
use Rattle.gpu_pool.specs.Rename as pool_renames
use Rattle.gpu_pool.specs.Reply as replies
use Rattle.gpu_pool.specs.Source.{result_of}
use Rattle.gpu_pool.specs.State as pools
use Rattle.gpu_pool.specs.Step as calls
use Rattle.gpu_d3d12.specs.Allocate as allocations
use Rattle.gpu_d3d12.specs.Allocate.{is_valid, request_in}
use Rattle.gpu_d3d12.specs.Blocks.{is_same_heap}
use Rattle.gpu_d3d12.specs.Committed.{statistics_at}
use Rattle.gpu_d3d12.specs.Describe.{request_of}
use Rattle.gpu_d3d12.specs.Free.{freed_of, AllocatorFrees}
use Rattle.gpu_pool.specs.Allocation.{piece_of, Returns, ReturnsPlace, ProposesNamed, RenamesNamed}
use Rattle.gpu_d3d12.specs.Live.{Allocation}
use Rattle.gpu_d3d12.specs.Reply.{Reply, error}
use Rattle.gpu_d3d12.specs.Reply as module_replies
use Rattle.gpu_d3d12.specs.Source.{AsksBlock, GivesHeapBack, MakesResource, ReleasesResource}
use Rattle.gpu_d3d12.specs.State as states
use Rattle.gpu_d3d12.specs.State.{State, Basis, Contents, seen_of, over, pool_of, source_basis, basis_of, model_of}
use Rattle.gpu_d3d12.specs.Step.{Call, Free, Rename, ProposeMove, Capacity, Report, Leaks, Statistics, SetBudget, Budget, nothing_met, allocated_reply, AllocatesBy, ProposesBy, is_again, SeesQuestion, SeesHeapFreed, SeesMade, SeesReleased, Step, IsStep}
use Rattle.gpu_d3d12.specs.Step.{Replies, IsAllocateStep, RepliesPlace, IsMoveStep, freed_as, reply_of_done, reply_of_report, leaked_as}
use Rattle.gpu_pool.proofs.Moving.{proposes_over}
use Rattle.gpu_d3d12.proofs.Staying.{stays_same, same_version, frees_stays, allocates_keeps}
use Rattle.gpu_d3d12.proofs.Steps.{frees_seen, allocates_seen}

-- ---- an allocation of a pool

abbrev paired : (t : ℕ) → Result (Piece ID3D12Heap) Refusal → Result (ℕ × Piece ID3D12Heap) Refusal
paired t (Ok p) = Ok (t, p)
paired t (Err e) = Err e

paired_reply : (t : ℕ) (answer : Result (Piece ID3D12Heap) Refusal) → allocated_reply (paired t answer) ≡ replies.allocated_as t answer
paired_reply t (Ok p) = refl
paired_reply t (Err e) = refl

replies_of : (t : ℕ) (d : AllocationCreateDesc) (result : Result Allocation AllocationError) (answer : Result (Piece ID3D12Heap) Refusal) → Returns t d.name.now result answer
    → Replies d result (allocated_reply (paired t answer))
replies_of t d (Ok a) (Ok p) h = h
replies_of t d (Ok a) (Err r) h = absurd h
replies_of t d (Err e) (Ok p) h = absurd h
replies_of t d (Err e) (Err r) h = h

refused_replies : (d : AllocationCreateDesc) (result : Result Allocation AllocationError) (r : Refusal) → refusal_in result ≡ Some r → Replies d result (replies.Error r)
refused_replies d (Ok a) r is = absurd (none_some r is)
refused_replies d (Err e) r is = some_same (refusal_of e) r is

module _ {D : Type 0} (g : Ghosts D) where
  -- an allocation, as what its pool met with and replied
  pub record Attempted (basis : Basis) (d : AllocationCreateDesc) (valid : Bool) (old : states.Pool D) (result : Result Allocation AllocationError) (new : states.Pool D) : Type 0 where
    pub met : environments.Environment ID3D12Heap
    pub allocated : Result (ℕ × Piece ID3D12Heap) Refusal
    pub allocates : AllocatesBy (AsksBlock g) (GivesHeapBack g) (MakesResource g) (ReleasesResource g) basis d valid met (allocated_reply allocated) old new
    pub replies : Replies d result (allocated_reply allocated)

  pub attempted : (d : AllocationCreateDesc) (valid : Bool) (old : states.Pool D) (result : Result Allocation AllocationError) (new : states.Pool D) → allocations.AllocatesBy g d valid old result new
      → Attempted (source_basis g old.source) d valid old result new
  attempted d false old result new a = record {
    met = NothingMet;
    allocated = Err invalid_allocation_create_desc;
    allocates = (refl, refl, a.1);
    replies = refused_replies d result invalid_allocation_create_desc a.0;
  }
  attempted d true old result new a = record {
    met = a.allocates.0;
    allocated = paired a.memory_type a.answer;
    allocates = (a.memory_type, a.first, (a.answer, paired_reply a.memory_type a.answer, a.allocates.1));
    replies = replies_of a.memory_type d result a.answer a.returns;
  }

  -- ---- an allocation

  pub allocate_step : (d : AllocationCreateDesc) (old new : State D) (result : Result Allocation AllocationError) → allocations.AllocatorAllocates g d old result new → new.committed ≡ old.committed
      → IsAllocateStep g d result old new
  allocate_step d old new result a committed =
      let t = attempted d (is_valid d) (pool_of old) result (pool_of new) a in
      record {
        reply = allocated_reply t.allocated;
        step = record {
          environment = record { pool = t.met; resource = None };
          step = (
            refl,
            allocated_reply t.allocated,
            refl,
            allocates_seen g (basis_of g old) d (is_valid d) t.met (allocated_reply t.allocated) (pool_of old) (pool_of new) refl t.allocates,
            committed,
          );
          same_version = same_version g (pool_of old).source (pool_of new).source (allocates_keeps g d (is_valid d) (pool_of old) result (pool_of new) a).source;
        };
        replies = t.replies;
      }

  -- ---- calls of the pool

  -- the call of the pool, over what is seen of the device
  abbrev IsCall : Basis → calls.Call ID3D12Heap (Unit {0}) → environments.Environment ID3D12Heap → replies.Reply ID3D12Heap → (old new : State D) → Type 0
  IsCall basis call met reply old new =
      calls.Step (kinds_of_device basis.tier) (SeesQuestion basis.tier) SeesHeapFreed is_same_heap (pools.over (seen_of g) (pool_of old)) call met reply (pools.over (seen_of g) (pool_of new))

  freed_reply : (result : Result (Unit {0}) (AllocationError × Allocation)) → freed_as result ≡ module_replies.Pool (replies.reply_of_done (freed_of result))
  freed_reply (Ok u) = refl
  freed_reply (Err e) = refl

  pub free_step : (a : Allocation) (old new : State D) (result : Result (Unit {0}) (AllocationError × Allocation)) → AllocatorFrees g a old result new → new.committed ≡ old.committed
      → IsStep g (Free a) (freed_as result) old new
  free_step a old new result f committed = record {
    environment = nothing_met;
    step = (
      refl,
      replies.reply_of_done (freed_of result),
      freed_reply result,
      (
        refl,
        freed_of result,
        refl,
        frees_seen g (basis_of g old) a.memory_type_index (piece_of a) (pool_of old) (freed_of result) (pool_of new) f.frees,
      ),
      committed,
    );
    same_version = same_version g (pool_of old).source (pool_of new).source (frees_stays g a.memory_type_index (piece_of a) (pool_of old) (freed_of result) (pool_of new) f.frees);
  }

  done_reply : (result : Result (Unit {0}) AllocationError) → reply_of_done result ≡ module_replies.Pool (replies.reply_of_done (result_of result))
  done_reply (Ok u) = refl
  done_reply (Err e) = refl

  -- a call that leaves the device
  still : (call : Call) (reply : Reply) (old new : State D) (met : environments.Environment ID3D12Heap) → Step (basis_of g old) call (record { pool = met; resource = None }) reply (model_of g old) (model_of g new)
      → (pool_of new).source ≡ (pool_of old).source → IsStep g call reply old new
  still call reply old new met step same = record {
    environment = record { pool = met; resource = None };
    step = step;
    same_version = same_version g (pool_of old).source (pool_of new).source (stays_same g (pool_of old).source (pool_of new).source same);
  }

  rename_seen : (t : ℕ) (p : Piece ID3D12Heap) (name : List ℕ) (old : states.Pool D) (met : environments.Environment ID3D12Heap) (answer : Result (Unit {0}) Refusal) (new : states.Pool D)
      → pool_renames.RenamesBy is_same_heap t p name old met answer new
      → pool_renames.RenamesBy is_same_heap t p name (pools.over (seen_of g) old) met answer (pools.over (seen_of g) new)
  rename_seen t p name old NothingMet (Ok u) new r = (r.0, ap (pools.over (seen_of g)) r.1)
  rename_seen t p name old NothingMet (Err e) new r = (r.0, ap (pools.over (seen_of g)) r.1)
  rename_seen t p name old NoHostMemory (Ok u) new r = absurd r
  rename_seen t p name old NoHostMemory (Err e) new r = (r.0, r.1, ap (pools.over (seen_of g)) r.2)
  rename_seen t p name old (environments.Answered size answer) result new r = absurd r

  pub rename_step : (a b : Allocation) (name : List ℕ) (old new : State D) (result : Result (Unit {0}) AllocationError) → RenamesNamed is_same_heap a name (pool_of old) result b (pool_of new)
      → (pool_of new).source ≡ (pool_of old).source → new.committed ≡ old.committed → IsStep g (Rename a name) (reply_of_done result) old new
  rename_step a b name old new result r source committed =
      let met = r.record_is.0 in
      still (Rename a name) (reply_of_done result) old new met (
        refl,
        replies.reply_of_done (result_of result),
        done_reply result,
        (
          result_of result,
          refl,
          rename_seen a.memory_type_index (piece_of a) name (pool_of old) met (result_of result) (pool_of new) r.record_is.1,
        ),
        committed,
      ) source

  -- ---- a second place

  abbrev IsMove : Basis → Allocation → AllocationCreateDesc → (again : Bool) → environments.Environment ID3D12Heap → replies.Reply ID3D12Heap → (old new : State D) → Type 0
  IsMove basis a d again met reply old new =
      ProposesBy (SeesQuestion basis.tier) SeesHeapFreed SeesMade SeesReleased basis a d again met reply (pools.over (seen_of g) (pool_of old)) (pools.over (seen_of g) (pool_of new))

  placed_replies : (t : ℕ) (d : AllocationCreateDesc) (result : Result (Option Allocation) AllocationError) (answer : Result (Option (Piece ID3D12Heap)) Refusal) → ReturnsPlace t d.name.now result answer
      → RepliesPlace d result (replies.proposed_as t answer)
  placed_replies t d (Ok (Some a)) (Ok (Some p)) h = h
  placed_replies t d (Ok (Some a)) (Ok None) h = absurd h
  placed_replies t d (Ok (Some a)) (Err r) h = absurd h
  placed_replies t d (Ok None) (Ok (Some p)) h = absurd h
  placed_replies t d (Ok None) (Ok None) h = tt
  placed_replies t d (Ok None) (Err r) h = absurd h
  placed_replies t d (Err e) (Ok o) h = absurd h
  placed_replies t d (Err e) (Err r) h = h

  pub move_step : (a : Allocation) (d : AllocationCreateDesc) (r : Request) → r ≡ request_of d → (old new : State D) (result : Result (Option Allocation) AllocationError) → is_again a.size d ≡ true
      → ProposesNamed is_same_heap a r (pool_of old) result (pool_of new) → (pool_of new).source ≡ (pool_of old).source → new.committed ≡ old.committed → IsMoveStep g a d result old new
  move_step a d r asks old new result again named source committed =
      let t = a.memory_type_index in
      let basis = basis_of g old in
      let k = subst (λ (q : Request). ProposesNamed is_same_heap a q (pool_of old) result (pool_of new)) asks named in
      let met = k.proposes.0 in
      let reply : replies.Reply ID3D12Heap = replies.proposed_as t k.answer in
      let here : IsMove basis a d true met reply old new =
      (k.answer, refl, proposes_over (seen_of g) is_same_heap t (piece_of a) (request_of d) (pool_of old) met k.answer (pool_of new) k.proposes.1) in
      record {
        reply = reply;
        step = still (ProposeMove a d) (module_replies.Pool reply) old new met (
          refl,
          reply,
          refl,
          subst (λ v. IsMove basis a d v met reply old new) (sym again) here,
          committed,
        ) source;
        replies = placed_replies t d result k.answer k.returns;
      }

  -- what isn't the request again is refused
  pub refuse_step : (a : Allocation) (d : AllocationCreateDesc) (s : State D) (e : AllocationError) → refusal_of e ≡ invalid_allocation_create_desc → is_again a.size d ≡ false → IsMoveStep g a d (Err e) s s
  refuse_step a d s e is other =
      let reply : replies.Reply ID3D12Heap = replies.Error invalid_allocation_create_desc in
      let basis = basis_of g s in
      record {
        reply = reply;
        step = still (ProposeMove a d) (module_replies.Pool reply) s s NothingMet (
          refl,
          reply,
          refl,
          subst (λ v. IsMove basis a d v NothingMet reply s s) (sym other) (refl, refl, refl),
          refl,
        ) refl;
        replies = is;
      }

  -- ---- budgets

  same_refusal : (result : Result (Unit {0}) AllocationError) → refusal_in result ≡ calls.refusal_in (result_of result)
  same_refusal (Ok u) = refl
  same_refusal (Err e) = refl

  pub set_step : (t : ℕ) (budget : Option ℕ) (old new : State D) (result : Result (Unit {0}) AllocationError) → SetsBudget t budget old.budgets (refusal_in result) new.budgets
      → new ≡ record old { budgets = new.budgets } → IsStep g (SetBudget t budget) (reply_of_done result) old new
  set_step t budget old new result sets same = still (SetBudget t budget) (reply_of_done result) old new NothingMet (
    refl,
    replies.reply_of_done (result_of result),
    done_reply result,
    (
      refl,
      result_of result,
      refl,
      record {
        budgets = subst (λ r. SetsBudget t budget old.budgets r new.budgets) (same_refusal result) sets;
        state = ap (λ (s : State D). pools.over (seen_of g) (pool_of s)) same;
      },
    ),
    ap (λ (s : State D). s.committed) same,
  ) (ap (λ (s : State D). (pool_of s).source) same)

  -- ---- what is shown

  pub budget_step : (s : State D) (t : ℕ) (budget : Option ℕ) → budget ≡ budget_at s.budgets t → IsStep g (Budget t) (module_replies.Pool (replies.Budget budget)) s s
  budget_step s t budget is = still (Budget t) _ s s NothingMet (refl, replies.Budget budget, refl, (refl, ap replies.Budget is, refl), refl) refl

  pub capacity_step : (s : State D) (n : ℕ) → n ≡ total_capacity s.slots → IsStep g Capacity (module_replies.Pool (replies.Capacity n)) s s
  capacity_step s n is = still Capacity _ s s NothingMet (refl, replies.Capacity n, refl, (refl, ap replies.Capacity is, refl), refl) refl

  pub statistics_step : (s : State D) (t : ℕ) (statistics : _) → statistics ≡ statistics_at s.committed t → IsStep g (Statistics t) (module_replies.Statistics statistics) s s
  statistics_step s t statistics is = still (Statistics t) _ s s NothingMet (refl, ap module_replies.Statistics is, refl) refl

  pub report_step : (s : State D) (result : Result AllocatorReport AllocationError) → IfOk result (λ r. report_of r ≡ whole_report s.slots) → IfErr result (λ e. e ≡ HostOutOfMemory)
      → IsStep g Report (reply_of_report result) s s
  report_step s (Ok r) shown refused = still Report _ s s NothingMet (refl, replies.Report (report_of r), refl, (Ok (report_of r), refl, shown, refl), refl) refl
  report_step s (Err e) shown refused = still Report _ s s NoHostMemory (refl, replies.Error (refusal_of e), refl, (Err (refusal_of e), refl, ap refusal_of refused, refl), refl) refl

  pub leaks_step : (s : State D) (result : Result (Vec (String Global) Global) AllocationError) → IfOk result (λ v. map string_bytes v.items ≡ map leak_text (all_leaks s.slots))
      → IfErr result (λ e. e ≡ HostOutOfMemory) → IsStep g Leaks (leaked_as result) s s
  leaks_step s (Ok v) shown refused = still Leaks _ s s NothingMet (refl, replies.LeakTexts (map string_bytes v.items), refl, (Ok (map string_bytes v.items), refl, shown, refl), refl) refl
  leaks_step s (Err e) shown refused = still Leaks _ s s NoHostMemory (refl, replies.Error (refusal_of e), refl, (Err (refusal_of e), refl, ap refusal_of refused, refl), refl) refl
