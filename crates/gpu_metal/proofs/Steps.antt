-- The calls of an allocator are steps of the model.
use Rattle.std.proofs.Common.{◌≡◌, refl, sym, ap, subst, ℕ, true, false, Bool, List, Option, Some, None, Ok, Err, Result, IfOk, IfErr}
use Rattle.gpu_values.specs.Refusal.{Refusal, refusal_of, refusal_in, invalid_allocation_create_desc}
use Rattle.gpu_values.specs.Report.{report_of}
use Rattle.gpu_values.specs.declared.error.AllocationError.{AllocationError}
use Rattle.gpu_values.specs.declared.error.AllocationError.TheVariants.{HostOutOfMemory}
use Rattle.gpu_values.specs.declared.report.AllocatorReport.{AllocatorReport}
use Rattle.gpu_block_pieces.specs.Request.{Request}
use Rattle.gpu_core.specs.declared.piece.Piece.{Piece}
use Rattle.gpu_device.specs.declared.metal.device.MetalDevice.{Ghosts}
use Rattle.gpu_device.specs.declared.metal.types.MTLHeap.{MTLHeap}
use Rattle.gpu_core.specs.Blocks.{total_capacity}
use Rattle.gpu_core.specs.Budgets.{budget_at, SetsBudget}
use Rattle.gpu_core.specs.Reports.{whole_report}
use Rattle.gpu_core.proofs.Options.{none_some, some_same}
use Rattle.gpu_metal.specs.Describe.{request_of}
use Rattle.gpu_metal.specs.Setup.{kinds_of_device}
use Rattle.gpu_metal.specs.declared.describe.AllocationCreateDesc.{AllocationCreateDesc}
use Rattle.gpu_pool.specs.Allocate.{NothingMet, NoHostMemory}
use Rattle.gpu_pool.specs.Handles.{all_handles}
use Rattle.gpu_pool.specs.Reply as replies
use Rattle.gpu_pool.specs.Reply.{Reply, Error, Done, allocated_as, proposed_as}
use Rattle.gpu_pool.specs.Source.{result_of}
use Rattle.gpu_pool.specs.Step as pools
use Rattle.gpu_pool.proofs.Freeing.{frees_over}
use Rattle.gpu_pool.proofs.Moving.{proposes_over}
use Rattle.gpu_pool.proofs.Serving.{serves_over}
use Rattle.gpu_metal.specs.Allocate.{is_valid, request_in, IsAttempted, AllocatesBy}
use Rattle.gpu_metal.specs.Blocks.{is_same_heap}
use Rattle.gpu_metal.specs.Free.{freed_of, AllocatorFrees}
use Rattle.gpu_pool.specs.Allocation.{piece_of, Returns, ReturnsPlace, ProposesNamed}
use Rattle.gpu_metal.specs.Live.{Allocation}
use Rattle.gpu_metal.specs.Source.{SourceState, AsksBlock, GivesHeapBack, CommitsSet}
use Rattle.gpu_metal.specs.State.{State, pool_of, seen_of, model_of}
use Rattle.gpu_metal.specs.Step.{Free, Commit, SetBudget, Budget, Capacity, LiveHeaps, Report, SeesQuestion, SeesHeapFreed, AllocateStep, is_again, MoveStep, IsStep, Replies, RepliesPlace, IsAllocateStep, IsMoveStep, freed_as, reply_of_done, reply_of_report}

module _ {D : Type 0} (g : Ghosts D) where
  sees_question : (old new : SourceState D) (t size : ℕ) (answer : Result MTLHeap Refusal) → AsksBlock g old t size tt answer new → SeesQuestion (seen_of g old) t size tt answer (seen_of g new)
  sees_question old new t size answer a = record {
    location = a.location;
    at = a.at;
    refusal = a.refusal;
    state = λ i. record { set = ap (λ (s : SourceState D). s.set) a.state i; residency = a.residency i; history = a.asks.history i };
  }

  sees_heap_freed : (old new : SourceState D) (heap : MTLHeap) → GivesHeapBack g old heap new → SeesHeapFreed (seen_of g old) heap (seen_of g new)
  sees_heap_freed old new heap a = λ i. record { set = ap (λ (s : SourceState D). s.set) a.state i; residency = a.residency i; history = a.gives.history_is i }

  -- ---- an allocation

  replies_of : (t : ℕ) (d : AllocationCreateDesc) (result : Result Allocation AllocationError) (answer : Result (Piece MTLHeap) Refusal) → Returns t d.name.now result answer → Replies d result (allocated_as t answer)
  replies_of t d (Ok a) (Ok p) h = h
  replies_of t d (Ok a) (Err r) h = absurd h
  replies_of t d (Err e) (Ok p) h = absurd h
  replies_of t d (Err e) (Err r) h = h

  attempted_step : (d : AllocationCreateDesc) (old new : State D) (result : Result Allocation AllocationError) → is_valid d ≡ true → IsAttempted g d (pool_of old) result (pool_of new)
      → IsAllocateStep g d result old new
  attempted_step d old new result valid a =
      let t = a.memory_type in
      let q = request_in t d in
      let met = a.allocates.0 in
      let reply : Reply MTLHeap = allocated_as t a.answer in
      let serves = serves_over kinds_of_device (AsksBlock g) SeesQuestion (seen_of g) q (pool_of old) (pool_of new)
      (λ size answer k. sees_question (pool_of old).source (pool_of new).source t size answer k) met a.answer a.allocates.1 in
      let here : AllocateStep d true met reply (model_of g old) (model_of g new) = (t, a.first, (a.answer, refl, serves)) in
      record {
        reply = reply;
        step = (met, subst (λ v. AllocateStep d v met reply (model_of g old) (model_of g new)) (sym valid) here);
        replies = replies_of t d result a.answer a.returns;
      }

  refused_replies : (d : AllocationCreateDesc) (result : Result Allocation AllocationError) (r : Refusal) → refusal_in result ≡ Some r → Replies d result (Error r)
  refused_replies d (Ok a) r is = absurd (none_some r is)
  refused_replies d (Err e) r is = some_same (refusal_of e) r is

  pub invalid_step : (d : AllocationCreateDesc) (old new : State D) (result : Result Allocation AllocationError) → is_valid d ≡ false → refusal_in result ≡ Some invalid_allocation_create_desc
      → new ≡ old → IsAllocateStep g d result old new
  invalid_step d old new result invalid is same = record {
    reply = Error invalid_allocation_create_desc;
    step = (
      NothingMet,
      subst (λ v. AllocateStep d v NothingMet (Error invalid_allocation_create_desc) (model_of g old) (model_of g new)) (sym invalid) (refl, refl, ap (model_of g) same),
    );
    replies = refused_replies d result invalid_allocation_create_desc is;
  }

  step_by : (d : AllocationCreateDesc) (valid : Bool) → is_valid d ≡ valid → (old new : State D) (result : Result Allocation AllocationError) → AllocatesBy g d valid old result new → IsAllocateStep g d result old new
  step_by d false is old new result a = invalid_step d old new result is a.0 a.1
  step_by d true is old new result a = attempted_step d old new result is a

  pub allocate_step : (d : AllocationCreateDesc) (old new : State D) (result : Result Allocation AllocationError) → AllocatesBy g d (is_valid d) old result new → IsAllocateStep g d result old new
  allocate_step d old new result a = step_by d (is_valid d) refl old new result a

  -- ---- a second place

  placed_replies : (t : ℕ) (d : AllocationCreateDesc) (result : Result (Option Allocation) AllocationError) (answer : Result (Option (Piece MTLHeap)) Refusal) → ReturnsPlace t d.name.now result answer
      → RepliesPlace d result (proposed_as t answer)
  placed_replies t d (Ok (Some a)) (Ok (Some p)) h = h
  placed_replies t d (Ok (Some a)) (Ok None) h = absurd h
  placed_replies t d (Ok (Some a)) (Err r) h = absurd h
  placed_replies t d (Ok None) (Ok (Some p)) h = absurd h
  placed_replies t d (Ok None) (Ok None) h = tt
  placed_replies t d (Ok None) (Err r) h = absurd h
  placed_replies t d (Err e) (Ok o) h = absurd h
  placed_replies t d (Err e) (Err r) h = h

  pub move_step : (a : Allocation) (d : AllocationCreateDesc) (r : Request) → r ≡ request_of d → (old new : State D) (result : Result (Option Allocation) AllocationError) → is_again a.size d ≡ true
      → ProposesNamed is_same_heap a r (pool_of old) result (pool_of new) → IsMoveStep g a d result old new
  move_step a d r asks old new result again named =
      let t = a.memory_type_index in
      let k = subst (λ (q : Request). ProposesNamed is_same_heap a q (pool_of old) result (pool_of new)) asks named in
      let met = k.proposes.0 in
      let reply : Reply MTLHeap = proposed_as t k.answer in
      let here : MoveStep a d true met reply (model_of g old) (model_of g new) =
      (k.answer, refl, proposes_over (seen_of g) is_same_heap t (piece_of a) (request_of d) (pool_of old) met k.answer (pool_of new) k.proposes.1) in
      record {
        reply = reply;
        step = (met, subst (λ v. MoveStep a d v met reply (model_of g old) (model_of g new)) (sym again) here);
        replies = placed_replies t d result k.answer k.returns;
      }

  -- what isn't the request again is refused
  pub refuse_step : (a : Allocation) (d : AllocationCreateDesc) (s : State D) (e : AllocationError) → refusal_of e ≡ invalid_allocation_create_desc → is_again a.size d ≡ false → IsMoveStep g a d (Err e) s s
  refuse_step a d s e is other = record {
    reply = Error invalid_allocation_create_desc;
    step = (
      NothingMet,
      subst (λ v. MoveStep a d v NothingMet (Error invalid_allocation_create_desc) (model_of g s) (model_of g s)) (sym other) (refl, refl, refl),
    );
    replies = is;
  }

  -- ---- a free

  freed_reply : (result : Result (Unit {0}) (AllocationError × Allocation)) → freed_as result ≡ replies.reply_of_done (freed_of result)
  freed_reply (Ok u) = refl
  freed_reply (Err e) = refl

  pub free_step : (a : Allocation) (old new : State D) (result : Result (Unit {0}) (AllocationError × Allocation)) → AllocatorFrees g a old result new → IsStep g (Free a) (freed_as result) old new
  free_step a old new result f = (
    NothingMet,
    (
      refl,
      freed_of result,
      freed_reply result,
      frees_over (GivesHeapBack g) SeesHeapFreed (seen_of g) is_same_heap a.memory_type_index (piece_of a) (pool_of old) (pool_of new)
          (λ heap k. sees_heap_freed (pool_of old).source (pool_of new).source heap k) (freed_of result) f.frees,
    ),
  )

  -- ---- the set

  pub commit_step : (old new : State D) → CommitsSet g (pool_of old).source (pool_of new).source → new.setup.sizes ≡ old.setup.sizes → new.slots ≡ old.slots → new.budgets ≡ old.budgets
      → IsStep g Commit Done old new
  commit_step old new c sizes slots budgets = (
    NothingMet,
    (
      refl,
      (
        refl,
        λ i. record {
          source = record { set = ap (λ (s : SourceState D). s.set) c.state i; residency = c.residency i; history = c.commits.history_is i };
          sizes = sizes i;
          slots = slots i;
          budgets = budgets i;
        },
      ),
    ),
  )

  -- ---- budgets

  done_reply : (result : Result (Unit {0}) AllocationError) → reply_of_done result ≡ replies.reply_of_done (result_of result)
  done_reply (Ok u) = refl
  done_reply (Err e) = refl

  same_refusal : (result : Result (Unit {0}) AllocationError) → refusal_in result ≡ pools.refusal_in (result_of result)
  same_refusal (Ok u) = refl
  same_refusal (Err e) = refl

  pub set_step : (t : ℕ) (budget : Option ℕ) (old new : State D) (result : Result (Unit {0}) AllocationError) → SetsBudget t budget old.budgets (refusal_in result) new.budgets
      → new ≡ record old { budgets = new.budgets } → IsStep g (SetBudget t budget) (reply_of_done result) old new
  set_step t budget old new result sets same = (
    NothingMet,
    (
      refl,
      result_of result,
      done_reply result,
      record { budgets = subst (λ r. SetsBudget t budget old.budgets r new.budgets) (same_refusal result) sets; state = ap (model_of g) same },
    ),
  )

  -- ---- what is shown

  pub budget_step : (s : State D) (t : ℕ) (budget : Option ℕ) → budget ≡ budget_at s.budgets t → IsStep g (Budget t) (replies.Budget budget) s s
  budget_step s t budget is = (NothingMet, (refl, ap replies.Budget is, refl))

  pub capacity_step : (s : State D) (n : ℕ) → n ≡ total_capacity s.slots → IsStep g Capacity (replies.Capacity n) s s
  capacity_step s n is = (NothingMet, (refl, ap replies.Capacity is, refl))

  pub heaps_step : (s : State D) (heaps : List MTLHeap) → heaps ≡ all_handles s.slots → IsStep g LiveHeaps (replies.Handles heaps) s s
  heaps_step s heaps is = (NothingMet, (refl, ap replies.Handles is, refl))

  pub report_step : (s : State D) (result : Result AllocatorReport AllocationError) → IfOk result (λ r. report_of r ≡ whole_report s.slots) → IfErr result (λ e. e ≡ HostOutOfMemory)
      → IsStep g Report (reply_of_report result) s s
  report_step s (Ok r) shown refused = (NothingMet, (Ok (report_of r), refl, shown, refl))
  report_step s (Err e) shown refused = (NoHostMemory, (Err (refusal_of e), refl, ap refusal_of refused, refl))
