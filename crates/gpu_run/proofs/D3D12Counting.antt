-- The device counts a refusal just where a step met with one; calls of the pool leave what is held beside the blocks, and the records.
use Rattle.std.proofs.Common.{◌≡◌, ◌∙◌, ℕ, Bool, true, false, List, Option, Some, None, Result, Ok, Err, ap, sym, subst}
use Rattle.gpu_values.specs.Refusal.{Refusal}
use Rattle.gpu_block_pieces.specs.Request.{Request}
use Rattle.gpu_core.specs.declared.piece.Piece.{Piece}
use Rattle.gpu_device.specs.D3D12.{granted_heap}
use Rattle.gpu_device.specs.D3D12History.{refused_in}
use Rattle.gpu_device.specs.Granted.{counted}
use Rattle.gpu_device.specs.declared.d3d12.types.ID3D12Heap.{ID3D12Heap}
use Rattle.gpu_d3d12.specs.HeapAnswer.{HeapAnswer, Granted, Declined, Null, told_answer}
use Rattle.gpu_d3d12.specs.declared.describe.AllocationCreateDesc.{AllocationCreateDesc}
use Rattle.gpu_d3d12.specs.Setup.{kinds_of_device}
use Rattle.gpu_pool.specs.Allocate.{RequestAt, Environment, NothingMet, NoHostMemory, Answered, PoolServes}
use Rattle.gpu_pool.specs.Free as pools
use Rattle.gpu_pool.specs.Move.{ProposesBy}
use Rattle.gpu_pool.specs.Rename.{RenamesBy}
use Rattle.gpu_pool.specs.Reply.{Reply}
use Rattle.gpu_pool.specs.State as pools_state
use Rattle.gpu_pool.specs.Step as calls
use Rattle.gpu_pool.specs.Step.{Makes}
use Rattle.gpu_pool.specs.Allocation.{piece_of}
use Rattle.gpu_d3d12.specs.Allocate.{is_valid}
use Rattle.gpu_d3d12.specs.Blocks.{is_same_heap}
use Rattle.gpu_d3d12.specs.Describe.{request_of}
use Rattle.gpu_d3d12.specs.Live.{Allocation}
use Rattle.gpu_d3d12.specs.Reply as module_replies
use Rattle.gpu_d3d12.specs.Source.{heap_result}
use Rattle.gpu_d3d12.specs.State.{Basis, Seen, Model}
use Rattle.gpu_d3d12.specs.Step as model
use Rattle.gpu_d3d12.specs.Step.{AllocatesBy, is_again, IsPoolCall, OfPool, SeesQuestion, SeesHeapFreed, SeesMade, SeesReleased}
use Rattle.gpu_run.specs.D3D12Session.{refused_by_heap, refused_by_resource, refused_after}

abbrev pub PoolModel : Type 0
PoolModel = pools_state.State Seen ID3D12Heap

-- how many questions the device of a model refused
abbrev pub refusals : Model → ℕ
refusals m = refused_in m.pool.source.history

-- what a call of the pool leaves of what is seen of a device: refusals are counted, and what is held beside the blocks stays
pub record Sees (met : Environment ID3D12Heap) (old new : Seen) : Type 0 where
  pub count : refused_in new.history ≡ refused_by_heap met (refused_in old.history)
  pub beside : new.beside ≡ old.beside

pub quiet_sees : (old new : Seen) → new ≡ old → Sees NothingMet old new
quiet_sees old new same = record { count = ap (λ s. refused_in s.history) same; beside = ap (λ s. s.beside) same }

host_sees : (old new : Seen) → new ≡ old → Sees NoHostMemory old new
host_sees old new same = record { count = ap (λ s. refused_in s.history) same; beside = ap (λ s. s.beside) same }

-- nothing was met with
unmet : (met : Environment ID3D12Heap) (old new : Seen) → met ≡ NothingMet → Sees NothingMet old new → Sees met old new
unmet met old new none sees = subst (λ m. Sees m old new) (sym none) sees

answer_counts : (heap : HeapAnswer) (answer : Result ID3D12Heap Refusal) (size n : ℕ) → answer ≡ heap_result heap
    → counted n (granted_heap (told_answer heap)) ≡ refused_by_heap (Answered size answer) n
answer_counts (Granted number) answer size n is = ap (λ a. refused_by_heap (Answered size a) n) (sym is)
answer_counts (Declined code) answer size n is = ap (λ a. refused_by_heap (Answered size a) n) (sym is)
answer_counts Null answer size n is = ap (λ a. refused_by_heap (Answered size a) n) (sym is)

module _ (basis : Basis) where
  asked_sees : (old new : Seen) (t size : ℕ) (answer : Result ID3D12Heap Refusal) → SeesQuestion basis.tier old t size tt answer new → Sees (Answered size answer) old new
  asked_sees old new t size answer sees = record {
    count = ap (λ s. refused_in s.history) sees.state ∙ answer_counts sees.heap_answer answer size (refused_in old.history) sees.answered;
    beside = ap (λ s. s.beside) sees.state;
  }

  serves_sees : (q : RequestAt (Unit {0})) (old : PoolModel) (met : Environment ID3D12Heap) (answer : Result (Piece ID3D12Heap) Refusal) (new : PoolModel)
      → PoolServes (kinds_of_device basis.tier) (SeesQuestion basis.tier) q old met answer new → Sees met old.source new.source
  serves_sees q old NothingMet (Ok p) new h = quiet_sees old.source new.source (ap (λ s. s.source) h.state)
  serves_sees q old NothingMet (Err e) new h = quiet_sees old.source new.source (ap (λ s. s.source) h.1)
  serves_sees q old NoHostMemory (Err e) new h = host_sees old.source new.source (ap (λ s. s.source) h.1)
  serves_sees q old (Answered size (Ok heap)) (Ok p) new h = asked_sees old.source new.source q.memory_type size (Ok heap) h.question
  serves_sees q old (Answered size (Err why)) (Err e) new h = asked_sees old.source new.source q.memory_type size (Err why) h.0.question
  serves_sees q old met answer new h = absurd h

  gone_sees : (old new : Seen) (went : Option ID3D12Heap) → pools.GivesBackAny SeesHeapFreed old went new → Sees NothingMet old new
  gone_sees old new None h = quiet_sees old new h
  gone_sees old new (Some heap) h = record { count = ap (λ s. refused_in s.history) h; beside = ap (λ s. s.beside) h }

  pub freed_sees : (t : ℕ) (p : Piece ID3D12Heap) (old : PoolModel) (answer : Result (Unit {0}) Refusal) (new : PoolModel)
      → pools.PoolFrees SeesHeapFreed is_same_heap t p old answer new → Sees NothingMet old.source new.source
  freed_sees t p old (Ok _) new h = gone_sees old.source new.source h.1.went h.1.source
  freed_sees t p old (Err e) new h = quiet_sees old.source new.source (ap (λ s. s.source) h.2)

  renamed_sees : (t : ℕ) (p : Piece ID3D12Heap) (name : List ℕ) (old : PoolModel) (met : Environment ID3D12Heap) (answer : Result (Unit {0}) Refusal) (new : PoolModel)
      → RenamesBy is_same_heap t p name old met answer new → Sees met old.source new.source
  renamed_sees t p name old NothingMet (Ok _) new h = quiet_sees old.source new.source (ap (λ s. s.source) h.1)
  renamed_sees t p name old NothingMet (Err e) new h = quiet_sees old.source new.source (ap (λ s. s.source) h.1)
  renamed_sees t p name old NoHostMemory (Ok _) new h = absurd h
  renamed_sees t p name old NoHostMemory (Err e) new h = host_sees old.source new.source (ap (λ s. s.source) h.2)
  renamed_sees t p name old (Answered size answer) result new h = absurd h

  proposed_sees : (t : ℕ) (p : Piece ID3D12Heap) (r : Request) (old : PoolModel) (met : Environment ID3D12Heap) (result : Result (Option (Piece ID3D12Heap)) Refusal) (new : PoolModel)
      → ProposesBy is_same_heap t p r old met result new → Sees met old.source new.source
  proposed_sees t p r old NothingMet (Ok (Some to)) new h = quiet_sees old.source new.source (ap (λ s. s.source) h.1)
  proposed_sees t p r old NothingMet (Ok None) new h = quiet_sees old.source new.source (ap (λ s. s.source) h.1)
  proposed_sees t p r old NoHostMemory (Err e) new h = host_sees old.source new.source (ap (λ s. s.source) h.1)
  proposed_sees t p r old met answer new h = absurd h

  made_sees : {A : Type 0} (made : A) (met : Environment ID3D12Heap) (answer : Result A Refusal) (old new : PoolModel)
      → Makes made met answer → new ≡ old → Sees met old.source new.source
  made_sees made NothingMet answer old new makes same = quiet_sees old.source new.source (ap (λ s. s.source) same)
  made_sees made NoHostMemory answer old new makes same = host_sees old.source new.source (ap (λ s. s.source) same)
  made_sees made (Answered size heap) answer old new makes same = absurd makes

  -- any call of the pool
  pool_sees : (q : calls.Call ID3D12Heap (Unit {0})) (met : Environment ID3D12Heap) (reply : Reply ID3D12Heap) (old new : PoolModel)
      → IsPoolCall (SeesQuestion basis.tier) SeesHeapFreed SeesMade SeesReleased basis q met reply old new → Sees met old.source new.source
  pool_sees (calls.Allocate q) met reply old new h = serves_sees q old met h.0 new h.2
  pool_sees (calls.Free t p) met reply old new h = unmet met old.source new.source h.0 (freed_sees t p old h.1 new h.3)
  pool_sees (calls.Rename t p name) met reply old new h = renamed_sees t p name old met h.0 new h.2
  pool_sees (calls.ProposeMove t p r) met reply old new h = proposed_sees t p r old met h.0 new h.2
  pool_sees (calls.SetBudget t budget) met reply old new h = unmet met old.source new.source h.0 (quiet_sees old.source new.source (ap (λ s. s.source) h.3.state))
  pool_sees calls.Report met reply old new h = made_sees _ met h.0 old new h.2 h.3
  pool_sees calls.LeakTexts met reply old new h = made_sees _ met h.0 old new h.2 h.3
  pool_sees call met reply old new h = unmet met old.source new.source h.0 (quiet_sees old.source new.source (ap (λ s. s.source) h.2))

  pub allocates_sees : (d : AllocationCreateDesc) (valid : Bool) (met : Environment ID3D12Heap) (reply : Reply ID3D12Heap) (old new : PoolModel)
      → AllocatesBy (SeesQuestion basis.tier) SeesHeapFreed SeesMade SeesReleased basis d valid met reply old new → Sees met old.source new.source
  allocates_sees d false met reply old new h = unmet met old.source new.source h.0 (quiet_sees old.source new.source (ap (λ s. s.source) h.2))
  allocates_sees d true met reply old new h = pool_sees (calls.Allocate _) met reply old new h.2

  moves_sees : (a : Allocation) (d : AllocationCreateDesc) (again : Bool) (met : Environment ID3D12Heap) (reply : Reply ID3D12Heap) (old new : PoolModel)
      → model.ProposesBy (SeesQuestion basis.tier) SeesHeapFreed SeesMade SeesReleased basis a d again met reply old new → Sees met old.source new.source
  moves_sees a d false met reply old new h = unmet met old.source new.source h.0 (quiet_sees old.source new.source (ap (λ s. s.source) h.2))
  moves_sees a d true met reply old new h = pool_sees (calls.ProposeMove a.memory_type_index (piece_of a) (request_of d)) met reply old new h

  -- ---- a call that asks for no resource

  -- what such a call met with and leaves
  pub record Leaves (met : model.Environment) (old new : Model) : Type 0 where
    pub count : refusals new ≡ refused_after met (refusals old)
    pub beside : new.pool.source.beside ≡ old.pool.source.beside
    pub committed : new.committed ≡ old.committed
    pub unasked : met.resource ≡ None

  leaves : (met : model.Environment) (old new : Model) → met.resource ≡ None → Sees met.pool old.pool.source new.pool.source → new.committed ≡ old.committed → Leaves met old new
  leaves met old new none sees same = record {
    count = sees.count ∙ ap (λ r. refused_by_resource r (refused_by_heap met.pool (refusals old))) (sym none);
    beside = sees.beside;
    committed = same;
    unasked = none;
  }

  pub pool_leaves : (q : calls.Call ID3D12Heap (Unit {0})) (met : model.Environment) (reply : module_replies.Reply) (old new : Model)
      → OfPool (SeesQuestion basis.tier) SeesHeapFreed SeesMade SeesReleased basis
      (IsPoolCall (SeesQuestion basis.tier) SeesHeapFreed SeesMade SeesReleased basis q) met reply old new → Leaves met old new
  pool_leaves q met reply old new h = leaves met old new h.0 (pool_sees q met.pool h.1 old.pool new.pool h.3) h.4

  pub allocate_leaves : (d : AllocationCreateDesc) (met : model.Environment) (reply : module_replies.Reply) (old new : Model)
      → model.Step basis (model.Allocate d) met reply old new → Leaves met old new
  allocate_leaves d met reply old new h = leaves met old new h.0 (allocates_sees d (is_valid d) met.pool h.1 old.pool new.pool h.3) h.4

  pub move_leaves : (a : Allocation) (d : AllocationCreateDesc) (met : model.Environment) (reply : module_replies.Reply) (old new : Model)
      → model.Step basis (model.ProposeMove a d) met reply old new → Leaves met old new
  move_leaves a d met reply old new h = leaves met old new h.0 (moves_sees a d (is_again a.size d) met.pool h.1 old.pool new.pool h.3) h.4

  pub looked_leaves : (t : ℕ) (met : model.Environment) (reply : module_replies.Reply) (old new : Model) → model.Step basis (model.Statistics t) met reply old new → Leaves met old new
  looked_leaves t met reply old new h = record {
    count = ap refusals h.2 ∙ ap (λ m. refused_after m (refusals old)) (sym h.0);
    beside = ap (λ (m : Model). m.pool.source.beside) h.2;
    committed = ap (λ (m : Model). m.committed) h.2;
    unasked = ap (λ (m : model.Environment). m.resource) h.0;
  }
