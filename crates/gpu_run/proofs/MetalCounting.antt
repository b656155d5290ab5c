-- The device counts a refusal just where a step met with one.
use Rattle.std.proofs.Common.{◌≡◌, ◌∙◌, ℕ, Bool, true, false, List, Option, Some, None, Result, Ok, Err, refl, ap, sym}
use Rattle.gpu_values.specs.Refusal.{Refusal}
use Rattle.gpu_block_pieces.specs.Request.{Request}
use Rattle.gpu_core.specs.declared.piece.Piece.{Piece}
use Rattle.gpu_device.specs.MetalHistory.{refused_in}
use Rattle.gpu_device.specs.declared.metal.event.Event.{Event}
use Rattle.gpu_device.specs.declared.metal.types.HeapDescriptor.{HeapDescriptor}
use Rattle.gpu_device.specs.declared.metal.types.MTLHeap.{MTLHeap}
use Rattle.gpu_device.specs.declared.metal.types.MTLResidencySet.{MTLResidencySet}
use Rattle.gpu_metal.specs.HeapAnswer.{question_recorded}
use Rattle.gpu_metal.specs.MemoryKinds.{heap_descriptor}
use Rattle.gpu_metal.specs.Residency.{release_recorded, commit_recorded}
use Rattle.gpu_metal.specs.Setup.{kinds_of_device}
use Rattle.gpu_metal.specs.declared.describe.AllocationCreateDesc.{AllocationCreateDesc}
use Rattle.gpu_pool.specs.Allocate.{RequestAt, Environment, NothingMet, NoHostMemory, Answered, PoolServes}
use Rattle.gpu_pool.specs.Free as pools
use Rattle.gpu_pool.specs.Allocation.{piece_of}
use Rattle.gpu_pool.specs.Move.{ProposesBy}
use Rattle.gpu_pool.specs.Reply.{Reply}
use Rattle.gpu_pool.specs.Step.{Makes}
use Rattle.gpu_metal.specs.Allocate.{is_valid}
use Rattle.gpu_metal.specs.Blocks.{is_same_heap}
use Rattle.gpu_metal.specs.Describe.{request_of}
use Rattle.gpu_metal.specs.Live.{Allocation}
use Rattle.gpu_metal.specs.Source.{heap_in}
use Rattle.gpu_metal.specs.State.{Seen, Model}
use Rattle.gpu_metal.specs.Step.{Call, Allocate, Free, ProposeMove, Commit, SetBudget, Report, Step, AllocateStep, is_again, MoveStep, SeesQuestion, SeesHeapFreed}
use Rattle.gpu_run.specs.MetalSession.{refused_after}

-- how many questions the device of a model refused
abbrev pub refusals : Model → ℕ
refusals m = refused_in m.source.history

question_counts : (set : Option MTLResidencySet) (desc : HeapDescriptor) (size : ℕ) (answer : Result MTLHeap Refusal) (before : List Event)
    → refused_in (question_recorded set desc size (heap_in answer) before) ≡ refused_after (Answered size answer) (refused_in before)
question_counts None desc size (Ok heap) before = refl
question_counts (Some set) desc size (Ok heap) before = refl
question_counts set desc size (Err why) before = refl

release_counts : (set : Option MTLResidencySet) (heap : MTLHeap) (before : List Event) → refused_in (release_recorded set heap before) ≡ refused_in before
release_counts None heap before = refl
release_counts (Some set) heap before = refl

commit_counts : (set : Option MTLResidencySet) (before : List Event) → refused_in (commit_recorded set before) ≡ refused_in before
commit_counts None before = refl
commit_counts (Some set) before = refl

asked_counts : (old new : Seen) (t size : ℕ) (answer : Result MTLHeap Refusal) → SeesQuestion old t size tt answer new
    → refused_in new.history ≡ refused_after (Answered size answer) (refused_in old.history)
asked_counts old new t size answer sees =
    ap (λ s. refused_in s.history) sees.state ∙ question_counts old.set (heap_descriptor sees.location) size answer old.history

stays : (old new : Model) → new ≡ old → refusals new ≡ refusals old
stays old new same = ap refusals same

serves_counts : (q : RequestAt (Unit {0})) (old : Model) (met : Environment MTLHeap) (answer : Result (Piece MTLHeap) Refusal) (new : Model)
    → PoolServes kinds_of_device SeesQuestion q old met answer new → refusals new ≡ refused_after met (refusals old)
serves_counts q old NothingMet (Ok p) new h = ap refusals h.state
serves_counts q old NothingMet (Err e) new h = stays old new h.1
serves_counts q old NoHostMemory (Err e) new h = stays old new h.1
serves_counts q old (Answered size (Ok heap)) (Ok p) new h = asked_counts old.source new.source q.memory_type size (Ok heap) h.question
serves_counts q old (Answered size (Err why)) (Err e) new h = asked_counts old.source new.source q.memory_type size (Err why) h.0.question
serves_counts q old met answer new h = absurd h

allocate_counts : (d : AllocationCreateDesc) (valid : Bool) (met : Environment MTLHeap) (reply : Reply MTLHeap) (old new : Model)
    → AllocateStep d valid met reply old new → refusals new ≡ refused_after met (refusals old)
allocate_counts d false met reply old new h = stays old new h.2 ∙ ap (λ m. refused_after m (refusals old)) (sym h.0)
allocate_counts d true met reply old new h = serves_counts _ old met h.2.0 new h.2.2

gone_counts : (old new : Seen) (went : Option MTLHeap) → pools.GivesBackAny SeesHeapFreed old went new → refused_in new.history ≡ refused_in old.history
gone_counts old new None h = ap (λ s. refused_in s.history) h
gone_counts old new (Some heap) h = ap (λ s. refused_in s.history) h ∙ release_counts old.set heap old.history

free_counts : (t : ℕ) (p : Piece MTLHeap) (old : Model) (answer : Result (Unit {0}) Refusal) (new : Model)
    → pools.PoolFrees SeesHeapFreed is_same_heap t p old answer new → refusals new ≡ refusals old
free_counts t p old (Ok _) new h = gone_counts old.source new.source h.1.went h.1.source
free_counts t p old (Err e) new h = stays old new h.2

-- nothing was met with
unmet : (met : Environment MTLHeap) (old new : Model) → met ≡ NothingMet → refusals new ≡ refusals old → refusals new ≡ refused_after met (refusals old)
unmet met old new none same = same ∙ ap (λ m. refused_after m (refusals old)) (sym none)

made_counts : {A : Type 0} (made : A) (met : Environment MTLHeap) (answer : Result A Refusal) (old new : Model)
    → Makes made met answer → new ≡ old → refusals new ≡ refused_after met (refusals old)
made_counts made NothingMet answer old new makes same = stays old new same
made_counts made NoHostMemory answer old new makes same = stays old new same
made_counts made (Answered size heap) answer old new makes same = absurd makes

proposed_counts : (t : ℕ) (p : Piece MTLHeap) (r : Request) (old : Model) (met : Environment MTLHeap) (answer : Result (Option (Piece MTLHeap)) Refusal) (new : Model)
    → ProposesBy is_same_heap t p r old met answer new → refusals new ≡ refused_after met (refusals old)
proposed_counts t p r old NothingMet (Ok (Some to)) new h = ap refusals h.1
proposed_counts t p r old NothingMet (Ok None) new h = stays old new h.1
proposed_counts t p r old NoHostMemory (Err e) new h = stays old new h.1
proposed_counts t p r old met answer new h = absurd h

move_counts : (a : Allocation) (d : AllocationCreateDesc) (again : Bool) (met : Environment MTLHeap) (reply : Reply MTLHeap) (old new : Model)
    → MoveStep a d again met reply old new → refusals new ≡ refused_after met (refusals old)
move_counts a d false met reply old new h = unmet met old new h.0 (stays old new h.2)
move_counts a d true met reply old new h = proposed_counts a.memory_type_index (piece_of a) (request_of d) old met h.0 new h.2

pub step_counts : (call : Call) (met : Environment MTLHeap) (reply : Reply MTLHeap) (old new : Model) → Step call met reply old new → refusals new ≡ refused_after met (refusals old)
step_counts (Allocate d) met reply old new h = allocate_counts d (is_valid d) met reply old new h
step_counts (Free a) met reply old new h = unmet met old new h.0 (free_counts _ _ old h.1 new h.3)
step_counts (ProposeMove a d) met reply old new h = move_counts a d (is_again a.size d) met reply old new h
step_counts Commit met reply old new h = unmet met old new h.0 (ap refusals h.1.1 ∙ commit_counts old.source.set old.source.history)
step_counts (SetBudget t budget) met reply old new h = unmet met old new h.0 (ap refusals h.3.state)
step_counts Report met reply old new h = made_counts _ met h.0 old new h.2 h.3
step_counts call met reply old new h = unmet met old new h.0 (stays old new h.2)
