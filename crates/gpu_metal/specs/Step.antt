-- An allocator as a model: what each call returns and leaves of its blocks and of what is seen of its device, by what it met with.
use Rattle.std.specs.Prelude.{◌≡◌, ℕ, ◌==◌, ◌&&◌, Bool, true, false, slice_get, Option, Some, None, Result, Ok, Err}
use Rattle.gpu_values.specs.Refusal.{Refusal, refusal_of, invalid_allocation_create_desc}
use Rattle.gpu_values.specs.Report.{report_of}
use Rattle.gpu_values.specs.declared.report.AllocatorReport.{AllocatorReport}
use Rattle.gpu_values.specs.declared.error.AllocationError.{AllocationError}
use Rattle.gpu_values.specs.declared.memory_location.MemoryLocation.{MemoryLocation}
use Rattle.gpu_device.specs.declared.metal.device.MetalDevice.{Ghosts}
use Rattle.gpu_device.specs.declared.metal.types.HeapDescriptor.{HeapDescriptor}
use Rattle.gpu_device.specs.declared.metal.types.MTLHeap.{MTLHeap}
use Rattle.gpu_core.specs.Budgets.{Budgets, budget_at}
use Rattle.gpu_metal.specs.Describe.{request_of}
use Rattle.gpu_metal.specs.HeapAnswer.{question_recorded}
use Rattle.gpu_metal.specs.Residency.{release_recorded, commit_recorded}
use Rattle.gpu_metal.specs.MemoryKinds.{locations, heap_descriptor, IsFirstServing}
use Rattle.gpu_metal.specs.Setup.{kinds_of_device}
use Rattle.gpu_metal.specs.declared.describe.AllocationCreateDesc.{AllocationCreateDesc}
use Rattle.gpu_pool.specs.Allocate.{Environment, NothingMet}
use Rattle.gpu_pool.specs.Reply as replies
use Rattle.gpu_pool.specs.Reply.{Reply, Allocated, Error, SecondPlace, Done}
use Rattle.gpu_pool.specs.Step as pools
use Rattle.gpu_metal.specs.Allocate.{is_valid, request_in}
use Rattle.gpu_metal.specs.Blocks.{is_same_heap}
use Rattle.gpu_pool.specs.Allocation.{IsAllocated, piece_of}
use Rattle.gpu_metal.specs.Live.{Allocation}
use Rattle.gpu_metal.specs.Source.{joined, left, committed, heap_in, IsHeapAnswer}
use Rattle.gpu_metal.specs.State.{State, Seen, Model, model_of}

-- a call of an allocator
pub data Call : Type 0 where
  Allocate : (d : AllocationCreateDesc) → Call
  Free : (a : Allocation) → Call
  ProposeMove : (a : Allocation) (d : AllocationCreateDesc) → Call
  Commit : Call
  SetBudget : (t : ℕ) (budget : Option ℕ) → Call
  Budget : (t : ℕ) → Call
  Capacity : Call
  LiveHeaps : Call
  Report : Call

-- ---- what is seen of a device

-- a device that was asked once for a heap: one that is granted joins the set
abbrev pub with_question : Seen → HeapDescriptor → (size : ℕ) → Option MTLHeap → Seen
with_question old desc size heap = record old { residency = joined old.residency heap; history = question_recorded old.set desc size heap old.history }

-- the device was asked for a heap of the memory type's location and this size
pub record SeesQuestion (old : Seen) (t size : ℕ) (extra : Unit {0}) (answer : Result MTLHeap Refusal) (new : Seen) : Type 0 where
  pub location : MemoryLocation
  pub at : slice_get locations t ≡ Some location
  pub refusal : IsHeapAnswer answer
  pub state : new ≡ with_question old (heap_descriptor location) size (heap_in answer)

-- a heap that goes back, once, is no member of the set
abbrev pub SeesHeapFreed : Seen → MTLHeap → Seen → Type 0
SeesHeapFreed old heap new = new ≡ record old { residency = left old.residency heap; history = release_recorded old.set heap old.history }

-- ---- the steps

-- a call of the pool, over what is seen of its device
abbrev pub PoolStep : Model → pools.Call MTLHeap (Unit {0}) → Environment MTLHeap → Reply MTLHeap → Model → Type 0
PoolStep old call met reply new = pools.Step kinds_of_device SeesQuestion SeesHeapFreed is_same_heap old call met reply new

-- the first memory type that serves the location is asked, where the description is valid
abbrev pub AllocateStep : AllocationCreateDesc → (valid : Bool) → Environment MTLHeap → Reply MTLHeap → Model → Model → Type 0
AllocateStep d false met reply old new = (met ≡ NothingMet) × (reply ≡ Error invalid_allocation_create_desc) × (new ≡ old)
AllocateStep d true met reply old new = (t : ℕ) × IsFirstServing d.location t × PoolStep old (pools.Allocate (request_in t d)) met reply new

-- the request again that a piece of this size was made for
abbrev pub is_again : (size : ℕ) → AllocationCreateDesc → Bool
is_again size d = is_valid d && (d.size == size)

-- a second place for the request again
abbrev pub MoveStep : Allocation → AllocationCreateDesc → (again : Bool) → Environment MTLHeap → Reply MTLHeap → Model → Model → Type 0
MoveStep a d false met reply old new = (met ≡ NothingMet) × (reply ≡ Error invalid_allocation_create_desc) × (new ≡ old)
MoveStep a d true met reply old new = PoolStep old (pools.ProposeMove a.memory_type_index (piece_of a) (request_of d)) met reply new

-- a device whose set was committed: its members are the committed ones
abbrev pub with_commit : Seen → Seen
with_commit old = record old { residency = committed old.residency; history = commit_recorded old.set old.history }

-- the set is committed, where there is one
abbrev pub CommitStep : Reply MTLHeap → Model → Model → Type 0
CommitStep reply old new = (reply ≡ Done) × (new ≡ record old { source = with_commit old.source })

-- from old, the call may return this reply and leave new, where it met with this
abbrev pub Step : Call → Environment MTLHeap → Reply MTLHeap → Model → Model → Type 0
Step (Allocate d) met reply old new = AllocateStep d (is_valid d) met reply old new
Step (Free a) met reply old new = PoolStep old (pools.Free a.memory_type_index (piece_of a)) met reply new
Step (ProposeMove a d) met reply old new = MoveStep a d (is_again a.size d) met reply old new
Step Commit met reply old new = (met ≡ NothingMet) × CommitStep reply old new
Step (SetBudget t budget) met reply old new = PoolStep old (pools.SetBudget t budget) met reply new
Step (Budget t) met reply old new = PoolStep old (pools.Budget t) met reply new
Step Capacity met reply old new = PoolStep old pools.Capacity met reply new
Step LiveHeaps met reply old new = PoolStep old pools.Handles met reply new
Step Report met reply old new = PoolStep old pools.Report met reply new

-- ---- over a device

-- the call is a step of the model; what is seen of the device is just what was met with
abbrev pub IsStep : {D : Type 0} → Ghosts D → Call → Reply MTLHeap → (old new : State D) → Type 0
IsStep g call reply old new = (met : Environment MTLHeap) × Step call met reply (model_of g old) (model_of g new)

-- what an allocation's caller gets is what the model replies
abbrev pub Replies : AllocationCreateDesc → Result Allocation AllocationError → Reply MTLHeap → Type 0
Replies d (Ok a) (Allocated t p) = IsAllocated t d.name.now p a
Replies d (Err e) (Error r) = refusal_of e ≡ r
Replies d _ _ = ⊥

-- an allocation is a step of the model, and its caller gets what the model replies
pub record IsAllocateStep {D : Type 0} (g : Ghosts D) (d : AllocationCreateDesc) (result : Result Allocation AllocationError) (old new : State D) : Type 0 where
  pub reply : Reply MTLHeap
  pub step : IsStep g (Allocate d) reply old new
  pub replies : Replies d result reply

-- the same of a second place's caller
abbrev pub RepliesPlace : AllocationCreateDesc → Result (Option Allocation) AllocationError → Reply MTLHeap → Type 0
RepliesPlace d (Ok (Some a)) (SecondPlace t (Some p)) = IsAllocated t d.name.now p a
RepliesPlace d (Ok None) (SecondPlace t None) = Unit {0}
RepliesPlace d (Err e) (Error r) = refusal_of e ≡ r
RepliesPlace d _ _ = ⊥

-- looking for a second place is a step of the model, and its caller gets what the model replies
pub record IsMoveStep {D : Type 0} (g : Ghosts D) (a : Allocation) (d : AllocationCreateDesc) (result : Result (Option Allocation) AllocationError) (old new : State D) : Type 0 where
  pub reply : Reply MTLHeap
  pub step : IsStep g (ProposeMove a d) reply old new
  pub replies : RepliesPlace d result reply

-- the reply to a free
abbrev pub freed_as : Result (Unit {0}) (AllocationError × Allocation) → Reply MTLHeap
freed_as (Ok _) = Done
freed_as (Err e) = Error (refusal_of e.0)

-- the reply to a call that is done or refused
abbrev pub reply_of_done : Result (Unit {0}) AllocationError → Reply MTLHeap
reply_of_done (Ok _) = Done
reply_of_done (Err e) = Error (refusal_of e)

-- the reply to a call for a report
abbrev pub reply_of_report : Result AllocatorReport AllocationError → Reply MTLHeap
reply_of_report (Ok r) = replies.Report (report_of r)
reply_of_report (Err e) = Error (refusal_of e)

-- ---- calls that meet no budget

-- the call isn't about budgets, and asks no memory type that has one
abbrev pub MeetsNoBudget : Call → Budgets → Type 0
MeetsNoBudget (Allocate d) budgets = (t : ℕ) → IsFirstServing d.location t → budget_at budgets t ≡ None
MeetsNoBudget (SetBudget t budget) budgets = ⊥
MeetsNoBudget (Budget t) budgets = ⊥
MeetsNoBudget call budgets = Unit {0}
