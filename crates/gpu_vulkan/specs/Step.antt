-- An allocator as a model: what each call returns and leaves of its blocks, budgets and bytes, by what it met with.
use Rattle.std.specs.Prelude.{◌≡◌, ℕ, ◌==◌, ◌&&◌, not, Vec, String, Bool, true, false, List, map, string_bytes, Option, Some, None, Result, Ok, Err}
use Rattle.std.specs.Global.{Global}
use Rattle.std.specs.Int.NonZero.{non_zero_u64_get}
use Rattle.gpu_values.specs.Refusal.{Refusal, refusal_of, no_compatible_memory_type_found, invalid_allocation_create_desc}
use Rattle.gpu_block_pieces.specs.Leak.{leak_text}
use Rattle.gpu_values.specs.Report.{report_of}
use Rattle.gpu_values.specs.declared.report.AllocatorReport.{AllocatorReport}
use Rattle.gpu_values.specs.declared.error.AllocationError.{AllocationError}
use Rattle.gpu_core.specs.declared.piece.Piece.{Piece}
use Rattle.gpu_device.specs.declared.vulkan.device.VulkanDevice.{Ghosts}
use Rattle.gpu_device.specs.declared.vulkan.event.Event.{Event}
use Rattle.gpu_device.specs.declared.vulkan.types.DeviceMemory.{DeviceMemory}
use Rattle.gpu_device.specs.declared.vulkan.types.MemoryAllocateInfo.{MemoryAllocateInfo}
use Rattle.gpu_vulkan.specs.Allocate.{Attempts, next_type, is_valid}
use Rattle.gpu_vulkan.specs.Attempt.{AttemptEnvironment, Asked, Answer, unseen, AnyBlockBack}
use Rattle.gpu_vulkan.specs.BlockAnswer.{BlockAnswer, Declined, Granted, Mapped, NotMapped, refused_after, question_recorded, free_recorded}
use Rattle.gpu_vulkan.specs.Types.{is_mapped}
use Rattle.gpu_vulkan.specs.Blocks.{Slots}
use Rattle.gpu_core.specs.Blocks.{total_capacity}
use Rattle.gpu_vulkan.specs.ByteView.{AllocationId, ByteView, byte_view_of, SplitsRest, JoinsRest, AddsBlock, DropsBlock, Writes}
use Rattle.gpu_vulkan.specs.Choice.{best_type}
use Rattle.gpu_vulkan.specs.Describe.{requests_dedicated, request_of}
use Rattle.gpu_vulkan.specs.Lends.{number_in}
use Rattle.gpu_vulkan.specs.Live.{is_same_memory, IsLiveIn}
use Rattle.gpu_vulkan.specs.Live.{piece_of, IsAllocated, IsMapped}
use Rattle.gpu_core.specs.Budgets.{Budgets, budget_at}
use Rattle.gpu_core.specs.Leaks.{all_leaks}
use Rattle.gpu_core.specs.Reports.{whole_report}
use Rattle.gpu_vulkan.specs.Setup.{Setup}
use Rattle.gpu_vulkan.specs.State.{State}
use Rattle.gpu_vulkan.specs.declared.allocation.Allocation.{Allocation}
use Rattle.gpu_vulkan.specs.declared.describe.AllocationCreateDesc.{AllocationCreateDesc}
use Rattle.gpu_pool.specs.Allocate.{Environment, NothingMet, NoHostMemory}
use Rattle.gpu_pool.specs.Free.{FreesPiece}
use Rattle.gpu_pool.specs.Move.{ProposesBy}
use Rattle.gpu_pool.specs.Rename.{RenamesBy}
use Rattle.gpu_pool.specs.State as pools
use Rattle.gpu_pool.specs.Step.{Makes, SetsBudgetOf}
use Rattle.gpu_core.specs.Release.{IsReleaseRefusal}
use Rattle.gpu_values.specs.Report as reports
use Rattle.gpu_vulkan.specs.Reply as replies
use Rattle.gpu_vulkan.specs.Reply.{Reply, Allocated, Error, SecondPlace, Done, Bytes, done_with, placed_with, report_with, leaks_with}

-- the blocks with their pieces, the budgets of memory types, the bytes, and all that the device was asked and given back, newest first
pub record ModelState : Type 0 where
  pub slots : Slots
  pub budgets : Budgets
  pub byte_view : ByteView
  pub history : List Event

abbrev pub model_of : {D : Type 0} → Ghosts D → State D → ModelState
model_of g s = record { slots = s.slots; budgets = s.budgets; byte_view = byte_view_of (g.held s.device) s.slots; history = g.history s.device }

pub data Call : Type 0 where
  Allocate : (d : AllocationCreateDesc) → Call
  Free : (a : Allocation) → Call
  Rename : (a : Allocation) (name : List ℕ) → Call
  ProposeMove : (a : Allocation) (d : AllocationCreateDesc) → Call
  Write : (a : Allocation) (bytes : List ℕ) → Call
  Read : (a : Allocation) → Call
  Capacity : Call
  Report : Call
  Leaks : Call
  SetBudget : (t : ℕ) (budget : Option ℕ) → Call
  Budget : (t : ℕ) → Call

-- what a call meets with at its attempts; only an allocation for an upload may make a second one
pub record CallEnvironment : Type 0 where
  pub first : AttemptEnvironment
  pub second : AttemptEnvironment

-- host memory is enough, and no question is asked
abbrev pub nothing_met : AttemptEnvironment
nothing_met = record { host = true; asked = None }

abbrev pub MeetsNothing : CallEnvironment → Type 0
MeetsNothing o = (o.first ≡ nothing_met) × (o.second ≡ nothing_met)

-- ---- an allocation

abbrev pub id_in : (t : ℕ) → Piece DeviceMemory → AllocationId
id_in t p = record { memory_type = t; slot = p.slot; chunk_id = non_zero_u64_get p.chunk_id }

-- the bytes of the new block, where it is mapped
abbrev pub answer_bytes : BlockAnswer → Option (List ℕ)
answer_bytes (Declined code) = None
answer_bytes (Granted number) = None
answer_bytes (Mapped number bytes) = Some bytes
answer_bytes (NotMapped number code) = None

-- what an attempt at the t-th memory type leaves of the bytes: a refusal leaves them, and a piece's list comes out of the rest, to which a new block's bytes are added before
abbrev pub BytesAfter : (mapped : Bool) → (t : ℕ) → Option Asked → Answer → ByteView → ByteView → Type 0
BytesAfter mapped t asked (Err r) old new = new ≡ old
BytesAfter mapped t None (Ok p) old new = SplitsRest mapped (id_in t p) p.offset p.size old new
BytesAfter mapped t (Some a) (Ok p) old new =
    (mid : ByteView) × AddsBlock t p.slot (answer_bytes a.answer) old mid × SplitsRest mapped (id_in t p) p.offset p.size mid new

-- what the history has more after an attempt: its question, where it asked one
abbrev pub asked_recorded : Option Asked → List Event → List Event
asked_recorded None before = before
asked_recorded (Some a) before = question_recorded a.info a.answer before

pub record AttemptStep (setup : Setup) (t : ℕ) (d : AllocationCreateDesc) (o : AttemptEnvironment) (answer : Answer) (old new : ModelState) : Type 0 where
  pub slots : Attempts setup old.budgets old.slots t d o answer new.slots
  pub budgets : new.budgets ≡ old.budgets
  pub bytes : BytesAfter (is_mapped setup.properties t) t o.asked answer old.byte_view new.byte_view
  pub recorded : new.history ≡ asked_recorded o.asked old.history

abbrev pub reply_of : (t : ℕ) → Answer → Reply
reply_of t (Ok p) = Allocated t p
reply_of t (Err r) = Error r

-- the memory type of the second attempt, where there is one
abbrev pub next_by : Setup → AllocationCreateDesc → Answer → Option ℕ
next_by setup d (Ok p) = None
next_by setup d (Err r) = next_type setup d r

-- after the first answer, at the t-th memory type, the second one counts, where there is one
abbrev pub Follows : Setup → AllocationCreateDesc → Option ℕ → AttemptEnvironment → (t : ℕ) → Answer → ModelState → Reply → ModelState → Type 0
Follows setup d None o t first mid reply new = (o ≡ nothing_met) × (reply ≡ reply_of t first) × (new ≡ mid)
Follows setup d (Some u) o t first mid reply new = (answer : Answer) × AttemptStep setup u d o answer mid new × (reply ≡ reply_of u answer)

pub record ServeStep (setup : Setup) (t : ℕ) (d : AllocationCreateDesc) (o : CallEnvironment) (reply : Reply) (old new : ModelState) : Type 0 where
  pub answer : Answer
  pub mid : ModelState
  pub attempt : AttemptStep setup t d o.first answer old mid
  pub follows : Follows setup d (next_by setup d answer) o.second t answer mid reply new

pub record RefuseStep (refusal : Refusal) (o : CallEnvironment) (reply : Reply) (old new : ModelState) : Type 0 where
  pub met : MeetsNothing o
  pub reply_is : reply ≡ Error refusal
  pub same : new ≡ old

abbrev pub FoundStep : Setup → AllocationCreateDesc → Option ℕ → CallEnvironment → Reply → ModelState → ModelState → Type 0
FoundStep setup d None o reply old new = RefuseStep no_compatible_memory_type_found o reply old new
FoundStep setup d (Some t) o reply old new = ServeStep setup t d o reply old new

abbrev pub AllocateStep : Setup → AllocationCreateDesc → (valid : Bool) → CallEnvironment → Reply → ModelState → ModelState → Type 0
AllocateStep setup d false o reply old new = RefuseStep invalid_allocation_create_desc o reply old new
AllocateStep setup d true o reply old new = FoundStep setup d (best_type setup.properties.types d.requirements.memory_type_bits d.location) o reply old new

-- ---- a free

-- the blocks and budgets of a model, as a pool
abbrev pub pool_in : Setup → ModelState → pools.State (Unit {0}) DeviceMemory
pool_in setup s = unseen setup s.budgets s.slots

-- the block goes, or it stays
abbrev pub MayDrop : (t i : ℕ) → Option DeviceMemory → ByteView → ByteView → Type 0
MayDrop t i None mid new = new ≡ mid
MayDrop t i (Some memory) mid new = DropsBlock t i mid new

-- what the history has more then: the memory of the block that goes, once
abbrev pub went_recorded : (mapped : Bool) → Option DeviceMemory → List Event → List Event
went_recorded mapped None before = before
went_recorded mapped (Some memory) before = free_recorded mapped memory before

-- a live piece is freed, and its list goes back into the rest
pub record FreedStep (setup : Setup) (t : ℕ) (p : Piece DeviceMemory) (old new : ModelState) : Type 0 where
  pub live : IsLiveIn old.slots t (Some p)
  pub frees : FreesPiece AnyBlockBack t p (pool_in setup old) (pool_in setup new)
  pub mid : ByteView
  pub back : JoinsRest (id_in t p) p.offset p.size old.byte_view mid
  pub drops : MayDrop t p.slot frees.went mid new.byte_view
  pub recorded : new.history ≡ went_recorded (is_mapped setup.properties t) frees.went old.history

-- a null allocation is nothing to free, and of a piece that isn't live nothing changes
abbrev pub FreeStep : Setup → (t : ℕ) → Option (Piece DeviceMemory) → Result (Unit {0}) Refusal → ModelState → ModelState → Type 0
FreeStep setup t None (Ok _) old new = new ≡ old
FreeStep setup t None (Err r) old new = ⊥
FreeStep setup t (Some p) (Ok _) old new = FreedStep setup t p old new
FreeStep setup t (Some p) (Err r) old new = (IsLiveIn old.slots t (Some p) → ⊥) × IsReleaseRefusal is_same_memory t old.slots p r × (new ≡ old)

-- ---- a new name

-- the call asks the device nothing
abbrev pub AsksNothing : CallEnvironment → Type 0
AsksNothing o = (o.first.asked ≡ None) × (o.second ≡ nothing_met)

-- what such a call met with, as a pool's
abbrev pub host_met : (host : Bool) → Environment DeviceMemory
host_met true = NothingMet
host_met false = NoHostMemory

-- no byte changes, and the device is asked nothing and given nothing back
pub record KeepsTheRest (old new : ModelState) : Type 0 where
  pub byte_view : new.byte_view ≡ old.byte_view
  pub history : new.history ≡ old.history

-- a live piece's record has another name, or the null allocation has no record; no byte changes
abbrev pub RenameStep : Setup → (t : ℕ) → Option (Piece DeviceMemory) → (name : List ℕ) → (host : Bool) → Result (Unit {0}) Refusal → ModelState → ModelState → Type 0
RenameStep setup t None name host answer old new = Makes tt (host_met host) answer × (new ≡ old)
RenameStep setup t (Some p) name host answer old new =
    RenamesBy is_same_memory t p name (pool_in setup old) (host_met host) answer (pool_in setup new) × KeepsTheRest old new

-- ---- a second place

-- what is answered: a second place, None where there is none, or why neither
abbrev pub Place : Type 0
Place = Result (Option (Piece DeviceMemory)) Refusal

-- the request again that a piece of this size was made for: valid, and for a block that it may share
abbrev pub is_again : (size : ℕ) → AllocationCreateDesc → Bool
is_again size d = is_valid d && ((d.requirements.size == size) && not (requests_dedicated d.allocation_scheme))

-- a second place for a piece of the t-th memory type, as a pool proposes one; a null allocation has none
abbrev pub Proposes : {S : Type 0} → (t : ℕ) → Option (Piece DeviceMemory) → AllocationCreateDesc → (host : Bool) → pools.State S DeviceMemory → Place → pools.State S DeviceMemory → Type 0
Proposes t None d host old answer new = (host ≡ true) × (answer ≡ Ok None) × (new ≡ old)
Proposes t (Some p) d host old answer new = ProposesBy is_same_memory t p (request_of d) old (host_met host) answer new

-- what a second place leaves of the bytes: its list comes out of the rest
abbrev pub BytesPlaced : (mapped : Bool) → (t : ℕ) → Place → ByteView → ByteView → Type 0
BytesPlaced mapped t (Ok (Some p)) old new = SplitsRest mapped (id_in t p) p.offset p.size old new
BytesPlaced mapped t (Ok None) old new = new ≡ old
BytesPlaced mapped t (Err r) old new = new ≡ old

-- a second place is looked for; the device is asked nothing and given nothing back
pub record PlaceStep (setup : Setup) (t : ℕ) (p : Option (Piece DeviceMemory)) (d : AllocationCreateDesc) (host : Bool) (answer : Place) (old new : ModelState) : Type 0 where
  pub proposes : Proposes t p d host (pool_in setup old) answer (pool_in setup new)
  pub bytes : BytesPlaced (is_mapped setup.properties t) t answer old.byte_view new.byte_view
  pub recorded : new.history ≡ old.history

-- a second place for the request again
abbrev pub MoveStep : Setup → Allocation → AllocationCreateDesc → (again : Bool) → CallEnvironment → Reply → ModelState → ModelState → Type 0
MoveStep setup a d false o reply old new = RefuseStep invalid_allocation_create_desc o reply old new
MoveStep setup a d true o reply old new =
    AsksNothing o × (answer : Place) × (reply ≡ placed_with a.memory_type_index answer) × PlaceStep setup a.memory_type_index (piece_of a) d o.first.host answer old new

-- ---- bytes

abbrev pub id_of : Allocation → AllocationId
id_of a = record { memory_type = a.memory_type_index; slot = a.memory_block_index; chunk_id = number_in a.chunk_id }

pub record WriteStep (setup : Setup) (a : Allocation) (bytes : List ℕ) (old new : ModelState) : Type 0 where
  pub live : IsMapped setup.properties old.slots a
  pub slots : new.slots ≡ old.slots
  pub budgets : new.budgets ≡ old.budgets
  pub history : new.history ≡ old.history
  pub writes : Writes (id_of a) bytes old.byte_view new.byte_view

-- a live allocation in mapped memory reads as its list, and any other has no bytes
abbrev pub IsRead : Setup → Allocation → ModelState → Option (List ℕ) → Type 0
IsRead setup a s None = IsMapped setup.properties s.slots a → ⊥
IsRead setup a s (Some xs) = IsMapped setup.properties s.slots a × (s.byte_view.allocation_bytes (id_of a) ≡ Some xs)

-- ---- any call

-- from old, the call may return this reply and leave new, where it met with this
abbrev pub Step : Setup → Call → CallEnvironment → Reply → ModelState → ModelState → Type 0
Step setup (Allocate d) o reply old new = AllocateStep setup d (is_valid d) o reply old new
Step setup (Free a) o reply old new = MeetsNothing o × (answer : Result (Unit {0}) Refusal) × (reply ≡ done_with answer) × FreeStep setup a.memory_type_index (piece_of a) answer old new
Step setup (Rename a name) o reply old new =
    AsksNothing o × (answer : Result (Unit {0}) Refusal) × (reply ≡ done_with answer) × RenameStep setup a.memory_type_index (piece_of a) name o.first.host answer old new
Step setup (ProposeMove a d) o reply old new = MoveStep setup a d (is_again a.size d) o reply old new
Step setup (Write a bytes) o reply old new = MeetsNothing o × (reply ≡ Done) × WriteStep setup a bytes old new
Step setup (Read a) o reply old new = MeetsNothing o × (bytes : Option (List ℕ)) × (reply ≡ Bytes bytes) × IsRead setup a old bytes × (new ≡ old)
Step setup Capacity o reply old new = MeetsNothing o × (reply ≡ replies.Capacity (total_capacity old.slots)) × (new ≡ old)
Step setup Report o reply old new =
    AsksNothing o × (answer : Result reports.Report Refusal) × (reply ≡ report_with answer) × Makes (whole_report old.slots) (host_met o.first.host) answer × (new ≡ old)
Step setup Leaks o reply old new =
    AsksNothing o × (answer : Result (List (List ℕ)) Refusal) × (reply ≡ leaks_with answer) × Makes (map leak_text (all_leaks old.slots)) (host_met o.first.host) answer × (new ≡ old)
Step setup (SetBudget t budget) o reply old new =
    MeetsNothing o × (answer : Result (Unit {0}) Refusal) × (reply ≡ done_with answer) × SetsBudgetOf t budget (pool_in setup old) answer (pool_in setup new) × KeepsTheRest old new
Step setup (Budget t) o reply old new = MeetsNothing o × (reply ≡ replies.Budget (budget_at old.budgets t)) × (new ≡ old)

-- ---- over a device

-- the count of refusals and the latest question after an attempt
abbrev pub count_after : ℕ → Option Asked → ℕ
count_after count None = count
count_after count (Some a) = refused_after count a.answer

abbrev pub latest_after : Option MemoryAllocateInfo → Option Asked → Option MemoryAllocateInfo
latest_after latest None = latest
latest_after latest (Some a) = Some a.info

-- the call is a step of the model at some environment, and their refusals and questions are what the device counts and names
pub record IsStep {D : Type 0} (g : Ghosts D) (call : Call) (reply : Reply) (old new : State D) : Type 0 where
  pub environment : CallEnvironment
  pub step : Step old.setup call environment reply (model_of g old) (model_of g new)
  pub count : g.refused new.device ≡ count_after (count_after (g.refused old.device) environment.first.asked) environment.second.asked
  pub latest : g.latest new.device ≡ latest_after (latest_after (g.latest old.device) environment.first.asked) environment.second.asked

-- what an allocation's caller gets is what the model replies
abbrev pub Replies : Setup → AllocationCreateDesc → Result Allocation AllocationError → Reply → Type 0
Replies setup d (Ok a) (Allocated t p) = IsAllocated setup t d p a
Replies setup d (Err e) (Error r) = refusal_of e ≡ r
Replies setup d _ _ = ⊥

pub record IsAllocateStep {D : Type 0} (g : Ghosts D) (d : AllocationCreateDesc) (result : Result Allocation AllocationError) (old new : State D) : Type 0 where
  pub reply : Reply
  pub step : IsStep g (Allocate d) reply old new
  pub replies : Replies old.setup d result reply

-- the same of a second place's caller
abbrev pub RepliesPlace : Setup → AllocationCreateDesc → Result (Option Allocation) AllocationError → Reply → Type 0
RepliesPlace setup d (Ok (Some a)) (SecondPlace t (Some p)) = IsAllocated setup t d p a
RepliesPlace setup d (Ok None) (SecondPlace t None) = Unit {0}
RepliesPlace setup d (Err e) (Error r) = refusal_of e ≡ r
RepliesPlace setup d _ _ = ⊥

pub record IsMoveStep {D : Type 0} (g : Ghosts D) (a : Allocation) (d : AllocationCreateDesc) (result : Result (Option Allocation) AllocationError) (old new : State D) : Type 0 where
  pub reply : Reply
  pub step : IsStep g (ProposeMove a d) reply old new
  pub replies : RepliesPlace old.setup d result reply

abbrev pub freed_as : Result (Unit {0}) (AllocationError × Allocation) → Reply
freed_as (Ok _) = Done
freed_as (Err e) = Error (refusal_of e.0)

abbrev pub reply_of_done : Result (Unit {0}) AllocationError → Reply
reply_of_done (Ok _) = Done
reply_of_done (Err e) = Error (refusal_of e)

abbrev pub reply_of_report : Result AllocatorReport AllocationError → Reply
reply_of_report (Ok r) = replies.Report (report_of r)
reply_of_report (Err e) = Error (refusal_of e)

abbrev pub reply_of_leaks : Result (Vec (String Global) Global) AllocationError → Reply
reply_of_leaks (Ok v) = replies.Leaks (map string_bytes v.items)
reply_of_leaks (Err e) = Error (refusal_of e)
