-- A session as a model: what the caller's numbers stand for, and the allocator's blocks and bytes; and what a command makes of them and is answered.
use Rattle.std.specs.Prelude.{◌≡◌, ◌≢◌, ◌⊎◌, ℕ, ◌+◌, ◌++◌, nat_le, Bool, true, false, if◌then◌else◌, List, [], ◌∷◌, length, take, drop, Option, Some, None}
use Rattle.std.specs.Int.NonZero.{non_zero_u64_get}
use Rattle.gpu_values.specs.Refusal.{host_out_of_memory}
use Rattle.gpu_core.specs.declared.piece.Piece.{Piece}
use Rattle.gpu_device.specs.declared.vulkan.types.DeviceMemory.{DeviceMemory}
use Rattle.gpu_vulkan.specs.Types.{is_mapped}
use Rattle.gpu_core.specs.Blocks.{BlocksWellFormed}
use Rattle.gpu_vulkan.specs.Describe.{requests_dedicated}
use Rattle.gpu_vulkan.specs.Lends.{AreDistinct}
use Rattle.gpu_vulkan.specs.Live.{piece_of, null_allocation, IsLive, IsAllocated}
use Rattle.gpu_vulkan.specs.Rename.{IsNamed}
use Rattle.gpu_vulkan.specs.Setup.{Setup}
use Rattle.gpu_vulkan.specs.Reply as answers
use Rattle.gpu_vulkan.specs.Step as model
use Rattle.gpu_vulkan.specs.Step.{ModelState, CallEnvironment, MeetsNothing, IsRead, Step}
use Rattle.gpu_vulkan.specs.declared.allocation.Allocation.{Allocation}
use Rattle.gpu_vulkan.specs.declared.describe.AllocationCreateDesc.{AllocationCreateDesc}
use Rattle.gpu_run.specs.Bindings.{Bindings, bind}
use Rattle.gpu_run.specs.VulkanCommand.{Wanted, Describes, KeyCommand, Alloc, Move, Null, Free, Rename, Write, Read, SessionCommand, Under, Report, Leaks, Capacity, SetBudget}
use Rattle.gpu_run.specs.VulkanReply as replies
use Rattle.gpu_run.specs.VulkanReply.{Shown, SessionReply, Allocated, Done, Bytes, Busy, Unbound, NoPlace, Unmapped, OutOfRange, Error}

-- ---- states

pub record SessionState : Type 0 where
  pub bound : Bindings Allocation
  pub model : ModelState

-- each number stands for a live allocation or a null one, and no two for one piece
pub record IsOwn (s : SessionState) : Type 0 where
  pub live : (key : ℕ) (a : Allocation) → s.bound key ≡ Some a → (piece_of a ≡ None) ⊎ IsLive s.model.slots a
  pub apart : (key other : ℕ) (a b : Allocation) → s.bound key ≡ Some a → s.bound other ≡ Some b
      → IsLive s.model.slots a → IsLive s.model.slots b → key ≢ other → AreDistinct a b

abbrev pub shown : Setup → Wanted → (t : ℕ) → Piece DeviceMemory → Shown
shown setup w t p = record {
  memory_type = t;
  slot = p.slot;
  offset = p.offset;
  size = p.size;
  chunk_id = non_zero_u64_get p.chunk_id;
  dedicated = requests_dedicated w.scheme;
  mapped = is_mapped setup.properties t;
}

-- what a command meets with: host memory for the session's own room, and what its call of the allocator meets with
pub record CommandEnvironment : Type 0 where
  pub room : Bool
  pub call : CallEnvironment

-- ---- commands

-- no call is made, and nothing changes
abbrev pub Stays : CommandEnvironment → SessionState → SessionState → Type 0
Stays o old new = MeetsNothing o.call × (new ≡ old)

-- what the allocator's reply to a request binds and is answered
abbrev pub Binds : Setup → (key : ℕ) → Wanted → AllocationCreateDesc → answers.Reply → SessionReply → (old new : Bindings Allocation) → Type 0
Binds setup key w d (answers.Allocated t p) reply old new = (a : Allocation) × IsAllocated setup t d p a × (reply ≡ Allocated (shown setup w t p)) × (new ≡ bind old key (Some a))
Binds setup key w d (answers.Error r) reply old new = (reply ≡ Error r) × (new ≡ old)
Binds setup key w d _ reply old new = ⊥

pub record AllocatesFor (setup : Setup) (key : ℕ) (w : Wanted) (o : CallEnvironment) (reply : SessionReply) (old new : SessionState) : Type 0 where
  pub description : AllocationCreateDesc
  pub describes : Describes description w
  pub model_reply : answers.Reply
  pub step : Step setup (model.Allocate description) o model_reply old.model new.model
  pub binds : Binds setup key w description model_reply reply old.bound new.bound

-- a request under a free number: first room is made for the number
abbrev pub ServesAlloc : Setup → (key : ℕ) → Wanted → (room : Bool) → CallEnvironment → SessionReply → SessionState → SessionState → Type 0
ServesAlloc setup key w false o reply old new = MeetsNothing o × (reply ≡ Error host_out_of_memory) × (new ≡ old)
ServesAlloc setup key w true o reply old new = AllocatesFor setup key w o reply old new

-- what the allocator's reply to a proposed move binds and is answered
abbrev pub BindsPlace : Setup → (to : ℕ) → Wanted → AllocationCreateDesc → answers.Reply → SessionReply → (old new : Bindings Allocation) → Type 0
BindsPlace setup to w d (answers.SecondPlace t (Some p)) reply old new = (a : Allocation) × IsAllocated setup t d p a × (reply ≡ Allocated (shown setup w t p)) × (new ≡ bind old to (Some a))
BindsPlace setup to w d (answers.SecondPlace t None) reply old new = (reply ≡ NoPlace) × (new ≡ old)
BindsPlace setup to w d (answers.Error r) reply old new = (reply ≡ Error r) × (new ≡ old)
BindsPlace setup to w d _ reply old new = ⊥

pub record ProposesFor (setup : Setup) (to : ℕ) (a : Allocation) (w : Wanted) (o : CallEnvironment) (reply : SessionReply) (old new : SessionState) : Type 0 where
  pub description : AllocationCreateDesc
  pub describes : Describes description w
  pub model_reply : answers.Reply
  pub step : Step setup (model.ProposeMove a description) o model_reply old.model new.model
  pub binds : BindsPlace setup to w description model_reply reply old.bound new.bound

-- a second place under a free number: first room is made for the number
abbrev pub ServesMoveTo : Setup → (to : ℕ) → Allocation → Wanted → (room : Bool) → CallEnvironment → SessionReply → SessionState → SessionState → Type 0
ServesMoveTo setup to a w false o reply old new = MeetsNothing o × (reply ≡ Error host_out_of_memory) × (new ≡ old)
ServesMoveTo setup to a w true o reply old new = ProposesFor setup to a w o reply old new

-- the same under a number that may stand for an allocation
abbrev pub ServesMove : Setup → (to : ℕ) → Option Allocation → Allocation → Wanted → CommandEnvironment → SessionReply → SessionState → SessionState → Type 0
ServesMove setup to (Some b) a w o reply old new = (reply ≡ Busy) × Stays o old new
ServesMove setup to None a w o reply old new = ServesMoveTo setup to a w o.room o.call reply old new

-- a null allocation under a free number
abbrev pub ServesNull : (key : ℕ) → (room : Bool) → SessionReply → SessionState → SessionState → Type 0
ServesNull key false reply old new = (reply ≡ Error host_out_of_memory) × (new ≡ old)
ServesNull key true reply old new = (reply ≡ Done) × (new ≡ record old { bound = bind old.bound key (Some null_allocation) })

pub record SessionFrees (setup : Setup) (key : ℕ) (a : Allocation) (o : CallEnvironment) (reply : SessionReply) (old new : SessionState) : Type 0 where
  pub done : reply ≡ Done
  pub step : Step setup (model.Free a) o answers.Done old.model new.model
  pub bound : new.bound ≡ bind old.bound key None

-- what the allocator's reply to a new name binds and is answered
abbrev pub BindsNamed : (key : ℕ) → Allocation → (name : List ℕ) → answers.Reply → SessionReply → (old new : Bindings Allocation) → Type 0
BindsNamed key a name answers.Done reply old new = (reply ≡ Done) × ((b : Allocation) × IsNamed a name b × (new ≡ bind old key (Some b)))
BindsNamed key a name (answers.Error r) reply old new = (reply ≡ Error r) × (new ≡ old)
BindsNamed key a name _ reply old new = ⊥

pub record Renames (setup : Setup) (key : ℕ) (a : Allocation) (name : List ℕ) (o : CallEnvironment) (reply : SessionReply) (old new : SessionState) : Type 0 where
  pub model_reply : answers.Reply
  pub step : Step setup (model.Rename a name) o model_reply old.model new.model
  pub binds : BindsNamed key a name model_reply reply old.bound new.bound

-- the bytes with others over those from `at` on
abbrev pub overwritten : List ℕ → (at : ℕ) → List ℕ → List ℕ
overwritten bytes at others = take at bytes ++ (others ++ drop (at + length others) bytes)

-- other bytes over those of an allocation, where they fit
abbrev pub WritesIn : Setup → Allocation → (at : ℕ) → List ℕ → List ℕ → (fits : Bool) → CommandEnvironment → SessionReply → SessionState → SessionState → Type 0
WritesIn setup a at others bytes false o reply old new = (reply ≡ OutOfRange) × Stays o old new
WritesIn setup a at others bytes true o reply old new =
    (reply ≡ Done) × Step setup (model.Write a (overwritten bytes at others)) o.call answers.Done old.model new.model × (new.bound ≡ old.bound)

abbrev pub WritesOver : Setup → Allocation → (at : ℕ) → List ℕ → Option (List ℕ) → CommandEnvironment → SessionReply → SessionState → SessionState → Type 0
WritesOver setup a at others None o reply old new = (reply ≡ Unmapped) × Stays o old new
WritesOver setup a at others (Some bytes) o reply old new = WritesIn setup a at others bytes (nat_le (at + length others) (length bytes)) o reply old new

abbrev pub WritesAt : Setup → Allocation → (at : ℕ) → List ℕ → CommandEnvironment → SessionReply → SessionState → SessionState → Type 0
WritesAt setup a at others o reply old new = (bytes : Option (List ℕ)) × IsRead setup a old.model bytes × WritesOver setup a at others bytes o reply old new

-- what a read is answered, where there is room for its bytes or isn't
abbrev pub reply_to_part : (room : Bool) → List ℕ → SessionReply
reply_to_part false bytes = Error host_out_of_memory
reply_to_part true bytes = Bytes bytes

abbrev pub reply_to_read : (room : Bool) → (at size : ℕ) → Option (List ℕ) → SessionReply
reply_to_read room at size None = Unmapped
reply_to_read room at size (Some bytes) = if nat_le (at + size) (length bytes) then reply_to_part room (take size (drop at bytes)) else OutOfRange

abbrev pub ReadsAt : Setup → Allocation → (at size : ℕ) → CommandEnvironment → SessionReply → SessionState → SessionState → Type 0
ReadsAt setup a at size o reply old new = (bytes : Option (List ℕ)) × IsRead setup a old.model bytes × (reply ≡ reply_to_read o.room at size bytes) × Stays o old new

-- under a number that stands for an allocation
abbrev pub ServesBound : Setup → (key : ℕ) → Allocation → KeyCommand → CommandEnvironment → SessionReply → SessionState → SessionState → Type 0
ServesBound setup key a (Alloc w) o reply old new = (reply ≡ Busy) × Stays o old new
ServesBound setup key a (Move to w) o reply old new = ServesMove setup to (old.bound to) a w o reply old new
ServesBound setup key a Null o reply old new = (reply ≡ Busy) × Stays o old new
ServesBound setup key a Free o reply old new = SessionFrees setup key a o.call reply old new
ServesBound setup key a (Rename name) o reply old new = Renames setup key a name o.call reply old new
ServesBound setup key a (Write at bytes) o reply old new = WritesAt setup a at bytes o reply old new
ServesBound setup key a (Read at size) o reply old new = ReadsAt setup a at size o reply old new

-- under a number that stands for nothing
abbrev pub ServesUnbound : Setup → (key : ℕ) → KeyCommand → CommandEnvironment → SessionReply → SessionState → SessionState → Type 0
ServesUnbound setup key (Alloc w) o reply old new = ServesAlloc setup key w o.room o.call reply old new
ServesUnbound setup key (Move to w) o reply old new = (reply ≡ Unbound) × Stays o old new
ServesUnbound setup key Null o reply old new = MeetsNothing o.call × ServesNull key o.room reply old new
ServesUnbound setup key Free o reply old new = (reply ≡ Unbound) × Stays o old new
ServesUnbound setup key (Rename name) o reply old new = (reply ≡ Unbound) × Stays o old new
ServesUnbound setup key (Write at bytes) o reply old new = (reply ≡ Unbound) × Stays o old new
ServesUnbound setup key (Read at size) o reply old new = (reply ≡ Unbound) × Stays o old new

abbrev pub ServesAt : Setup → (key : ℕ) → Option Allocation → KeyCommand → CommandEnvironment → SessionReply → SessionState → SessionState → Type 0
ServesAt setup key None command o reply old new = ServesUnbound setup key command o reply old new
ServesAt setup key (Some a) command o reply old new = ServesBound setup key a command o reply old new

-- what is answered of the allocator's reply to a call that is no one number's
abbrev pub reply_by : answers.Reply → Option SessionReply
reply_by (answers.Allocated t p) = None
reply_by (answers.Error r) = Some (Error r)
reply_by (answers.SecondPlace t place) = None
reply_by answers.Done = Some Done
reply_by (answers.Bytes bytes) = None
reply_by (answers.Capacity n) = Some (replies.Capacity n)
reply_by (answers.Report report) = Some (replies.Report report)
reply_by (answers.Leaks texts) = Some (replies.Leaks texts)
reply_by (answers.Budget budget) = None

pub record Asks (setup : Setup) (call : model.Call) (o : CallEnvironment) (reply : SessionReply) (old new : SessionState) : Type 0 where
  pub model_reply : answers.Reply
  pub step : Step setup call o model_reply old.model new.model
  pub reply_is : reply_by model_reply ≡ Some reply
  pub bound : new.bound ≡ old.bound

-- from old, the command may be answered so and leave new, where it meets with this environment
abbrev pub SessionServes : Setup → SessionCommand → CommandEnvironment → SessionReply → SessionState → SessionState → Type 0
SessionServes setup (Under key command) o reply old new = ServesAt setup key (old.bound key) command o reply old new
SessionServes setup Report o reply old new = Asks setup model.Report o.call reply old new
SessionServes setup Leaks o reply old new = Asks setup model.Leaks o.call reply old new
SessionServes setup Capacity o reply old new = Asks setup model.Capacity o.call reply old new
SessionServes setup (SetBudget t budget) o reply old new = Asks setup (model.SetBudget t budget) o.call reply old new

-- ---- runs

-- the blocks are sound, and the numbers own their pieces
pub record SessionInvariant (setup : Setup) (s : SessionState) : Type 0 where
  pub sound : BlocksWellFormed setup.properties.granularity s.model.slots
  pub own : IsOwn s

-- a list of commands, each from the state that the one before it left
abbrev pub Runs : Setup → SessionState → List SessionCommand → List CommandEnvironment → List SessionReply → SessionState → Type 0
Runs setup old [] [] [] new = new ≡ old
Runs setup old (command ∷ commands) (o ∷ os) (reply ∷ rest) new = (mid : SessionState) × SessionServes setup command o reply old mid × SessionInvariant setup mid × Runs setup mid commands os rest new
Runs setup old _ _ _ new = ⊥
