-- A session as a model: what the caller's numbers stand for, and the allocator; and what a command makes of them and is answered.
use Rattle.std.specs.Prelude.{◌≡◌, ℕ, Bool, true, false, List, Option, Some, None, Result, Ok, Err}
use Rattle.gpu_values.specs.Refusal.{Refusal, host_out_of_memory}
use Rattle.gpu_device.specs.Held.{raised}
use Rattle.gpu_device.specs.Metal.{Properties}
use Rattle.gpu_device.specs.declared.metal.types.MTLHeap.{MTLHeap}
use Rattle.gpu_core.specs.Blocks.{BlocksWellFormed}
use Rattle.gpu_pool.specs.Allocate.{Environment, NothingMet, NoHostMemory, Answered}
use Rattle.gpu_pool.specs.Reply as answers
use Rattle.gpu_pool.specs.Allocation.{AreDistinct, IsAllocated}
use Rattle.gpu_metal.specs.Live.{Allocation, IsLive}
use Rattle.gpu_metal.specs.State.{Model}
use Rattle.gpu_metal.specs.Step as model
use Rattle.gpu_metal.specs.Step.{Step}
use Rattle.gpu_metal.specs.declared.describe.AllocationCreateDesc.{AllocationCreateDesc}
use Rattle.gpu_run.specs.Bindings.{Bindings, bind, AreOwn}
use Rattle.gpu_run.specs.MetalCommand.{KeyCommand, Alloc, Move, Free, SessionCommand, Under, Heaps, Commit, Report, Capacity, SetBudget}
use Rattle.gpu_run.specs.MetalDescribe.{Described, described, AsksFor}
use Rattle.gpu_run.specs.MetalReply as replies
use Rattle.gpu_run.specs.MetalReply.{SessionReply, Allocated, Done, NoPlace, Busy, Unbound, Error}
use Rattle.gpu_run.specs.Shown.{shown}
use Rattle.gpu_run.specs.declared.metal.describe.Wanted.{Wanted}

-- ---- states

-- what the caller's numbers stand for, the allocator, and how many questions its device refused
pub record SessionState : Type 0 where
  pub bound : Bindings Allocation
  pub model : Model
  pub refused : ℕ

-- each number stands for a live allocation, and no two for one piece
abbrev pub IsOwn : SessionState → Type 0
IsOwn s = AreOwn (IsLive s.model.slots) AreDistinct s.bound

-- the blocks are sound, and the numbers own their pieces
pub record SessionInvariant (s : SessionState) : Type 0 where
  pub sound : BlocksWellFormed 1 s.model.slots
  pub own : IsOwn s

-- what a command met with: host memory for the session's own room, or none, and what its call of the allocator met with
pub record CommandEnvironment : Type 0 where
  pub room : Bool
  pub met : Environment MTLHeap

-- the device's count of refusals after a call
abbrev pub refused_after : Environment MTLHeap → ℕ → ℕ
refused_after NothingMet count = count
refused_after NoHostMemory count = count
refused_after (Answered size (Ok heap)) count = count
refused_after (Answered size (Err why)) count = raised count

-- ---- commands

-- no call is made, and nothing changes
abbrev pub Stays : Environment MTLHeap → (old new : SessionState) → Type 0
Stays met old new = (met ≡ NothingMet) × (new ≡ old)

-- what the allocator's reply to a request binds and is answered
abbrev pub Binds : (key : ℕ) (name : List ℕ) → answers.Reply MTLHeap → SessionReply → (old new : Bindings Allocation) → Type 0
Binds key name (answers.Allocated t p) reply old new = (a : Allocation) × IsAllocated t name p a × (reply ≡ Allocated (shown t p)) × (new ≡ bind old key (Some a))
Binds key name (answers.Error r) reply old new = (reply ≡ Error r) × (new ≡ old)
Binds key name _ reply old new = ⊥

-- the allocator is asked for what was described
pub record SessionAllocates (key : ℕ) (name : List ℕ) (is : Described) (met : Environment MTLHeap) (reply : SessionReply) (old new : SessionState) : Type 0 where
  pub description : AllocationCreateDesc
  pub asks : AsksFor is name description
  pub model_reply : answers.Reply MTLHeap
  pub step : Step (model.Allocate description) met model_reply old.model new.model
  pub binds : Binds key name model_reply reply old.bound new.bound

-- a request that can be described, or can't
abbrev pub AllocatesBy : (key : ℕ) (name : List ℕ) → Result Described Refusal → Environment MTLHeap → SessionReply → SessionState → SessionState → Type 0
AllocatesBy key name (Err why) met reply old new = (reply ≡ Error why) × Stays met old new
AllocatesBy key name (Ok is) met reply old new = SessionAllocates key name is met reply old new

-- a request under a free number: first room is made for the number
abbrev pub ServesAlloc : Properties → (key : ℕ) → Wanted → (name : List ℕ) → (room : Bool) → Environment MTLHeap → SessionReply → SessionState → SessionState → Type 0
ServesAlloc p key wanted name false met reply old new = (reply ≡ Error host_out_of_memory) × Stays met old new
ServesAlloc p key wanted name true met reply old new = AllocatesBy key name (described p wanted) met reply old new

-- what the allocator's reply to a proposed move binds and is answered
abbrev pub BindsPlace : (to : ℕ) (name : List ℕ) → answers.Reply MTLHeap → SessionReply → (old new : Bindings Allocation) → Type 0
BindsPlace to name (answers.SecondPlace t (Some p)) reply old new = (a : Allocation) × IsAllocated t name p a × (reply ≡ Allocated (shown t p)) × (new ≡ bind old to (Some a))
BindsPlace to name (answers.SecondPlace t None) reply old new = (reply ≡ NoPlace) × (new ≡ old)
BindsPlace to name (answers.Error r) reply old new = (reply ≡ Error r) × (new ≡ old)
BindsPlace to name _ reply old new = ⊥

-- the allocator is asked for a second place
pub record Proposes (to : ℕ) (a : Allocation) (is : Described) (name : List ℕ) (met : Environment MTLHeap) (reply : SessionReply) (old new : SessionState) : Type 0 where
  pub description : AllocationCreateDesc
  pub asks : AsksFor is name description
  pub model_reply : answers.Reply MTLHeap
  pub step : Step (model.ProposeMove a description) met model_reply old.model new.model
  pub binds : BindsPlace to name model_reply reply old.bound new.bound

-- a second place under a free number: first room is made for the number
abbrev pub ServesMoveTo : (to : ℕ) → Allocation → Described → (name : List ℕ) → (room : Bool) → Environment MTLHeap → SessionReply → SessionState → SessionState → Type 0
ServesMoveTo to a is name false met reply old new = (reply ≡ Error host_out_of_memory) × Stays met old new
ServesMoveTo to a is name true met reply old new = Proposes to a is name met reply old new

-- the same under a number that may stand for an allocation
abbrev pub ServesMove : (to : ℕ) → Option Allocation → Allocation → Described → (name : List ℕ) → CommandEnvironment → SessionReply → SessionState → SessionState → Type 0
ServesMove to (Some b) a is name o reply old new = (reply ≡ Busy) × Stays o.met old new
ServesMove to None a is name o reply old new = ServesMoveTo to a is name o.room o.met reply old new

-- the allocation is freed, and the number stands for nothing
pub record SessionFrees (key : ℕ) (a : Allocation) (met : Environment MTLHeap) (reply : SessionReply) (old new : SessionState) : Type 0 where
  pub done : reply ≡ Done
  pub step : Step (model.Free a) met answers.Done old.model new.model
  pub bound : new.bound ≡ bind old.bound key None

-- under a number that stands for an allocation
abbrev pub ServesBound : (key : ℕ) → Allocation → KeyCommand → CommandEnvironment → SessionReply → SessionState → SessionState → Type 0
ServesBound key a (Alloc wanted name) o reply old new = (reply ≡ Busy) × Stays o.met old new
ServesBound key a (Move to is name) o reply old new = ServesMove to (old.bound to) a is name o reply old new
ServesBound key a Free o reply old new = SessionFrees key a o.met reply old new

-- under a number that stands for nothing
abbrev pub ServesUnbound : Properties → (key : ℕ) → KeyCommand → CommandEnvironment → SessionReply → SessionState → SessionState → Type 0
ServesUnbound p key (Alloc wanted name) o reply old new = ServesAlloc p key wanted name o.room o.met reply old new
ServesUnbound p key (Move to is name) o reply old new = (reply ≡ Unbound) × Stays o.met old new
ServesUnbound p key Free o reply old new = (reply ≡ Unbound) × Stays o.met old new

-- by whether the number stands for an allocation
abbrev pub ServesAt : Properties → (key : ℕ) → Option Allocation → KeyCommand → CommandEnvironment → SessionReply → SessionState → SessionState → Type 0
ServesAt p key None command o reply old new = ServesUnbound p key command o reply old new
ServesAt p key (Some a) command o reply old new = ServesBound key a command o reply old new

-- what is answered of the allocator's reply to a call that is no one number's
abbrev pub reply_by : answers.Reply MTLHeap → Option SessionReply
reply_by (answers.Allocated t p) = None
reply_by (answers.Error r) = Some (Error r)
reply_by (answers.SecondPlace t place) = None
reply_by answers.Done = Some Done
reply_by (answers.Budget budget) = None
reply_by (answers.Capacity n) = Some (replies.Capacity n)
reply_by (answers.Handles heaps) = None
reply_by (answers.Report report) = Some (replies.Report report)
reply_by (answers.LeakTexts texts) = None

-- the allocator is asked, and its reply handed on
pub record Asks (call : model.Call) (met : Environment MTLHeap) (reply : SessionReply) (old new : SessionState) : Type 0 where
  pub model_reply : answers.Reply MTLHeap
  pub step : Step call met model_reply old.model new.model
  pub reply_is : reply_by model_reply ≡ Some reply
  pub bound : new.bound ≡ old.bound

-- the heaps, where there is room for them or isn't
abbrev pub reply_to_heaps : (room : Bool) → List MTLHeap → SessionReply
reply_to_heaps false heaps = Error host_out_of_memory
reply_to_heaps true heaps = replies.Heaps heaps

-- the heaps of the live blocks are shown, and nothing else is asked
pub record ShowsHeaps (o : CommandEnvironment) (reply : SessionReply) (old new : SessionState) : Type 0 where
  pub heaps : List MTLHeap
  pub step : Step model.LiveHeaps o.met (answers.Handles heaps) old.model new.model
  pub reply_is : reply ≡ reply_to_heaps o.room heaps
  pub bound : new.bound ≡ old.bound

-- from old, the command may be answered so and leave new, where it met with this; p is what the device tells of itself
abbrev pub SessionServes : Properties → SessionCommand → CommandEnvironment → SessionReply → SessionState → SessionState → Type 0
SessionServes p (Under key command) o reply old new = ServesAt p key (old.bound key) command o reply old new
SessionServes p Heaps o reply old new = ShowsHeaps o reply old new
SessionServes p Commit o reply old new = Asks model.Commit o.met reply old new
SessionServes p Report o reply old new = Asks model.Report o.met reply old new
SessionServes p Capacity o reply old new = Asks model.Capacity o.met reply old new
SessionServes p (SetBudget t budget) o reply old new = Asks (model.SetBudget t budget) o.met reply old new

-- the command is served, whatever it met with: the allocator's history names each question and its answer, and the device
-- counts just the refused ones
pub record IsCommandServed (p : Properties) (command : SessionCommand) (reply : SessionReply) (old new : SessionState) : Type 0 where
  pub environment : CommandEnvironment
  pub serves : SessionServes p command environment reply old new
  pub count : new.refused ≡ refused_after environment.met old.refused
