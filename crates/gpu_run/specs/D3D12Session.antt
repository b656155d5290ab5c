-- A session as a model: what the caller's numbers stand for, and the allocator; and what a command makes of them and is answered.
use Rattle.std.specs.Prelude.{◌≡◌, ◌≢◌, ℕ, Bool, true, false, List, Contains, IsSome, Option, Some, None, Ok, Err}
use Rattle.std.specs.FinMap.{get}
use Rattle.gpu_values.specs.Refusal.{host_out_of_memory}
use Rattle.gpu_device.specs.Granted.{counted}
use Rattle.gpu_device.specs.Held.{raised}
use Rattle.gpu_device.specs.declared.d3d12.types.ID3D12Heap.{ID3D12Heap}
use Rattle.gpu_core.specs.Blocks.{BlocksWellFormed}
use Rattle.gpu_pool.specs.Allocate as environments
use Rattle.gpu_pool.specs.Allocate.{NothingMet, NoHostMemory, Answered}
use Rattle.gpu_pool.specs.Reply as answers
use Rattle.gpu_d3d12.specs.ResourceAnswer.{ResourceAnswer, resource_number}
use Rattle.gpu_d3d12.specs.declared.describe.AllocationCreateDesc.{AllocationCreateDesc}
use Rattle.gpu_d3d12.specs.declared.question.ResourceCreateDesc.{ResourceCreateDesc}
use Rattle.gpu_d3d12.specs.Blocks.{Slots}
use Rattle.gpu_d3d12.specs.Committed as lists
use Rattle.gpu_d3d12.specs.Committed.{records_at}
use Rattle.gpu_pool.specs.Allocation.{AreDistinct, IsAllocated}
use Rattle.gpu_d3d12.specs.Live.{Allocation, IsLive}
use Rattle.gpu_pool.specs.Allocation.{IsNamed}
use Rattle.gpu_d3d12.specs.Reply as module_replies
use Rattle.gpu_d3d12.specs.Resource.{IsMade, IsBeside, record_of}
use Rattle.gpu_d3d12.specs.State.{Basis, Model}
use Rattle.gpu_d3d12.specs.Step as model
use Rattle.gpu_d3d12.specs.Step.{Environment, Step, nothing_met}
use Rattle.gpu_d3d12.specs.declared.resource.Resource.{Resource}
use Rattle.gpu_run.specs.Bindings.{Bindings, bind, AreOwn}
use Rattle.gpu_run.specs.D3D12Command.{KeyCommand, Alloc, Move, Free, Rename, ResourceCommand, Create, Release, SessionCommand, Under, UnderResource, Leaks, Report, Capacity, Committed, SetBudget}
use Rattle.gpu_run.specs.D3D12Describe.{Wanted, AsksFor, AsksForResource}
use Rattle.gpu_run.specs.D3D12Reply as replies
use Rattle.gpu_run.specs.D3D12Reply.{SessionReply, Allocated, Made, Done, NoPlace, Busy, Unbound, Error, shown_resource}
use Rattle.gpu_run.specs.Shown.{shown}
use Rattle.gpu_run.specs.declared.d3d12.command.WantedResource.{WantedResource}

-- ---- states

-- what the caller's numbers of allocations and of resources stand for, the allocator, and how many questions its device refused
pub record SessionState : Type 0 where
  pub bound : Bindings Allocation
  pub resources : Bindings Resource
  pub model : Model
  pub refused : ℕ

-- ---- what numbers own

-- a placed resource's piece is live, and of a committed one there is a record
abbrev pub IsKept : Slots → lists.Committed → Resource → Option Allocation → Type 0
IsKept slots committed r (Some a) = IsLive slots a
IsKept slots committed r None = Contains (records_at committed r.memory_type_index) (record_of r)

-- a resource's memory is its own, and the device holds something beside the blocks under its number
pub record IsLiveResource (m : Model) (r : Resource) : Type 0 where
  pub kept : IsKept m.pool.slots m.committed r r.allocation
  pub held : IsSome (get m.pool.source.beside r.resource.0)

-- two pieces, where there are two, are different ones
abbrev pub ArePiecesApart : (a b : Option Allocation) → Type 0
ArePiecesApart None b = Unit {0}
ArePiecesApart (Some a) b = IsBeside a b

-- two resources have different numbers and lie in different pieces
pub record AreApart (r q : Resource) : Type 0 where
  pub numbers : r.resource.0 ≢ q.resource.0
  pub pieces : ArePiecesApart r.allocation q.allocation

-- each number stands for something live, no two for one piece or resource, and none for the piece that a resource lies in
pub record IsOwn (s : SessionState) : Type 0 where
  pub allocations : AreOwn (IsLive s.model.pool.slots) AreDistinct s.bound
  pub resources : AreOwn (IsLiveResource s.model) AreApart s.resources
  pub beside : (key other : ℕ) (a : Allocation) (r : Resource) → s.bound key ≡ Some a → s.resources other ≡ Some r → IsBeside a r.allocation

-- the blocks are sound, and the numbers own their pieces and resources
pub record SessionInvariant (s : SessionState) : Type 0 where
  pub sound : BlocksWellFormed 1 s.model.pool.slots
  pub own : IsOwn s

-- ---- what is met with

-- what a command met with: host memory for the session's own room, or none, and what its call of the allocator met with
pub record CommandEnvironment : Type 0 where
  pub room : Bool
  pub met : Environment

-- the device's count of refusals after a question for a heap, if there was one
abbrev pub refused_by_heap : environments.Environment ID3D12Heap → ℕ → ℕ
refused_by_heap NothingMet count = count
refused_by_heap NoHostMemory count = count
refused_by_heap (Answered size (Ok heap)) count = count
refused_by_heap (Answered size (Err why)) count = raised count

-- the same after a question for a resource, if there was one
abbrev pub refused_by_resource : Option ResourceAnswer → ℕ → ℕ
refused_by_resource None count = count
refused_by_resource (Some answer) count = counted count (resource_number answer)

-- the device's count of refusals after a call: a heap is asked for first
abbrev pub refused_after : Environment → ℕ → ℕ
refused_after met count = refused_by_resource met.resource (refused_by_heap met.pool count)

-- no call is made, and nothing changes
abbrev pub Stays : Environment → (old new : SessionState) → Type 0
Stays met old new = (met ≡ nothing_met) × (new ≡ old)

-- ---- what replies bind

-- what the allocator's reply to a request binds and is answered
abbrev pub Binds : (key : ℕ) (name : List ℕ) → answers.Reply ID3D12Heap → SessionReply → (old new : Bindings Allocation) → Type 0
Binds key name (answers.Allocated t p) reply old new = (a : Allocation) × IsAllocated t name p a × (reply ≡ Allocated (shown t p)) × (new ≡ bind old key (Some a))
Binds key name (answers.Error r) reply old new = (reply ≡ Error r) × (new ≡ old)
Binds key name _ reply old new = ⊥

-- the same of the reply to a proposed move
abbrev pub BindsPlace : (to : ℕ) (name : List ℕ) → answers.Reply ID3D12Heap → SessionReply → (old new : Bindings Allocation) → Type 0
BindsPlace to name (answers.SecondPlace t (Some p)) reply old new = (a : Allocation) × IsAllocated t name p a × (reply ≡ Allocated (shown t p)) × (new ≡ bind old to (Some a))
BindsPlace to name (answers.SecondPlace t None) reply old new = (reply ≡ NoPlace) × (new ≡ old)
BindsPlace to name (answers.Error r) reply old new = (reply ≡ Error r) × (new ≡ old)
BindsPlace to name _ reply old new = ⊥

-- the same of the reply to a new name
abbrev pub Names : (key : ℕ) → Allocation → (name : List ℕ) → answers.Reply ID3D12Heap → SessionReply → (old new : Bindings Allocation) → Type 0
Names key a name answers.Done reply old new = (b : Allocation) × IsNamed a name b × (reply ≡ Done) × (new ≡ bind old key (Some b))
Names key a name (answers.Error r) reply old new = (reply ≡ Error r) × (new ≡ old)
Names key a name _ reply old new = ⊥

-- the same of the reply to a request for a resource
abbrev pub BindsResource : (key : ℕ) → ResourceCreateDesc → module_replies.Reply → SessionReply → (old new : Bindings Resource) → Type 0
BindsResource key d (module_replies.Made t piece number size) reply old new =
    (r : Resource) × IsMade d t piece number size r × (reply ≡ Made (shown_resource t piece number size)) × (new ≡ bind old key (Some r))
BindsResource key d (module_replies.Pool (answers.Error r)) reply old new = (reply ≡ Error r) × (new ≡ old)
BindsResource key d _ reply old new = ⊥

-- what is answered of the reply to a call that is no one number's, as a pool replies
abbrev pub reply_by_pool : answers.Reply ID3D12Heap → Option SessionReply
reply_by_pool (answers.Allocated t p) = None
reply_by_pool (answers.Error r) = Some (Error r)
reply_by_pool (answers.SecondPlace t place) = None
reply_by_pool answers.Done = Some Done
reply_by_pool (answers.Budget budget) = None
reply_by_pool (answers.Capacity n) = Some (replies.Capacity n)
reply_by_pool (answers.Handles heaps) = None
reply_by_pool (answers.Report report) = Some (replies.Report report)
reply_by_pool (answers.LeakTexts texts) = Some (replies.Leaks texts)

-- the same as the allocator replies
abbrev pub reply_by : module_replies.Reply → Option SessionReply
reply_by (module_replies.Pool answer) = reply_by_pool answer
reply_by (module_replies.Made t piece number size) = None
reply_by (module_replies.Statistics statistics) = Some (replies.Committed statistics)

-- ---- commands

-- basis is what no call changes of the allocator and its device
module _ (basis : Basis) where
  -- the allocator is asked for a piece
  pub record SessionAllocates (key : ℕ) (w : Wanted) (met : Environment) (reply : SessionReply) (old new : SessionState) : Type 0 where
    pub description : AllocationCreateDesc
    pub asks : AsksFor w description
    pub model_reply : answers.Reply ID3D12Heap
    pub step : Step basis (model.Allocate description) met (module_replies.Pool model_reply) old.model new.model
    pub binds : Binds key w.name model_reply reply old.bound new.bound
    pub resources : new.resources ≡ old.resources

  -- a request under a free number: first room is made for the number
  abbrev pub ServesAlloc : (key : ℕ) → Wanted → (room : Bool) → Environment → SessionReply → SessionState → SessionState → Type 0
  ServesAlloc key w false met reply old new = (reply ≡ Error host_out_of_memory) × Stays met old new
  ServesAlloc key w true met reply old new = SessionAllocates key w met reply old new

  -- the allocator is asked for a second place
  pub record Proposes (to : ℕ) (a : Allocation) (w : Wanted) (met : Environment) (reply : SessionReply) (old new : SessionState) : Type 0 where
    pub description : AllocationCreateDesc
    pub asks : AsksFor w description
    pub model_reply : answers.Reply ID3D12Heap
    pub step : Step basis (model.ProposeMove a description) met (module_replies.Pool model_reply) old.model new.model
    pub binds : BindsPlace to w.name model_reply reply old.bound new.bound
    pub resources : new.resources ≡ old.resources

  -- a second place under a free number: first room is made for the number
  abbrev pub ServesMoveTo : (to : ℕ) → Allocation → Wanted → (room : Bool) → Environment → SessionReply → SessionState → SessionState → Type 0
  ServesMoveTo to a w false met reply old new = (reply ≡ Error host_out_of_memory) × Stays met old new
  ServesMoveTo to a w true met reply old new = Proposes to a w met reply old new

  -- the same under a number that may stand for an allocation
  abbrev pub ServesMove : (to : ℕ) → Option Allocation → Allocation → Wanted → CommandEnvironment → SessionReply → SessionState → SessionState → Type 0
  ServesMove to (Some b) a w o reply old new = (reply ≡ Busy) × Stays o.met old new
  ServesMove to None a w o reply old new = ServesMoveTo to a w o.room o.met reply old new

  -- an allocation is freed
  pub record SessionFrees (key : ℕ) (a : Allocation) (met : Environment) (reply : SessionReply) (old new : SessionState) : Type 0 where
    pub done : reply ≡ Done
    pub step : Step basis (model.Free a) met (module_replies.Pool answers.Done) old.model new.model
    pub bound : new.bound ≡ bind old.bound key None
    pub resources : new.resources ≡ old.resources

  -- an allocation has another name, or hasn't
  pub record Renames (key : ℕ) (a : Allocation) (name : List ℕ) (met : Environment) (reply : SessionReply) (old new : SessionState) : Type 0 where
    pub model_reply : answers.Reply ID3D12Heap
    pub step : Step basis (model.Rename a name) met (module_replies.Pool model_reply) old.model new.model
    pub names : Names key a name model_reply reply old.bound new.bound
    pub resources : new.resources ≡ old.resources

  -- under a number that stands for an allocation, or for none
  abbrev pub ServesAt : (key : ℕ) → Option Allocation → KeyCommand → CommandEnvironment → SessionReply → SessionState → SessionState → Type 0
  ServesAt key (Some a) (Alloc w) o reply old new = (reply ≡ Busy) × Stays o.met old new
  ServesAt key (Some a) (Move to w) o reply old new = ServesMove to (old.bound to) a w o reply old new
  ServesAt key (Some a) Free o reply old new = SessionFrees key a o.met reply old new
  ServesAt key (Some a) (Rename name) o reply old new = Renames key a name o.met reply old new
  ServesAt key None (Alloc w) o reply old new = ServesAlloc key w o.room o.met reply old new
  ServesAt key None (Move to w) o reply old new = (reply ≡ Unbound) × Stays o.met old new
  ServesAt key None Free o reply old new = (reply ≡ Unbound) × Stays o.met old new
  ServesAt key None (Rename name) o reply old new = (reply ≡ Unbound) × Stays o.met old new

  -- the allocator is asked for a resource
  pub record Creates (key : ℕ) (w : WantedResource) (met : Environment) (reply : SessionReply) (old new : SessionState) : Type 0 where
    pub description : ResourceCreateDesc
    pub asks : AsksForResource w description
    pub model_reply : module_replies.Reply
    pub step : Step basis (model.CreateResource description) met model_reply old.model new.model
    pub binds : BindsResource key description model_reply reply old.resources new.resources
    pub bound : new.bound ≡ old.bound

  -- a request for a resource under a free number: first room is made for the number
  abbrev pub ServesCreate : (key : ℕ) → WantedResource → (room : Bool) → Environment → SessionReply → SessionState → SessionState → Type 0
  ServesCreate key w false met reply old new = (reply ≡ Error host_out_of_memory) × Stays met old new
  ServesCreate key w true met reply old new = Creates key w met reply old new

  -- a resource is given back
  pub record Releases (key : ℕ) (r : Resource) (met : Environment) (reply : SessionReply) (old new : SessionState) : Type 0 where
    pub done : reply ≡ Done
    pub step : Step basis (model.FreeResource r) met (module_replies.Pool answers.Done) old.model new.model
    pub resources : new.resources ≡ bind old.resources key None
    pub bound : new.bound ≡ old.bound

  -- under a number that stands for a resource, or for none
  abbrev pub ServesResourceAt : (key : ℕ) → Option Resource → ResourceCommand → CommandEnvironment → SessionReply → SessionState → SessionState → Type 0
  ServesResourceAt key (Some r) (Create w) o reply old new = (reply ≡ Busy) × Stays o.met old new
  ServesResourceAt key (Some r) Release o reply old new = Releases key r o.met reply old new
  ServesResourceAt key None (Create w) o reply old new = ServesCreate key w o.room o.met reply old new
  ServesResourceAt key None Release o reply old new = (reply ≡ Unbound) × Stays o.met old new

  -- the allocator is asked, and its reply handed on
  pub record Asks (call : model.Call) (met : Environment) (reply : SessionReply) (old new : SessionState) : Type 0 where
    pub model_reply : module_replies.Reply
    pub step : Step basis call met model_reply old.model new.model
    pub reply_is : reply_by model_reply ≡ Some reply
    pub bound : new.bound ≡ old.bound
    pub resources : new.resources ≡ old.resources

  -- from old, the command may be answered so and leave new, where it met with this
  abbrev pub SessionServes : SessionCommand → CommandEnvironment → SessionReply → SessionState → SessionState → Type 0
  SessionServes (Under key command) o reply old new = ServesAt key (old.bound key) command o reply old new
  SessionServes (UnderResource key command) o reply old new = ServesResourceAt key (old.resources key) command o reply old new
  SessionServes Leaks o reply old new = Asks model.Leaks o.met reply old new
  SessionServes Report o reply old new = Asks model.Report o.met reply old new
  SessionServes Capacity o reply old new = Asks model.Capacity o.met reply old new
  SessionServes (Committed t) o reply old new = Asks (model.Statistics t) o.met reply old new
  SessionServes (SetBudget t budget) o reply old new = Asks (model.SetBudget t budget) o.met reply old new

  -- the command is served, whatever it met with: the allocator's history names each question and its answer, and the device
  -- counts just the refused ones
  pub record IsCommandServed (command : SessionCommand) (reply : SessionReply) (old new : SessionState) : Type 0 where
    pub environment : CommandEnvironment
    pub serves : SessionServes command environment reply old new
    pub count : new.refused ≡ refused_after environment.met old.refused
