-- An allocator as a model: what each call returns and leaves of its contents, by what it met with.
use Rattle.std.specs.Prelude.{◌≡◌, ℕ, ◌==◌, ◌&&◌, Vec, String, Bool, true, false, List, [], ◌∷◌, map, string_bytes, Option, Some, None, Result, Ok, Err}
use Rattle.std.specs.Global.{Global}
use Rattle.std.specs.List.{slice_set}
use Rattle.gpu_values.specs.Refusal.{Refusal, refusal_of, invalid_allocation_create_desc}
use Rattle.gpu_values.specs.Report.{report_of}
use Rattle.gpu_values.specs.declared.report.AllocatorReport.{AllocatorReport}
use Rattle.gpu_values.specs.declared.error.AllocationError.{AllocationError}
use Rattle.gpu_values.specs.declared.memory_location.MemoryLocation.{MemoryLocation}
use Rattle.gpu_device.specs.D3D12 as entries
use Rattle.gpu_device.specs.D3D12.{Entry, without_resource}
use Rattle.gpu_device.specs.Granted.{with_granted}
use Rattle.gpu_device.specs.declared.d3d12.event.Event.{Event}
use Rattle.gpu_device.specs.declared.d3d12.event.Event.TheVariants.{AskedHeap, AskedResource, ReleasedHeap, ReleasedResource}
use Rattle.gpu_device.specs.declared.d3d12.event.ResourcePlace.{ResourcePlace}
use Rattle.gpu_device.specs.declared.d3d12.event.ResourcePlace.TheVariants.{Own, InHeap}
use Rattle.gpu_device.specs.declared.d3d12.device.D3D12Device.{Ghosts}
use Rattle.gpu_device.specs.declared.d3d12.types.HeapFlags.{HeapFlags}
use Rattle.gpu_device.specs.declared.d3d12.types.HeapProperties.{HeapProperties}
use Rattle.gpu_device.specs.declared.d3d12.types.ID3D12Heap.{ID3D12Heap}
use Rattle.gpu_device.specs.declared.d3d12.types.ResourceAllocationInfo.{ResourceAllocationInfo}
use Rattle.gpu_device.specs.declared.d3d12.types.ResourceHeapTier.{ResourceHeapTier}
use Rattle.gpu_core.specs.declared.piece.Piece.{Piece}
use Rattle.gpu_core.specs.Budgets.{Budgets, budget_at}
use Rattle.gpu_d3d12.specs.Describe.{request_of}
use Rattle.gpu_d3d12.specs.DeviceVersion.{device_of, with_device}
use Rattle.gpu_d3d12.specs.HeapAnswer.{HeapAnswer, told_answer}
use Rattle.gpu_d3d12.specs.Heaps.{heap_desc}
use Rattle.gpu_d3d12.specs.MemoryKinds.{memory_kinds, IsFirstServing}
use Rattle.gpu_d3d12.specs.Question.{resource_question, told_info, made_size}
use Rattle.gpu_d3d12.specs.ResourceAnswer.{ResourceAnswer, IsReasonTold, resource_number, request_asked, placed_texts}
use Rattle.gpu_d3d12.specs.ResourceAnswer as resource_answers
use Rattle.gpu_d3d12.specs.Setup.{kinds_of_device}
use Rattle.gpu_d3d12.specs.declared.category.ResourceCategory.{ResourceCategory}
use Rattle.gpu_d3d12.specs.declared.describe.AllocationCreateDesc.{AllocationCreateDesc}
use Rattle.gpu_d3d12.specs.declared.memory_kind.MemoryKind.{MemoryKind}
use Rattle.gpu_d3d12.specs.declared.question.ResourceCreateDesc.{ResourceCreateDesc}
use Rattle.gpu_d3d12.specs.declared.question.CreateCall.{CreateCall}
use Rattle.gpu_d3d12.specs.declared.question.ResourceType.{ResourceType}
use Rattle.gpu_d3d12.specs.declared.question.ResourceType.TheVariants as kinds_of_resources
use Rattle.gpu_pool.specs.Allocate as environments
use Rattle.gpu_pool.specs.Allocate.{NothingMet, NoHostMemory}
use Rattle.gpu_pool.specs.Free.{GivesBackAny, PoolFrees}
use Rattle.gpu_pool.specs.Reply as replies
use Rattle.gpu_pool.specs.State as pools
use Rattle.gpu_pool.specs.State.{IsSoundAt}
use Rattle.gpu_pool.specs.Step as calls
use Rattle.gpu_d3d12.specs.Allocate.{is_valid, request_in}
use Rattle.gpu_d3d12.specs.Blocks.{kind_at, is_same_heap}
use Rattle.gpu_d3d12.specs.Committed.{Commits, IsAfterResource, records_at, statistics_at, number_or_refusal, ReleasesRecord, place_of, freed}
use Rattle.gpu_pool.specs.Allocation.{IsAllocated, piece_of}
use Rattle.gpu_d3d12.specs.Live.{Allocation}
use Rattle.gpu_d3d12.specs.Reply.{Reply, Pool, Made, error, made_reply}
use Rattle.gpu_d3d12.specs.Reply as module_replies
use Rattle.gpu_d3d12.specs.Resource.{piece_desc, record_of, IsMade}
use Rattle.gpu_d3d12.specs.Source.{SourceState, GivesHeapBack, heap_result}
use Rattle.gpu_d3d12.specs.State.{State, Basis, Contents, Seen, Model, pool_of, basis_of, model_of}
use Rattle.gpu_d3d12.specs.declared.committed_record.CommittedRecord.{CommittedRecord}
use Rattle.gpu_d3d12.specs.declared.resource.Resource.{Resource}

-- a call of an allocator
pub data Call : Type 0 where
  Allocate : (d : AllocationCreateDesc) → Call
  Free : (a : Allocation) → Call
  Rename : (a : Allocation) (name : List ℕ) → Call
  ProposeMove : (a : Allocation) (d : AllocationCreateDesc) → Call
  Capacity : Call
  Report : Call
  Leaks : Call
  CreateResource : (d : ResourceCreateDesc) → Call
  FreeResource : (r : Resource) → Call
  Statistics : (t : ℕ) → Call
  SetBudget : (t : ℕ) (budget : Option ℕ) → Call
  Budget : (t : ℕ) → Call

-- what a call met with: what its pool met with, and how the device answered a question for a resource
pub record Environment : Type 0 where
  pub pool : environments.Environment ID3D12Heap
  pub resource : Option ResourceAnswer

-- the host has memory, and the device is asked nothing
abbrev pub nothing_met : Environment
nothing_met = record { pool = NothingMet; resource = None }

-- what is met with where no heap is asked for, by whether the host has memory
abbrev pub host_met : (host : Bool) → environments.Environment ID3D12Heap
host_met true = NothingMet
host_met false = NoHostMemory

-- what the device tells the resource to take of a heap
abbrev pub info_of : Basis → ResourceCreateDesc → ResourceAllocationInfo
info_of basis d = told_info basis.properties basis.interface d.resource_desc.now d.castable_formats.now

-- the size that the device keeps of the resource
abbrev pub size_made : Basis → CreateCall → ResourceCreateDesc → ℕ
size_made basis question d = made_size basis.properties question d.resource_desc.now d.castable_formats.now

-- an allocation's reply: its piece of a memory type, or why there is none
abbrev pub allocated_reply : Result (ℕ × Piece ID3D12Heap) Refusal → replies.Reply ID3D12Heap
allocated_reply (Ok p) = replies.Allocated p.0 p.1
allocated_reply (Err refusal) = replies.Error refusal

-- the request again that a piece of this size was made for
abbrev pub is_again : (size : ℕ) → AllocationCreateDesc → Bool
is_again size d = is_valid d && (d.size == size)

-- asks, gives_back, makes and releases are the source's: a question for a heap, a heap that goes back, a question for a resource, one that is released
module _ {S : Type 0} (asks : S → ℕ → ℕ → Unit {0} → Result ID3D12Heap Refusal → S → Type 0) (gives_back : S → ID3D12Heap → S → Type 0)
    (makes : ResourceCreateDesc → S → CreateCall → ResourcePlace → Entry → ResourceAnswer → S → Type 0) (releases : S → ℕ → S → Type 0) (basis : Basis) where
  -- ---- calls of the pool

  -- a call of the pool, over this source
  abbrev pub IsPoolCall : calls.Call ID3D12Heap (Unit {0}) → environments.Environment ID3D12Heap → replies.Reply ID3D12Heap → (old new : pools.State S ID3D12Heap) → Type 0
  IsPoolCall call met reply old new = calls.Step (kinds_of_device basis.tier) asks gives_back is_same_heap old call met reply new

  -- the first memory type that serves the location and the category is asked, where the description is valid
  abbrev pub AllocatesBy : AllocationCreateDesc → (valid : Bool) → environments.Environment ID3D12Heap → replies.Reply ID3D12Heap → (old new : pools.State S ID3D12Heap) → Type 0
  AllocatesBy d false met reply old new = (met ≡ NothingMet) × (reply ≡ replies.Error invalid_allocation_create_desc) × (new ≡ old)
  AllocatesBy d true met reply old new =
      (t : ℕ) × IsFirstServing d.location d.resource_category (memory_kinds basis.tier) t × IsPoolCall (calls.Allocate (request_in t d)) met reply old new

  -- a second place for the request again
  abbrev pub ProposesBy : Allocation → AllocationCreateDesc → (again : Bool) → environments.Environment ID3D12Heap → replies.Reply ID3D12Heap → (old new : pools.State S ID3D12Heap) → Type 0
  ProposesBy a d false met reply old new = (met ≡ NothingMet) × (reply ≡ replies.Error invalid_allocation_create_desc) × (new ≡ old)
  ProposesBy a d true met reply old new = IsPoolCall (calls.ProposeMove a.memory_type_index (piece_of a) (request_of d)) met reply old new

  -- ---- a resource

  -- a committed resource, with these heap properties and flags, of which the first memory type that serves it keeps a record
  pub record Commit (d : ResourceCreateDesc) (question : CreateCall) (own : HeapProperties × HeapFlags) (met : Environment) (reply : Reply) (old new : Contents S) : Type 0 where
    pub memory_type : ℕ
    pub first : IsFirstServing d.memory_location d.resource_category (memory_kinds basis.tier) memory_type
    pub host : Bool
    pub no_heap : met.pool ≡ host_met host
    pub number : Result ℕ Refusal
    pub left : List CommittedRecord
    pub commits : Commits host (records_at old.committed memory_type) (info_of basis d).size_in_bytes met.resource number left
    pub asked : IsAfterResource (λ s answer t. makes d s question (Own own.0 own.1) (entries.Committed (size_made basis question d)) answer t) old.pool.source met.resource new.pool.source
    pub reply_is : reply ≡ made_reply memory_type None (info_of basis d).size_in_bytes number
    pub pool : new.pool ≡ record old.pool { source = new.pool.source }
    pub committed : new.committed ≡ slice_set old.committed memory_type left

  -- a resource that is granted stays in its piece; where it is refused the piece is freed
  abbrev pub EndsBy : (t : ℕ) → Piece ID3D12Heap → Result ℕ Refusal → (old new : pools.State S ID3D12Heap) → Type 0
  EndsBy t p (Ok number) old new = new ≡ old
  EndsBy t p (Err refusal) old new = PoolFrees gives_back is_same_heap t p old (Ok tt) new

  -- the device is asked for the resource in this piece
  pub record AsksInPiece (d : ResourceCreateDesc) (question : CreateCall) (t : ℕ) (p : Piece ID3D12Heap) (answer : ResourceAnswer) (reply : Reply) (old new : pools.State S ID3D12Heap) : Type 0 where
    pub sound : (t : ℕ) → IsSoundAt (kinds_of_device basis.tier) old.slots t
    pub between : S
    pub asked : makes d old.source question (InHeap p.handle p.offset) (entries.Placed p.handle.0 p.offset (size_made basis question d)) answer between
    pub reply_is : reply ≡ made_reply t (Some p) (info_of basis d).size_in_bytes (number_or_refusal placed_texts answer)
    pub ends : EndsBy t p (number_or_refusal placed_texts answer) (record old { source = between }) new

  -- what follows the allocation of a placed resource's piece: the device is asked where there is one
  abbrev pub PlacesThen : ResourceCreateDesc → CreateCall → (allocated : Result (ℕ × Piece ID3D12Heap) Refusal) → Option ResourceAnswer → Reply → (old new : pools.State S ID3D12Heap) → Type 0
  PlacesThen d question (Ok p) (Some answer) reply old new = AsksInPiece d question p.0 p.1 answer reply old new
  PlacesThen d question (Ok p) None reply old new = ⊥
  PlacesThen d question (Err refusal) (Some answer) reply old new = ⊥
  PlacesThen d question (Err refusal) None reply old new = (reply ≡ error refusal) × (new ≡ old)

  -- a placed resource: a piece is allocated as for any call, and the device asked for the resource there
  pub record Place (d : ResourceCreateDesc) (question : CreateCall) (met : Environment) (reply : Reply) (old new : pools.State S ID3D12Heap) : Type 0 where
    pub allocated : Result (ℕ × Piece ID3D12Heap) Refusal
    pub mid : pools.State S ID3D12Heap
    pub allocates : AllocatesBy (piece_desc d (info_of basis d)) (is_valid (piece_desc d (info_of basis d))) met.pool (allocated_reply allocated) old mid
    pub places : PlacesThen d question allocated met.resource reply mid new

  -- a resource by this question, as its memory is
  abbrev pub MakesBy : ResourceCreateDesc → CreateCall → ResourceType → Environment → Reply → (old new : Contents S) → Type 0
  MakesBy d question (kinds_of_resources.Committed properties flags) met reply old new = Commit d question (properties.now, flags) met reply old new
  MakesBy d question kinds_of_resources.Placed met reply old new = Place d question met reply old.pool new.pool × (new.committed ≡ old.committed)

  -- first it is seen by which question the resource is made, or why it isn't; then its memory decides
  abbrev pub CreatesBy : ResourceCreateDesc → Result CreateCall Refusal → Environment → Reply → (old new : Contents S) → Type 0
  CreatesBy d (Err refusal) met reply old new = (met ≡ nothing_met) × (reply ≡ error refusal) × (new ≡ old)
  CreatesBy d (Ok question) met reply old new = MakesBy d question d.resource_type.now met reply old new

  -- ---- a resource that is given back

  -- a placed one: where its piece is live it is released, and then the piece freed
  abbrev pub FreesPlaced : Allocation → (number : ℕ) → pools.State S ID3D12Heap → Result (Unit {0}) Refusal → pools.State S ID3D12Heap → Type 0
  FreesPlaced a number old (Ok u) new =
      (between : S) × releases old.source number between × PoolFrees gives_back is_same_heap a.memory_type_index (piece_of a) (record old { source = between }) (Ok u) new
  FreesPlaced a number old (Err e) new = PoolFrees gives_back is_same_heap a.memory_type_index (piece_of a) old (Err e) new

  -- a committed one: where its record is live the record goes, and it is released
  abbrev pub FreesCommitted : (t : ℕ) → CommittedRecord → Contents S → Result (Unit {0}) Refusal → Contents S → Type 0
  FreesCommitted t r old (Ok u) new =
      ReleasesRecord t r old.committed new.committed × releases old.pool.source r.resource.0 new.pool.source × (new.pool ≡ record old.pool { source = new.pool.source })
  FreesCommitted t r old (Err e) new = (place_of (records_at old.committed t) r ≡ None) × (e ≡ freed) × (new ≡ old)

  -- a resource, as it is placed or committed
  abbrev pub FreesResource : Option Allocation → Resource → Contents S → Result (Unit {0}) Refusal → Contents S → Type 0
  FreesResource (Some a) r old answer new = FreesPlaced a r.resource.0 old.pool answer new.pool × (new.committed ≡ old.committed)
  FreesResource None r old answer new = FreesCommitted r.memory_type_index (record_of r) old answer new

  -- ---- any call

  -- a call that asks for no resource, and of the pool is this
  abbrev pub OfPool : (environments.Environment ID3D12Heap → replies.Reply ID3D12Heap → (old new : pools.State S ID3D12Heap) → Type 0) → Environment → Reply → (old new : Contents S) → Type 0
  OfPool P met reply old new = (met.resource ≡ None) × (answer : replies.Reply ID3D12Heap) × (reply ≡ Pool answer) × P met.pool answer old.pool new.pool × (new.committed ≡ old.committed)

  -- from old, the call may return this reply and leave new, where it met with this
  abbrev pub StepOver : Call → Environment → Reply → (old new : Contents S) → Type 0
  StepOver (Allocate d) met reply old new = OfPool (AllocatesBy d (is_valid d)) met reply old new
  StepOver (Free a) met reply old new = OfPool (IsPoolCall (calls.Free a.memory_type_index (piece_of a))) met reply old new
  StepOver (Rename a name) met reply old new = OfPool (IsPoolCall (calls.Rename a.memory_type_index (piece_of a) name)) met reply old new
  StepOver (ProposeMove a d) met reply old new = OfPool (ProposesBy a d (is_again a.size d)) met reply old new
  StepOver Capacity met reply old new = OfPool (IsPoolCall calls.Capacity) met reply old new
  StepOver Report met reply old new = OfPool (IsPoolCall calls.Report) met reply old new
  StepOver Leaks met reply old new = OfPool (IsPoolCall calls.LeakTexts) met reply old new
  StepOver (SetBudget t budget) met reply old new = OfPool (IsPoolCall (calls.SetBudget t budget)) met reply old new
  StepOver (Budget t) met reply old new = OfPool (IsPoolCall (calls.Budget t)) met reply old new
  StepOver (CreateResource d) met reply old new = CreatesBy d (resource_question basis.interface d.initial_state_or_layout d.castable_formats.now) met reply old new
  StepOver (FreeResource r) met reply old new = (met ≡ nothing_met) × (answer : Result (Unit {0}) Refusal) × (reply ≡ Pool (replies.reply_of_done answer)) × FreesResource r.allocation r old answer new
  StepOver (Statistics t) met reply old new = (met ≡ nothing_met) × (reply ≡ module_replies.Statistics (statistics_at old.committed t)) × (new ≡ old)

-- ---- what is seen of a device

-- the device was asked once for a heap of the memory type and this size
pub record SeesQuestion (tier : ResourceHeapTier) (old : Seen) (t size : ℕ) (extra : Unit {0}) (answer : Result ID3D12Heap Refusal) (new : Seen) : Type 0 where
  pub kind : MemoryKind
  pub at : kind_at tier t ≡ Some kind
  pub heap_answer : HeapAnswer
  pub answered : answer ≡ heap_result heap_answer
  pub state : new ≡ record old { history = AskedHeap (heap_desc kind size) (told_answer heap_answer) ∷ old.history }

-- a heap goes back, once
abbrev pub SeesHeapFreed : Seen → ID3D12Heap → Seen → Type 0
SeesHeapFreed old heap new = new ≡ record old { history = ReleasedHeap heap ∷ old.history }

-- the device was asked once for a resource that lies there, by this question; a new one has this entry
abbrev pub SeesMade : ResourceCreateDesc → Seen → CreateCall → ResourcePlace → Entry → ResourceAnswer → Seen → Type 0
SeesMade d old question place entry answer new = new ≡ record {
  beside = with_granted old.beside (resource_number answer) entry;
  history = AskedResource (request_asked question d place) (resource_answers.told_answer answer) ∷ old.history;
}

-- a resource is released, once
abbrev pub SeesReleased : Seen → (number : ℕ) → Seen → Type 0
SeesReleased old number new = new ≡ record old { beside = without_resource old.beside number; history = ReleasedResource (record { 0 = number }) ∷ old.history }

-- a step of the model
abbrev pub Step : Basis → Call → Environment → Reply → (old new : Model) → Type 0
Step basis call met reply old new = StepOver (SeesQuestion basis.tier) SeesHeapFreed SeesMade SeesReleased basis call met reply old new

-- ---- over a device

-- the call is a step of the model; what is seen of the device is just what was met with
pub record IsStep {D : Type 0} (g : Ghosts D) (call : Call) (reply : Reply) (old new : State D) : Type 0 where
  pub environment : Environment
  pub step : Step (basis_of g old) call environment reply (model_of g old) (model_of g new)
  pub same_version : new.device ≡ with_device old.device (device_of new.device)

-- what an allocation's caller gets is what the model replies
abbrev pub Replies : AllocationCreateDesc → Result Allocation AllocationError → replies.Reply ID3D12Heap → Type 0
Replies d (Ok a) (replies.Allocated t p) = IsAllocated t d.name.now p a
Replies d (Err e) (replies.Error r) = refusal_of e ≡ r
Replies d _ _ = ⊥

-- an allocation is a step of the model, and its caller gets what the model replies
pub record IsAllocateStep {D : Type 0} (g : Ghosts D) (d : AllocationCreateDesc) (result : Result Allocation AllocationError) (old new : State D) : Type 0 where
  pub reply : replies.Reply ID3D12Heap
  pub step : IsStep g (Allocate d) (Pool reply) old new
  pub replies : Replies d result reply

-- the same of a second place's caller
abbrev pub RepliesPlace : AllocationCreateDesc → Result (Option Allocation) AllocationError → replies.Reply ID3D12Heap → Type 0
RepliesPlace d (Ok (Some a)) (replies.SecondPlace t (Some p)) = IsAllocated t d.name.now p a
RepliesPlace d (Ok None) (replies.SecondPlace t None) = Unit {0}
RepliesPlace d (Err e) (replies.Error r) = refusal_of e ≡ r
RepliesPlace d _ _ = ⊥

-- looking for a second place is a step of the model, and its caller gets what the model replies
pub record IsMoveStep {D : Type 0} (g : Ghosts D) (a : Allocation) (d : AllocationCreateDesc) (result : Result (Option Allocation) AllocationError) (old new : State D) : Type 0 where
  pub reply : replies.Reply ID3D12Heap
  pub step : IsStep g (ProposeMove a d) (Pool reply) old new
  pub replies : RepliesPlace d result reply

-- the same of a resource's caller
abbrev pub RepliesResource : ResourceCreateDesc → Result Resource AllocationError → Reply → Type 0
RepliesResource d (Ok r) (Made t piece number size) = IsMade d t piece number size r
RepliesResource d (Err e) (Pool (replies.Error refusal)) = refusal_of e ≡ refusal
RepliesResource d _ _ = ⊥

-- the device has just answered a question for a resource
abbrev pub IsJustAnswered : List Event → Type 0
IsJustAnswered [] = ⊥
IsJustAnswered (AskedResource request answer ∷ events) = Unit {0}
IsJustAnswered (event ∷ events) = ⊥

-- the reason in the answer for a resource, if there is one, is the one that the device told when it had just answered
abbrev pub IsReasonMet : {D : Type 0} → Ghosts D → Option ResourceAnswer → D → Type 0
IsReasonMet g None device = Unit {0}
IsReasonMet g (Some answer) device = IsReasonTold (g.removal_reason device) answer × IsJustAnswered (g.history device)

-- the reason that was met with is the one that the device told when it had answered; it has at most given a heap back since
pub record TellsReason {D : Type 0} (g : Ghosts D) (asked : Option ResourceAnswer) (new : SourceState D) : Type 0 where
  pub answered : SourceState D
  pub told : IsReasonMet g asked (device_of answered.device)
  pub went : Option ID3D12Heap
  pub gives_back : GivesBackAny (GivesHeapBack g) answered went new

-- asking for a resource is a step of the model, and its caller gets what the model replies
pub record IsCreateStep {D : Type 0} (g : Ghosts D) (d : ResourceCreateDesc) (result : Result Resource AllocationError) (old new : State D) : Type 0 where
  pub reply : Reply
  pub step : IsStep g (CreateResource d) reply old new
  pub replies : RepliesResource d result reply
  pub reason : TellsReason g step.environment.resource (pool_of new).source

-- the reply to what is given back
abbrev pub freed_as : {V : Type 0} → Result (Unit {0}) (AllocationError × V) → Reply
freed_as (Ok _) = Pool replies.Done
freed_as (Err e) = error (refusal_of e.0)

-- the reply to a call that is done or refused
abbrev pub reply_of_done : Result (Unit {0}) AllocationError → Reply
reply_of_done (Ok _) = Pool replies.Done
reply_of_done (Err e) = error (refusal_of e)

-- the reply to a call for a report
abbrev pub reply_of_report : Result AllocatorReport AllocationError → Reply
reply_of_report (Ok r) = Pool (replies.Report (report_of r))
reply_of_report (Err e) = error (refusal_of e)

-- the reply to a call for the texts of what leaks
abbrev pub leaked_as : Result (Vec (String Global) Global) AllocationError → Reply
leaked_as (Ok v) = Pool (replies.LeakTexts (map string_bytes v.items))
leaked_as (Err e) = error (refusal_of e)

-- ---- calls that meet no budget

-- the memory type that is asked for a piece of this location and category has no budget
abbrev pub AsksNoBudget : Basis → Budgets → MemoryLocation → ResourceCategory → Type 0
AsksNoBudget basis budgets location category = (t : ℕ) → IsFirstServing location category (memory_kinds basis.tier) t → budget_at budgets t ≡ None

-- the same of a placed resource's piece; one with memory of its own asks no memory type for a block
abbrev pub MakesWithoutBudget : Basis → Budgets → ResourceCreateDesc → ResourceType → Type 0
MakesWithoutBudget basis budgets d (kinds_of_resources.Committed properties flags) = Unit {0}
MakesWithoutBudget basis budgets d kinds_of_resources.Placed = AsksNoBudget basis budgets d.memory_location d.resource_category

-- the call isn't about budgets, and asks no memory type that has one
abbrev pub MeetsNoBudget : Basis → Call → Budgets → Type 0
MeetsNoBudget basis (Allocate d) budgets = AsksNoBudget basis budgets d.location d.resource_category
MeetsNoBudget basis (CreateResource d) budgets = MakesWithoutBudget basis budgets d d.resource_type.now
MeetsNoBudget basis (SetBudget t budget) budgets = ⊥
MeetsNoBudget basis (Budget t) budgets = ⊥
MeetsNoBudget basis call budgets = Unit {0}
