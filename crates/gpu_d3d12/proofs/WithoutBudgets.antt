-- A call that meets no budget is the same step where there are no budgets.
use Rattle.std.proofs.Common.{◌≡◌, ap, ℕ, Bool, true, false, Option, Some, None, Ok, Err, Result}
use Rattle.gpu_values.specs.Refusal.{Refusal}
use Rattle.gpu_core.specs.declared.piece.Piece.{Piece}
use Rattle.gpu_device.specs.declared.d3d12.types.HeapFlags.{HeapFlags}
use Rattle.gpu_device.specs.declared.d3d12.types.HeapProperties.{HeapProperties}
use Rattle.gpu_device.specs.declared.d3d12.types.ID3D12Heap.{ID3D12Heap}
use Rattle.gpu_core.specs.Budgets.{budget_at}
use Rattle.gpu_d3d12.specs.MemoryKinds.{memory_kinds, IsFirstServing}
use Rattle.gpu_d3d12.specs.Question.{resource_question}
use Rattle.gpu_d3d12.specs.ResourceAnswer.{ResourceAnswer, placed_texts}
use Rattle.gpu_d3d12.specs.Setup.{kinds_of_device}
use Rattle.gpu_d3d12.specs.declared.describe.AllocationCreateDesc.{AllocationCreateDesc}
use Rattle.gpu_d3d12.specs.declared.question.ResourceCreateDesc.{ResourceCreateDesc}
use Rattle.gpu_d3d12.specs.declared.question.CreateCall.{CreateCall}
use Rattle.gpu_d3d12.specs.declared.question.ResourceType.{ResourceType}
use Rattle.gpu_d3d12.specs.declared.question.ResourceType.TheVariants as resource_types
use Rattle.gpu_pool.specs.Allocate as environments
use Rattle.gpu_pool.specs.Free.{PoolFrees}
use Rattle.gpu_pool.specs.Reply as replies
use Rattle.gpu_pool.specs.State as pools
use Rattle.gpu_pool.specs.Step as calls
use Rattle.gpu_pool.proofs.WithoutBudgets as plain
use Rattle.gpu_d3d12.specs.Allocate.{is_valid, request_in}
use Rattle.gpu_d3d12.specs.Blocks.{is_same_heap}
use Rattle.gpu_d3d12.specs.Committed.{number_or_refusal}
use Rattle.gpu_d3d12.specs.Describe.{request_of}
use Rattle.gpu_pool.specs.Allocation.{piece_of}
use Rattle.gpu_d3d12.specs.Live.{Allocation}
use Rattle.gpu_d3d12.specs.Reply.{Reply}
use Rattle.gpu_d3d12.specs.Resource.{piece_desc, record_of}
use Rattle.gpu_d3d12.specs.State.{Basis, Seen, Model, without_budgets}
use Rattle.gpu_d3d12.specs.Step.{Call, Allocate, Free, Rename, ProposeMove, Capacity, Report, Leaks, CreateResource, FreeResource, Statistics, SetBudget, Budget, Environment, info_of, allocated_reply, MakesWithoutBudget, MeetsNoBudget}
use Rattle.gpu_d3d12.specs.Step.{SeesQuestion, SeesHeapFreed, SeesMade, SeesReleased, AllocatesBy, Commit, EndsBy, PlacesThen, Place, MakesBy, CreatesBy, FreesPlaced, FreesCommitted, FreesResource, OfPool, IsPoolCall, ProposesBy, is_again, Step}
use Rattle.gpu_d3d12.specs.declared.committed_record.CommittedRecord.{CommittedRecord}
use Rattle.gpu_d3d12.specs.declared.resource.Resource.{Resource}

abbrev Pools : Type 0
Pools = pools.State Seen ID3D12Heap

abbrev free_of : Pools → Pools
free_of s = pools.without_budgets s

module _ (basis : Basis) where
  -- ---- the pool

  abbrev IsCall : calls.Call ID3D12Heap (Unit {0}) → environments.Environment ID3D12Heap → replies.Reply ID3D12Heap → (old new : Pools) → Type 0
  IsCall call met reply old new = IsPoolCall (SeesQuestion basis.tier) SeesHeapFreed SeesMade SeesReleased basis call met reply old new

  call_plain : (call : calls.Call ID3D12Heap (Unit {0})) (met : environments.Environment ID3D12Heap) (x : replies.Reply ID3D12Heap) (old new : Pools) → calls.MeetsNoBudget call old.budgets
      → IsCall call met x old new → IsCall call met x (free_of old) (free_of new)
  call_plain call met x old new none a = plain.step_plain (SeesQuestion basis.tier) SeesHeapFreed is_same_heap (kinds_of_device basis.tier) call met x old new none a

  allocate_plain : (d : AllocationCreateDesc) (valid : Bool) (met : environments.Environment ID3D12Heap) (x : replies.Reply ID3D12Heap) (old new : Pools)
      → ((t : ℕ) → IsFirstServing d.location d.resource_category (memory_kinds basis.tier) t → budget_at old.budgets t ≡ None)
      → AllocatesBy (SeesQuestion basis.tier) SeesHeapFreed SeesMade SeesReleased basis d valid met x old new
      → AllocatesBy (SeesQuestion basis.tier) SeesHeapFreed SeesMade SeesReleased basis d valid met x (free_of old) (free_of new)
  allocate_plain d false met x old new none a = (a.0, a.1, ap free_of a.2)
  allocate_plain d true met x old new none a = (a.0, a.1, call_plain (calls.Allocate (request_in a.0 d)) met x old new (none a.0 a.1) a.2)

  propose_plain : (w : Allocation) (d : AllocationCreateDesc) (again : Bool) (met : environments.Environment ID3D12Heap) (x : replies.Reply ID3D12Heap) (old new : Pools)
      → ProposesBy (SeesQuestion basis.tier) SeesHeapFreed SeesMade SeesReleased basis w d again met x old new
      → ProposesBy (SeesQuestion basis.tier) SeesHeapFreed SeesMade SeesReleased basis w d again met x (free_of old) (free_of new)
  propose_plain w d false met x old new a = (a.0, a.1, ap free_of a.2)
  propose_plain w d true met x old new a = call_plain (calls.ProposeMove w.memory_type_index (piece_of w) (request_of d)) met x old new tt a

  frees_plain : (t : ℕ) (p : Piece ID3D12Heap) (old : Pools) (answer : Result (Unit {0}) Refusal) (new : Pools) → PoolFrees SeesHeapFreed is_same_heap t p old answer new
      → PoolFrees SeesHeapFreed is_same_heap t p (free_of old) answer (free_of new)
  frees_plain t p old answer new f = plain.frees_plain SeesHeapFreed is_same_heap t p old answer new f

  -- ---- a resource

  commit_plain : (d : ResourceCreateDesc) (question : CreateCall) (own : HeapProperties × HeapFlags) (met : Environment) (x : Reply) (old new : Model)
      → Commit (SeesQuestion basis.tier) SeesHeapFreed SeesMade SeesReleased basis d question own met x old new
      → Commit (SeesQuestion basis.tier) SeesHeapFreed SeesMade SeesReleased basis d question own met x (without_budgets old) (without_budgets new)
  commit_plain d question own met x old new a = record {
    memory_type = a.memory_type;
    first = a.first;
    host = a.host;
    no_heap = a.no_heap;
    number = a.number;
    left = a.left;
    commits = a.commits;
    asked = a.asked;
    reply_is = a.reply_is;
    pool = ap free_of a.pool;
    committed = a.committed;
  }

  ends_plain : (t : ℕ) (p : Piece ID3D12Heap) (r : Result ℕ Refusal) (old new : Pools) → EndsBy (SeesQuestion basis.tier) SeesHeapFreed SeesMade SeesReleased basis t p r old new
      → EndsBy (SeesQuestion basis.tier) SeesHeapFreed SeesMade SeesReleased basis t p r (free_of old) (free_of new)
  ends_plain t p (Ok number) old new is = ap free_of is
  ends_plain t p (Err refusal) old new f = frees_plain t p old (Ok tt) new f

  places_plain : (d : ResourceCreateDesc) (question : CreateCall) (allocated : Result (ℕ × Piece ID3D12Heap) Refusal) (o : Option ResourceAnswer) (x : Reply) (old new : Pools)
      → PlacesThen (SeesQuestion basis.tier) SeesHeapFreed SeesMade SeesReleased basis d question allocated o x old new
      → PlacesThen (SeesQuestion basis.tier) SeesHeapFreed SeesMade SeesReleased basis d question allocated o x (free_of old) (free_of new)
  places_plain d question (Ok p) (Some answer) x old new a = record {
    sound = a.sound;
    between = a.between;
    asked = a.asked;
    reply_is = a.reply_is;
    ends = ends_plain p.0 p.1 (number_or_refusal placed_texts answer) (record old { source = a.between }) new a.ends;
  }
  places_plain d question (Ok p) None x old new a = absurd a
  places_plain d question (Err refusal) (Some answer) x old new a = absurd a
  places_plain d question (Err refusal) None x old new a = (a.0, ap free_of a.1)

  place_plain : (d : ResourceCreateDesc) (question : CreateCall) (met : Environment) (x : Reply) (old new : Pools) → MakesWithoutBudget basis old.budgets d resource_types.Placed
      → Place (SeesQuestion basis.tier) SeesHeapFreed SeesMade SeesReleased basis d question met x old new
      → Place (SeesQuestion basis.tier) SeesHeapFreed SeesMade SeesReleased basis d question met x (free_of old) (free_of new)
  place_plain d question met x old new none a = record {
    allocated = a.allocated;
    mid = free_of a.mid;
    allocates = allocate_plain (piece_desc d (info_of basis d)) (is_valid (piece_desc d (info_of basis d))) met.pool (allocated_reply a.allocated) old a.mid none a.allocates;
    places = places_plain d question a.allocated met.resource x a.mid new a.places;
  }

  makes_plain : (d : ResourceCreateDesc) (question : CreateCall) (type : ResourceType) (met : Environment) (x : Reply) (old new : Model) → MakesWithoutBudget basis old.pool.budgets d type
      → MakesBy (SeesQuestion basis.tier) SeesHeapFreed SeesMade SeesReleased basis d question type met x old new
      → MakesBy (SeesQuestion basis.tier) SeesHeapFreed SeesMade SeesReleased basis d question type met x (without_budgets old) (without_budgets new)
  makes_plain d question (resource_types.Committed properties flags) met x old new none a = commit_plain d question (properties.now, flags) met x old new a
  makes_plain d question resource_types.Placed met x old new none a = (place_plain d question met x old.pool new.pool none a.0, a.1)

  creates_plain : (d : ResourceCreateDesc) (q : Result CreateCall Refusal) (met : Environment) (x : Reply) (old new : Model) → MakesWithoutBudget basis old.pool.budgets d d.resource_type.now
      → CreatesBy (SeesQuestion basis.tier) SeesHeapFreed SeesMade SeesReleased basis d q met x old new
      → CreatesBy (SeesQuestion basis.tier) SeesHeapFreed SeesMade SeesReleased basis d q met x (without_budgets old) (without_budgets new)
  creates_plain d (Ok question) met x old new none a = makes_plain d question d.resource_type.now met x old new none a
  creates_plain d (Err refusal) met x old new none a = (a.0, a.1, ap without_budgets a.2)

  -- ---- a resource that is given back

  placed_back_plain : (a : Allocation) (number : ℕ) (old : Pools) (answer : Result (Unit {0}) Refusal) (new : Pools)
      → FreesPlaced (SeesQuestion basis.tier) SeesHeapFreed SeesMade SeesReleased basis a number old answer new
      → FreesPlaced (SeesQuestion basis.tier) SeesHeapFreed SeesMade SeesReleased basis a number (free_of old) answer (free_of new)
  placed_back_plain a number old (Ok u) new f = (f.0, f.1, frees_plain a.memory_type_index (piece_of a) (record old { source = f.0 }) (Ok u) new f.2)
  placed_back_plain a number old (Err e) new f = frees_plain a.memory_type_index (piece_of a) old (Err e) new f

  committed_back_plain : (t : ℕ) (r : CommittedRecord) (old : Model) (answer : Result (Unit {0}) Refusal) (new : Model)
      → FreesCommitted (SeesQuestion basis.tier) SeesHeapFreed SeesMade SeesReleased basis t r old answer new
      → FreesCommitted (SeesQuestion basis.tier) SeesHeapFreed SeesMade SeesReleased basis t r (without_budgets old) answer (without_budgets new)
  committed_back_plain t r old (Ok u) new f = (f.0, f.1, ap free_of f.2)
  committed_back_plain t r old (Err e) new f = (f.0, f.1, ap without_budgets f.2)

  back_plain : (o : Option Allocation) (r : Resource) (old : Model) (answer : Result (Unit {0}) Refusal) (new : Model)
      → FreesResource (SeesQuestion basis.tier) SeesHeapFreed SeesMade SeesReleased basis o r old answer new
      → FreesResource (SeesQuestion basis.tier) SeesHeapFreed SeesMade SeesReleased basis o r (without_budgets old) answer (without_budgets new)
  back_plain (Some a) r old answer new f = (placed_back_plain a r.resource.0 old.pool answer new.pool f.0, f.1)
  back_plain None r old answer new f = committed_back_plain r.memory_type_index (record_of r) old answer new f

  -- ---- any call

  called_plain : (call : calls.Call ID3D12Heap (Unit {0})) (met : Environment) (x : Reply) (old new : Model) → calls.MeetsNoBudget call old.pool.budgets
      → OfPool (SeesQuestion basis.tier) SeesHeapFreed SeesMade SeesReleased basis (IsCall call) met x old new
      → OfPool (SeesQuestion basis.tier) SeesHeapFreed SeesMade SeesReleased basis (IsCall call) met x (without_budgets old) (without_budgets new)
  called_plain call met x old new none a = (a.0, a.1, a.2, call_plain call met.pool a.1 old.pool new.pool none a.3, a.4)

pub step_plain : (basis : Basis) (call : Call) (met : Environment) (x : Reply) (old new : Model) → MeetsNoBudget basis call old.pool.budgets → Step basis call met x old new
    → Step basis call met x (without_budgets old) (without_budgets new)
step_plain basis (Allocate d) met x old new none a = (a.0, a.1, a.2, allocate_plain basis d (is_valid d) met.pool a.1 old.pool new.pool none a.3, a.4)
step_plain basis (CreateResource d) met x old new none a = creates_plain basis d (resource_question basis.interface d.initial_state_or_layout d.castable_formats.now) met x old new none a
step_plain basis (FreeResource r) met x old new none a = (a.0, a.1, a.2, back_plain basis r.allocation r old a.1 new a.3)
step_plain basis (Statistics t) met x old new none a = (a.0, a.1, ap without_budgets a.2)
step_plain basis (Free w) met x old new none a = called_plain basis (calls.Free w.memory_type_index (piece_of w)) met x old new tt a
step_plain basis (Rename w name) met x old new none a = called_plain basis (calls.Rename w.memory_type_index (piece_of w) name) met x old new tt a
step_plain basis (ProposeMove w d) met x old new none a = (a.0, a.1, a.2, propose_plain basis w d (is_again w.size d) met.pool a.1 old.pool new.pool a.3, a.4)
step_plain basis Capacity met x old new none a = called_plain basis calls.Capacity met x old new tt a
step_plain basis Report met x old new none a = called_plain basis calls.Report met x old new tt a
step_plain basis Leaks met x old new none a = called_plain basis calls.LeakTexts met x old new tt a
step_plain basis (SetBudget t budget) met x old new none a = absurd none
step_plain basis (Budget t) met x old new none a = absurd none
