-- A call over a device is a step of the model.
use Rattle.std.proofs.Common.{◌≡◌, ap, subst, ℕ, true, false, Bool, Option, Some, None, Ok, Err, Result}
use Rattle.gpu_values.specs.Refusal.{Refusal}
use Rattle.gpu_core.specs.declared.piece.Piece.{Piece}
use Rattle.gpu_device.specs.declared.d3d12.event.ResourcePlace.TheVariants.{Own}
use Rattle.gpu_device.specs.declared.d3d12.event.ResourcePlace.{ResourcePlace}
use Rattle.gpu_device.specs.D3D12.{Entry}
use Rattle.gpu_device.specs.declared.d3d12.device.D3D12Device.{Ghosts}
use Rattle.gpu_device.specs.declared.d3d12.types.HeapFlags.{HeapFlags}
use Rattle.gpu_device.specs.declared.d3d12.types.HeapProperties.{HeapProperties}
use Rattle.gpu_device.specs.declared.d3d12.types.ID3D12Heap.{ID3D12Heap}
use Rattle.gpu_d3d12.specs.ResourceAnswer.{ResourceAnswer, placed_texts}
use Rattle.gpu_d3d12.specs.Setup.{kinds_of_device}
use Rattle.gpu_d3d12.specs.declared.describe.AllocationCreateDesc.{AllocationCreateDesc}
use Rattle.gpu_d3d12.specs.declared.question.ResourceCreateDesc.{ResourceCreateDesc}
use Rattle.gpu_d3d12.specs.declared.question.CreateCall.{CreateCall}
use Rattle.gpu_pool.specs.Allocate as environments
use Rattle.gpu_pool.specs.Free.{PoolFrees}
use Rattle.gpu_pool.specs.Reply as replies
use Rattle.gpu_pool.specs.State as pools
use Rattle.gpu_pool.proofs.Freeing.{frees_over}
use Rattle.gpu_pool.proofs.Serving.{serves_over}
use Rattle.gpu_d3d12.specs.Allocate.{is_valid, request_in}
use Rattle.gpu_d3d12.specs.Blocks.{is_same_heap}
use Rattle.gpu_d3d12.specs.Committed.{IsAfterResource, number_or_refusal}
use Rattle.gpu_pool.specs.Allocation.{piece_of}
use Rattle.gpu_d3d12.specs.Live.{Allocation}
use Rattle.gpu_d3d12.specs.Reply.{Reply}
use Rattle.gpu_d3d12.specs.Resource.{piece_desc}
use Rattle.gpu_d3d12.specs.Source.{SourceState, AsksBlock, GivesHeapBack, MakesResource, ReleasesResource}
use Rattle.gpu_d3d12.specs.State as states
use Rattle.gpu_d3d12.specs.State.{Basis, Contents, seen_of, over}
use Rattle.gpu_d3d12.specs.Step.{Environment, info_of, allocated_reply, SeesQuestion, SeesHeapFreed, SeesMade, SeesReleased, AllocatesBy, Commit, EndsBy, PlacesThen, Place, FreesPlaced, FreesCommitted, FreesResource}
use Rattle.gpu_d3d12.specs.declared.committed_record.CommittedRecord.{CommittedRecord}
use Rattle.gpu_d3d12.specs.declared.resource.Resource.{Resource}

module _ {D : Type 0} (g : Ghosts D) where
  -- ---- what is seen of a device

  pub sees_question : (old : SourceState D) (t size : ℕ) (answer : Result ID3D12Heap Refusal) (new : SourceState D) → AsksBlock g old t size tt answer new
      → SeesQuestion old.tier (seen_of g old) t size tt answer (seen_of g new)
  sees_question old t size answer new a = record {
    kind = a.kind;
    at = a.at;
    heap_answer = a.heap_answer;
    answered = a.answered;
    state = λ i. record { beside = a.beside i; history = a.asks.history i };
  }

  pub sees_heap_freed : (old : SourceState D) (heap : ID3D12Heap) (new : SourceState D) → GivesHeapBack g old heap new → SeesHeapFreed (seen_of g old) heap (seen_of g new)
  sees_heap_freed old heap new a = λ i. record { beside = a.beside i; history = a.gives.history i }

  pub sees_made : (d : ResourceCreateDesc) (old : SourceState D) (question : CreateCall) (place : ResourcePlace) (entry : Entry) (answer : ResourceAnswer) (new : SourceState D)
      → MakesResource g d old question place entry answer new → SeesMade d (seen_of g old) question place entry answer (seen_of g new)
  sees_made d old question place entry answer new a = λ i. record { beside = a.beside i; history = a.asks.history i }

  pub sees_released : (old : SourceState D) (number : ℕ) (new : SourceState D) → ReleasesResource g old number new → SeesReleased (seen_of g old) number (seen_of g new)
  sees_released old number new a = λ i. record { beside = a.beside i; history = a.releases.history i }

  -- ---- each call, over what is seen

  module _ (basis : Basis) where
    abbrev Seen : (x : SourceState D) → states.Seen
    Seen x = seen_of g x

    abbrev pool_seen : states.Pool D → pools.State states.Seen ID3D12Heap
    pool_seen p = pools.over (seen_of g) p

    abbrev contents_seen : Contents (SourceState D) → Contents states.Seen
    contents_seen c = over (seen_of g) c

    pub frees_seen : (t : ℕ) (p : Piece ID3D12Heap) (old : states.Pool D) (answer : Result (Unit {0}) Refusal) (new : states.Pool D)
        → PoolFrees (GivesHeapBack g) is_same_heap t p old answer new → PoolFrees SeesHeapFreed is_same_heap t p (pool_seen old) answer (pool_seen new)
    frees_seen t p old answer new f = frees_over (GivesHeapBack g) SeesHeapFreed (seen_of g) is_same_heap t p old new (λ heap k. sees_heap_freed old.source heap new.source k) answer f

    pub allocates_seen : (d : AllocationCreateDesc) (valid : Bool) (met : environments.Environment ID3D12Heap) (reply : replies.Reply ID3D12Heap) (old new : states.Pool D) → old.source.tier ≡ basis.tier
        → AllocatesBy (AsksBlock g) (GivesHeapBack g) (MakesResource g) (ReleasesResource g) basis d valid met reply old new
        → AllocatesBy (SeesQuestion basis.tier) SeesHeapFreed SeesMade SeesReleased basis d valid met reply (pool_seen old) (pool_seen new)
    allocates_seen d false met reply old new tier a = (a.0, a.1, ap (pools.over (seen_of g)) a.2)
    allocates_seen d true met reply old new tier a = (
      a.0,
      a.1,
      (
        a.2.0,
        a.2.1,
        serves_over (kinds_of_device basis.tier) (AsksBlock g) (SeesQuestion basis.tier) (seen_of g) (request_in a.0 d) old new
            (λ size answer k. subst (λ x. SeesQuestion x (seen_of g old.source) a.0 size tt answer (seen_of g new.source)) tier (sees_question old.source a.0 size answer new.source k)) met a.2.0 a.2.2,
      ),
    )

    after_seen : (d : ResourceCreateDesc) (question : CreateCall) (place : ResourcePlace) (entry : Entry) (o : Option ResourceAnswer) (old new : SourceState D)
        → IsAfterResource (λ s answer t. MakesResource g d s question place entry answer t) old o new → IsAfterResource (λ s answer t. SeesMade d s question place entry answer t) (seen_of g old) o (seen_of g new)
    after_seen d question place entry None old new is = ap (seen_of g) is
    after_seen d question place entry (Some answer) old new is = sees_made d old question place entry answer new is

    pub commit_seen : (d : ResourceCreateDesc) (question : CreateCall) (own : HeapProperties × HeapFlags) (met : Environment) (reply : Reply) (old new : Contents (SourceState D))
        → Commit (AsksBlock g) (GivesHeapBack g) (MakesResource g) (ReleasesResource g) basis d question own met reply old new
        → Commit (SeesQuestion basis.tier) SeesHeapFreed SeesMade SeesReleased basis d question own met reply (contents_seen old) (contents_seen new)
    commit_seen d question own met reply old new c = record {
      memory_type = c.memory_type;
      first = c.first;
      host = c.host;
      no_heap = c.no_heap;
      number = c.number;
      left = c.left;
      commits = c.commits;
      asked = after_seen d question (Own own.0 own.1) _ met.resource old.pool.source new.pool.source c.asked;
      reply_is = c.reply_is;
      pool = ap (pools.over (seen_of g)) c.pool;
      committed = c.committed;
    }

    ends_seen : (t : ℕ) (p : Piece ID3D12Heap) (r : Result ℕ Refusal) (old new : states.Pool D) → EndsBy (AsksBlock g) (GivesHeapBack g) (MakesResource g) (ReleasesResource g) basis t p r old new
        → EndsBy (SeesQuestion basis.tier) SeesHeapFreed SeesMade SeesReleased basis t p r (pool_seen old) (pool_seen new)
    ends_seen t p (Ok number) old new is = ap (pools.over (seen_of g)) is
    ends_seen t p (Err refusal) old new f = frees_seen t p old (Ok tt) new f

    places_seen : (d : ResourceCreateDesc) (question : CreateCall) (allocated : Result (ℕ × Piece ID3D12Heap) Refusal) (o : Option ResourceAnswer) (reply : Reply) (old new : states.Pool D)
        → PlacesThen (AsksBlock g) (GivesHeapBack g) (MakesResource g) (ReleasesResource g) basis d question allocated o reply old new
        → PlacesThen (SeesQuestion basis.tier) SeesHeapFreed SeesMade SeesReleased basis d question allocated o reply (pool_seen old) (pool_seen new)
    places_seen d question (Ok p) (Some answer) reply old new a = record {
      sound = a.sound;
      between = seen_of g a.between;
      asked = sees_made d old.source question _ _ answer a.between a.asked;
      reply_is = a.reply_is;
      ends = ends_seen p.0 p.1 (number_or_refusal placed_texts answer) (record old { source = a.between }) new a.ends;
    }
    places_seen d question (Ok p) None reply old new a = absurd a
    places_seen d question (Err refusal) (Some answer) reply old new a = absurd a
    places_seen d question (Err refusal) None reply old new a = (a.0, ap (pools.over (seen_of g)) a.1)

    pub place_seen : (d : ResourceCreateDesc) (question : CreateCall) (met : Environment) (reply : Reply) (old new : states.Pool D) → old.source.tier ≡ basis.tier
        → Place (AsksBlock g) (GivesHeapBack g) (MakesResource g) (ReleasesResource g) basis d question met reply old new
        → Place (SeesQuestion basis.tier) SeesHeapFreed SeesMade SeesReleased basis d question met reply (pool_seen old) (pool_seen new)
    place_seen d question met reply old new tier p = record {
      allocated = p.allocated;
      mid = pool_seen p.mid;
      allocates = allocates_seen (piece_desc d (info_of basis d)) (is_valid (piece_desc d (info_of basis d))) met.pool (allocated_reply p.allocated) old p.mid tier p.allocates;
      places = places_seen d question p.allocated met.resource reply p.mid new p.places;
    }

    frees_placed_seen : (a : Allocation) (number : ℕ) (old : states.Pool D) (answer : Result (Unit {0}) Refusal) (new : states.Pool D)
        → FreesPlaced (AsksBlock g) (GivesHeapBack g) (MakesResource g) (ReleasesResource g) basis a number old answer new
        → FreesPlaced (SeesQuestion basis.tier) SeesHeapFreed SeesMade SeesReleased basis a number (pool_seen old) answer (pool_seen new)
    frees_placed_seen a number old (Ok u) new f = (
      seen_of g f.0,
      sees_released old.source number f.0 f.1,
      frees_seen a.memory_type_index (piece_of a) (record old { source = f.0 }) (Ok u) new f.2,
    )
    frees_placed_seen a number old (Err e) new f = frees_seen a.memory_type_index (piece_of a) old (Err e) new f

    frees_committed_seen : (t : ℕ) (r : CommittedRecord) (old : Contents (SourceState D)) (answer : Result (Unit {0}) Refusal) (new : Contents (SourceState D))
        → FreesCommitted (AsksBlock g) (GivesHeapBack g) (MakesResource g) (ReleasesResource g) basis t r old answer new
        → FreesCommitted (SeesQuestion basis.tier) SeesHeapFreed SeesMade SeesReleased basis t r (contents_seen old) answer (contents_seen new)
    frees_committed_seen t r old (Ok u) new f = (f.0, sees_released old.pool.source r.resource.0 new.pool.source f.1, ap (pools.over (seen_of g)) f.2)
    frees_committed_seen t r old (Err e) new f = (f.0, f.1, ap (over (seen_of g)) f.2)

    pub frees_resource_seen : (o : Option Allocation) (r : Resource) (old : Contents (SourceState D)) (answer : Result (Unit {0}) Refusal) (new : Contents (SourceState D))
        → FreesResource (AsksBlock g) (GivesHeapBack g) (MakesResource g) (ReleasesResource g) basis o r old answer new
        → FreesResource (SeesQuestion basis.tier) SeesHeapFreed SeesMade SeesReleased basis o r (contents_seen old) answer (contents_seen new)
    frees_resource_seen (Some a) r old answer new f = (frees_placed_seen a r.resource.0 old.pool answer new.pool f.0, f.1)
    frees_resource_seen None r old answer new f = frees_committed_seen r.memory_type_index _ old answer new f
