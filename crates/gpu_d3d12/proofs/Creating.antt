-- Resources that are made and given back, over a device and as steps of the model.
use Rattle.std.proofs.Common.{◌≡◌, ◌∙◌, refl, sym, ap, subst, ℕ, true, false, Bool, slice_set, Option, Some, None, Ok, Err, Result}
use Rattle.gpu_values.specs.Refusal.{Refusal, refusal_of}
use Rattle.gpu_values.specs.declared.error.AllocationError.{AllocationError}
use Rattle.gpu_core.specs.declared.piece.Piece.{Piece}
use Rattle.gpu_device.specs.declared.d3d12.event.ResourcePlace.TheVariants.{Own, InHeap}
use Rattle.gpu_device.specs.declared.d3d12.event.ResourcePlace.{ResourcePlace}
use Rattle.gpu_device.specs.D3D12 as entries
use Rattle.gpu_device.specs.declared.d3d12.device.D3D12Device.{Ghosts}
use Rattle.gpu_device.specs.declared.d3d12.types.HeapFlags.{HeapFlags}
use Rattle.gpu_device.specs.declared.d3d12.types.HeapProperties.{HeapProperties}
use Rattle.gpu_device.specs.declared.d3d12.types.ID3D12Heap.{ID3D12Heap}
use Rattle.gpu_device.specs.declared.d3d12.types.ID3D12Resource.{ID3D12Resource}
use Rattle.gpu_d3d12.specs.DeviceVersion.{device_of}
use Rattle.gpu_d3d12.specs.MemoryKinds.{memory_kinds, IsFirstServing}
use Rattle.gpu_d3d12.specs.Question.{resource_question, made_size}
use Rattle.gpu_d3d12.specs.ResourceAnswer.{ResourceAnswer, Granted, resource_refusal, placed_texts}
use Rattle.gpu_d3d12.specs.Setup.{kinds_of_device}
use Rattle.gpu_d3d12.specs.declared.describe.AllocationCreateDesc.{AllocationCreateDesc}
use Rattle.gpu_d3d12.specs.declared.question.ResourceCreateDesc.{ResourceCreateDesc}
use Rattle.gpu_d3d12.specs.declared.question.CreateCall.{CreateCall}
use Rattle.gpu_d3d12.specs.declared.question.ResourceType.{ResourceType}
use Rattle.gpu_d3d12.specs.declared.question.ResourceType.TheVariants as resource_types
use Rattle.gpu_pool.specs.Allocate as environments
use Rattle.gpu_pool.specs.Free as pool_frees
use Rattle.gpu_pool.specs.Reply as replies
use Rattle.gpu_pool.specs.State.{IsSoundAt}
use Rattle.gpu_d3d12.specs.Allocate as allocations
use Rattle.gpu_d3d12.specs.Allocate.{is_valid, request_in}
use Rattle.gpu_d3d12.specs.Blocks.{is_same_heap}
use Rattle.gpu_d3d12.specs.Committed.{Committed, Commits, IsCommitted, IsAfterResource, records_at, resource_reply, number_or_refusal}
use Rattle.gpu_d3d12.specs.Free.{freed_of}
use Rattle.gpu_pool.specs.Allocation.{IsAllocated, piece_of}
use Rattle.gpu_d3d12.specs.Live.{Allocation, IsLive}
use Rattle.gpu_d3d12.specs.Over.{IsCommittedOver, IsPlacedOver, FreesPlacedOver, FreesResourceOver}
use Rattle.gpu_d3d12.specs.Reply.{Reply, error, made_reply}
use Rattle.gpu_d3d12.specs.Reply as module_replies
use Rattle.gpu_d3d12.specs.Resource.{piece_desc, LiesIn, IsMade, IsPlacedIn}
use Rattle.gpu_d3d12.specs.Source.{SourceState, AsksBlock, GivesHeapBack, MakesResource, ReleasesResource}
use Rattle.gpu_d3d12.specs.State as states
use Rattle.gpu_d3d12.specs.State.{State, Basis, Contents, seen_of, pool_of, contents_of, source_basis, basis_of, model_of}
use Rattle.gpu_d3d12.specs.Step.{Environment, nothing_met, host_met, info_of, size_made, allocated_reply, AllocatesBy, EndsBy, PlacesThen, Place, MakesBy, CreatesBy, FreesResource, FreeResource}
use Rattle.gpu_d3d12.specs.Step.{SeesQuestion, SeesHeapFreed, SeesMade, SeesReleased, IsStep, Replies, RepliesResource, IsJustAnswered, IsReasonMet, TellsReason, IsCreateStep, freed_as}
use Rattle.gpu_d3d12.specs.declared.resource.Resource.{Resource}
use Rattle.gpu_d3d12.proofs.Calls.{attempted}
use Rattle.gpu_d3d12.proofs.Records.{refused_reply}
use Rattle.gpu_d3d12.proofs.Staying.{Stays, stays, stays_same, then_stays, same_version, made_stays, released_stays, frees_stays, serves_keeps, allocates_keeps}
use Rattle.gpu_d3d12.proofs.Steps.{commit_seen, place_seen, frees_resource_seen}
use Rattle.gpu_d3d12.proofs.Versions.{same_question}

-- ---- what an allocation's caller got

-- a refusal is what was replied
refused_as : (p : AllocationCreateDesc) (e : AllocationError) (o : Result (ℕ × Piece ID3D12Heap) Refusal) → Replies p (Err e) (allocated_reply o) → o ≡ Err (refusal_of e)
refused_as p e (Ok x) h = absurd h
refused_as p e (Err r) h = ap Err (sym h)

-- an allocation stands for the piece that was replied
allocated_as : (p : AllocationCreateDesc) (a : Allocation) (o : Result (ℕ × Piece ID3D12Heap) Refusal) → Replies p (Ok a) (allocated_reply o)
    → (o ≡ Ok (a.memory_type_index, piece_of a)) × IsAllocated a.memory_type_index p.name.now (piece_of a) a
allocated_as p a (Ok x) h = (λ i. Ok (sym h.memory_type i, sym h.piece i), record { piece = refl; memory_type = refl; has_name = h.has_name })
allocated_as p a (Err r) h = absurd h

-- ---- a placed resource

module _ {D : Type 0} (g : Ghosts D) (d : ResourceCreateDesc) (question : CreateCall) (old mid : states.Pool D) where
  abbrev basis : Basis
  basis = source_basis g old.source

  abbrev size : ℕ
  size = (info_of basis d).size_in_bytes

  abbrev p : AllocationCreateDesc
  p = piece_desc d (info_of basis d)

  abbrev DidAllocate : Result Allocation AllocationError → Type 0
  DidAllocate result = allocations.AllocatesBy g p (is_valid p) old result mid

  abbrev IsSound : Type 0
  IsSound = (t : ℕ) → IsSoundAt (kinds_of_device old.source.tier) mid.slots t

  abbrev Places : Environment → Reply → (new : states.Pool D) → Type 0
  Places met reply new = Place (AsksBlock g) (GivesHeapBack g) (MakesResource g) (ReleasesResource g) basis d question met reply old new

  -- no piece was allocated, so the device isn't asked
  pub not_allocated : (e : AllocationError) → DidAllocate (Err e) → IsPlacedOver g d question old (Err e) mid
  not_allocated e a =
      let t = attempted g p (is_valid p) old (Err e) mid a in
      let is = refused_as p e t.allocated t.replies in
      record {
        environment = record { pool = t.met; resource = None };
        reply = error (refusal_of e);
        places = record {
          allocated = Err (refusal_of e);
          mid = mid;
          allocates = subst (λ o. AllocatesBy (AsksBlock g) (GivesHeapBack g) (MakesResource g) (ReleasesResource g) basis p (is_valid p) t.met (allocated_reply o) old mid) is t.allocates;
          places = (refl, refl);
        };
        replies = refl;
      }

  module _ (a : Allocation) (sound : IsSound) (allocates : DidAllocate (Ok a)) (between : SourceState D) (answer : ResourceAnswer)
      (asked : MakesResource g d mid.source question (InHeap a.heap a.offset) (entries.Placed a.heap.0 a.offset (made_size (g.properties (device_of mid.source.device)) question d.resource_desc.now d.castable_formats.now)) answer between) where
    abbrev made_as : Reply
    made_as = made_reply a.memory_type_index (Some (piece_of a)) size (number_or_refusal placed_texts answer)

    same : g.properties (device_of mid.source.device) ≡ g.properties (device_of old.source.device)
    same = (allocates_keeps g p (is_valid p) old (Ok a) mid allocates).source.constant

    asked_here : MakesResource g d mid.source question (InHeap a.heap a.offset) (entries.Placed a.heap.0 a.offset (size_made basis question d)) answer between
    asked_here =
        subst (λ q. MakesResource g d mid.source question (InHeap a.heap a.offset) (entries.Placed a.heap.0 a.offset (made_size q question d.resource_desc.now d.castable_formats.now)) answer between) same asked

    -- the device was asked for the resource in the piece
    pub was_asked : (new : states.Pool D) → EndsBy (AsksBlock g) (GivesHeapBack g) (MakesResource g) (ReleasesResource g) basis a.memory_type_index (piece_of a) (number_or_refusal placed_texts answer) (record mid { source = between }) new
        → (result : Result Resource AllocationError) → RepliesResource d result made_as → IsPlacedOver g d question old result new
    was_asked new ends result told =
        let t = attempted g p (is_valid p) old (Ok a) mid allocates in
        let is = allocated_as p a t.allocated t.replies in
        record {
          environment = record { pool = t.met; resource = Some answer };
          reply = made_as;
          places = record {
            allocated = Ok (a.memory_type_index, piece_of a);
            mid = mid;
            allocates = subst (λ o. AllocatesBy (AsksBlock g) (GivesHeapBack g) (MakesResource g) (ReleasesResource g) basis p (is_valid p) t.met (allocated_reply o) old mid) is.0 t.allocates;
            places = record { sound = sound; between = between; asked = asked_here; reply_is = refl; ends = ends };
          };
          replies = told;
        }

    has_name : IsAllocated a.memory_type_index d.name.now (piece_of a) a
    has_name = (allocated_as p a (attempted g p (is_valid p) old (Ok a) mid allocates).allocated (attempted g p (is_valid p) old (Ok a) mid allocates).replies).1

    pub placed : (r : ID3D12Resource) (resource : Resource) → answer ≡ Granted r.0 → IsPlacedIn d a r.0 size resource → IsPlacedOver g d question old (Ok resource) (record mid { source = between })
    placed r resource is in_it =
        let granted : number_or_refusal placed_texts answer ≡ Ok r.0 = ap (number_or_refusal placed_texts) is in
        let ends = subst (λ o. EndsBy (AsksBlock g) (GivesHeapBack g) (MakesResource g) (ReleasesResource g) basis a.memory_type_index (piece_of a) o (record mid { source = between }) (record mid { source = between }))
        (sym granted) refl in
        was_asked (record mid { source = between }) ends (Ok resource)
        (subst (λ o. RepliesResource d (Ok resource) (made_reply a.memory_type_index (Some (piece_of a)) size o)) (sym granted)
        (record {
          resource = in_it.resource;
          allocation = subst (LiesIn a.memory_type_index d (Some (piece_of a))) (sym in_it.allocation) has_name;
          location = in_it.location;
          memory_type = in_it.memory_type;
          size_is = in_it.size_is;
        }))

    pub refused : (e : AllocationError) → resource_refusal placed_texts answer ≡ Some (refusal_of e) → (new : states.Pool D)
        → pool_frees.PoolFrees (GivesHeapBack g) is_same_heap a.memory_type_index (piece_of a) (record mid { source = between }) (Ok tt) new → IsPlacedOver g d question old (Err e) new
    refused e why new frees =
        let is : number_or_refusal placed_texts answer ≡ Err (refusal_of e) = sym (refused_reply placed_texts answer (refusal_of e) why).0 in
        was_asked new
        (subst (λ o. EndsBy (AsksBlock g) (GivesHeapBack g) (MakesResource g) (ReleasesResource g) basis a.memory_type_index (piece_of a) o (record mid { source = between }) new) (sym is) frees)
        (Err e) (subst (λ o. RepliesResource d (Err e) (made_reply a.memory_type_index (Some (piece_of a)) size o)) (sym is) refl)

-- ---- a committed resource

module _ {D : Type 0} (g : Ghosts D) (d : ResourceCreateDesc) (question : CreateCall) (own : HeapProperties × HeapFlags) (old : Contents (SourceState D)) (index size : ℕ)
    (made : Result ID3D12Resource AllocationError) (source : SourceState D) (left : Committed) where
  abbrev of : Basis
  of = source_basis g old.pool.source

  abbrev asks : SourceState D → ResourceAnswer → SourceState D → Type 0
  asks s answer t = MakesResource g d s question (Own own.0 own.1) (entries.Committed (size_made of question d)) answer t

  pub committed_over : size ≡ (info_of of d).size_in_bytes → IsFirstServing d.memory_location d.resource_category (memory_kinds old.pool.source.tier) index
      → IsCommitted asks size (records_at old.committed index) old.pool.source made (records_at left index) source → left ≡ slice_set old.committed index (records_at left index)
      → (result : Result Resource AllocationError) → RepliesResource d result (made_reply index None size (resource_reply made))
      → IsCommittedOver g d question own old result (record { pool = record old.pool { source = source }; committed = left })
  committed_over sized first c others result told = record {
    environment = record { pool = host_met c.host; resource = c.answer };
    reply = made_reply index None (info_of of d).size_in_bytes (resource_reply made);
    commits = record {
      memory_type = index;
      first = first;
      host = c.host;
      no_heap = refl;
      number = resource_reply made;
      left = records_at left index;
      commits = subst (λ n. Commits c.host (records_at old.committed index) n c.answer (resource_reply made) (records_at left index)) sized c.commits;
      asked = c.asked;
      reply_is = refl;
      pool = refl;
      committed = others;
    };
    replies = subst (λ n. RepliesResource d result (made_reply index None n (resource_reply made))) sized told;
  }

-- what the caller gets
module _ (d : ResourceCreateDesc) (index size : ℕ) (given : Result Resource AllocationError) (made : Result ID3D12Resource AllocationError) where
  abbrev Gets : Result Resource AllocationError → Result ID3D12Resource AllocationError → Type 0
  Gets x y = RepliesResource d x (made_reply index None size (resource_reply y))

  pub gets_err : (e : AllocationError) → given ≡ Err e → made ≡ Err e → Gets given made
  gets_err e is was = subst (λ x. Gets x made) (sym is) (subst (λ y. Gets (Err e) y) (sym was) refl)

  pub gets_ok : (r : ID3D12Resource) (resource : Resource) → given ≡ Ok resource → made ≡ Ok r → IsMade d index None r.0 size resource → Gets given made
  gets_ok r resource is was in_it = subst (λ x. Gets x made) (sym is) (subst (λ y. Gets (Ok resource) y) (sym was) in_it)

-- ---- what the call for a resource is

after_stays : {D : Type 0} (g : Ghosts D) (d : ResourceCreateDesc) (question : CreateCall) (place : ResourcePlace) (entry : _) (o : Option ResourceAnswer)
    (old new : SourceState D) → IsAfterResource (λ s answer t. MakesResource g d s question place entry answer t) old o new → Stays g old new × TellsReason g o new
after_stays g d question place entry None old new is = (stays_same g old new is, record { answered = new; told = tt; went = None; gives_back = refl })
after_stays g d question place entry (Some answer) old new is =
    (made_stays g d old question place entry answer new is, record { answered = new; told = (is.asks.reason, subst IsJustAnswered (sym is.asks.history) tt); went = None; gives_back = refl })

module _ {D : Type 0} (g : Ghosts D) (basis : Basis) where
  ends_stay : (t : ℕ) (p : Piece ID3D12Heap) (r : Result ℕ Refusal) (old new : states.Pool D) (answer : ResourceAnswer)
      → EndsBy (AsksBlock g) (GivesHeapBack g) (MakesResource g) (ReleasesResource g) basis t p r old new → IsReasonMet g (Some answer) (device_of old.source.device)
      → Stays g old.source new.source × TellsReason g (Some answer) new.source
  ends_stay t p (Ok number) old new answer is told =
      let same = ap (λ (s : states.Pool D). s.source) is in
      (stays_same g old.source new.source same, record { answered = old.source; told = told; went = None; gives_back = same })
  ends_stay t p (Err refusal) old new answer f told = (frees_stays g t p old (Ok tt) new f, record { answered = old.source; told = told; went = f.1.went; gives_back = f.1.source })

  places_stay : (d : ResourceCreateDesc) (question : CreateCall) (allocated : Result (ℕ × Piece ID3D12Heap) Refusal) (o : Option ResourceAnswer) (reply : Reply) (old new : states.Pool D)
      → PlacesThen (AsksBlock g) (GivesHeapBack g) (MakesResource g) (ReleasesResource g) basis d question allocated o reply old new → Stays g old.source new.source × TellsReason g o new.source
  places_stay d question (Ok p) (Some answer) reply old new a =
      let rest = ends_stay p.0 p.1 (number_or_refusal placed_texts answer) (record old { source = a.between }) new answer a.ends (a.asked.asks.reason, subst IsJustAnswered (sym a.asked.asks.history) tt) in
      (then_stays g old.source a.between new.source (made_stays g d old.source question _ _ answer a.between a.asked) rest.0, rest.1)
  places_stay d question (Ok p) None reply old new a = absurd a
  places_stay d question (Err refusal) (Some answer) reply old new a = absurd a
  places_stay d question (Err refusal) None reply old new a =
      let same = ap (λ (s : states.Pool D). s.source) a.1 in
      (stays_same g old.source new.source same, record { answered = new.source; told = tt; went = None; gives_back = refl })

  allocates_stay : (d : AllocationCreateDesc) (valid : Bool) (met : environments.Environment ID3D12Heap) (reply : replies.Reply ID3D12Heap) (old new : states.Pool D)
      → AllocatesBy (AsksBlock g) (GivesHeapBack g) (MakesResource g) (ReleasesResource g) basis d valid met reply old new → Stays g old.source new.source
  allocates_stay d false met reply old new a = stays_same g old.source new.source (ap (λ (s : states.Pool D). s.source) a.2)
  allocates_stay d true met reply old new a = (serves_keeps g (kinds_of_device basis.tier) (request_in a.0 d) old met a.2.0 new a.2.2).source

  pub place_stays : (d : ResourceCreateDesc) (question : CreateCall) (met : Environment) (reply : Reply) (old new : states.Pool D)
      → Place (AsksBlock g) (GivesHeapBack g) (MakesResource g) (ReleasesResource g) basis d question met reply old new → Stays g old.source new.source × TellsReason g met.resource new.source
  place_stays d question met reply old new p =
      let rest = places_stay d question p.allocated met.resource reply p.mid new p.places in
      (then_stays g old.source p.mid.source new.source (allocates_stay (piece_desc d (info_of basis d)) (is_valid (piece_desc d (info_of basis d))) met.pool (allocated_reply p.allocated) old p.mid p.allocates) rest.0, rest.1)

  ends_sizes : (t : ℕ) (p : Piece ID3D12Heap) (r : Result ℕ Refusal) (old new : states.Pool D) → EndsBy (AsksBlock g) (GivesHeapBack g) (MakesResource g) (ReleasesResource g) basis t p r old new
      → new.sizes ≡ old.sizes
  ends_sizes t p (Ok number) old new is = ap (λ (s : states.Pool D). s.sizes) is
  ends_sizes t p (Err refusal) old new f = ap (λ (s : states.Pool D). s.sizes) f.1.state

  places_sizes : (d : ResourceCreateDesc) (question : CreateCall) (allocated : Result (ℕ × Piece ID3D12Heap) Refusal) (o : Option ResourceAnswer) (reply : Reply) (old new : states.Pool D)
      → PlacesThen (AsksBlock g) (GivesHeapBack g) (MakesResource g) (ReleasesResource g) basis d question allocated o reply old new → new.sizes ≡ old.sizes
  places_sizes d question (Ok p) (Some answer) reply old new a = ends_sizes p.0 p.1 (number_or_refusal placed_texts answer) (record old { source = a.between }) new a.ends
  places_sizes d question (Ok p) None reply old new a = absurd a
  places_sizes d question (Err refusal) (Some answer) reply old new a = absurd a
  places_sizes d question (Err refusal) None reply old new a = ap (λ (s : states.Pool D). s.sizes) a.1

  allocates_sizes : (d : AllocationCreateDesc) (valid : Bool) (met : environments.Environment ID3D12Heap) (reply : replies.Reply ID3D12Heap) (old new : states.Pool D)
      → AllocatesBy (AsksBlock g) (GivesHeapBack g) (MakesResource g) (ReleasesResource g) basis d valid met reply old new → new.sizes ≡ old.sizes
  allocates_sizes d false met reply old new a = ap (λ (s : states.Pool D). s.sizes) a.2
  allocates_sizes d true met reply old new a = (serves_keeps g (kinds_of_device basis.tier) (request_in a.0 d) old met a.2.0 new a.2.2).sizes

  pub place_sizes : (d : ResourceCreateDesc) (question : CreateCall) (met : Environment) (reply : Reply) (old new : states.Pool D)
      → Place (AsksBlock g) (GivesHeapBack g) (MakesResource g) (ReleasesResource g) basis d question met reply old new → new.sizes ≡ old.sizes
  place_sizes d question met reply old new p =
      places_sizes d question p.allocated met.resource reply p.mid new p.places
      ∙ allocates_sizes (piece_desc d (info_of basis d)) (is_valid (piece_desc d (info_of basis d))) met.pool (allocated_reply p.allocated) old p.mid p.allocates

  pub freed_stays : (o : Option Allocation) (r : Resource) (old : Contents (SourceState D)) (answer : Result (Unit {0}) Refusal) (new : Contents (SourceState D))
      → FreesResource (AsksBlock g) (GivesHeapBack g) (MakesResource g) (ReleasesResource g) basis o r old answer new → Stays g old.pool.source new.pool.source
  freed_stays (Some a) r old (Ok u) new f =
      then_stays g old.pool.source f.0.0 new.pool.source (released_stays g old.pool.source r.resource.0 f.0.0 f.0.1)
      (frees_stays g a.memory_type_index (piece_of a) (record (old.pool) { source = f.0.0 }) (Ok u) new.pool f.0.2)
  freed_stays (Some a) r old (Err e) new f = frees_stays g a.memory_type_index (piece_of a) old.pool (Err e) new.pool f.0
  freed_stays None r old (Ok u) new f = released_stays g old.pool.source r.resource.0 new.pool.source f.1
  freed_stays None r old (Err e) new f = stays_same g old.pool.source new.pool.source (ap (λ (c : Contents (SourceState D)). c.pool.source) f.2)

module _ {D : Type 0} (g : Ghosts D) (d : ResourceCreateDesc) (old new : State D) (result : Result Resource AllocationError) where
  -- the step by a question, where there is one
  abbrev By : (question : CreateCall) (type : ResourceType) → Environment → Reply → Type 0
  By question type met reply = MakesBy (SeesQuestion old.setup.tier) SeesHeapFreed SeesMade SeesReleased (basis_of g old) d question type met reply (model_of g old) (model_of g new)

  by_question : (question : CreateCall) (type : ResourceType) → d.resource_type.now ≡ type → resource_question old.device d.initial_state_or_layout d.castable_formats.now ≡ Ok question
      → (met : Environment) (reply : Reply) → By question type met reply → Stays g (pool_of old).source (pool_of new).source → RepliesResource d result reply → TellsReason g met.resource (pool_of new).source
      → IsCreateStep g d result old new
  by_question question type of asked met reply step stay told reason = record {
    reply = reply;
    step = record {
      environment = met;
      step =
          subst (λ q. CreatesBy (SeesQuestion old.setup.tier) SeesHeapFreed SeesMade SeesReleased (basis_of g old) d q met reply (model_of g old) (model_of g new))
          (sym (same_question old.device d.initial_state_or_layout d.castable_formats.now ∙ asked)) (subst (λ t. By question t met reply) (sym of) step);
      same_version = same_version g (pool_of old).source (pool_of new).source stay;
    };
    replies = told;
    reason = reason;
  }

  pub committed_step : (question : CreateCall) (properties : _) (flags : HeapFlags) → d.resource_type.now ≡ resource_types.Committed properties flags
      → resource_question old.device d.initial_state_or_layout d.castable_formats.now ≡ Ok question
      → IsCommittedOver g d question (properties.now, flags) (contents_of old) result (contents_of new) → IsCreateStep g d result old new
  committed_step question properties flags of asked o =
      let after = after_stays g d question (Own properties.now flags) _ o.environment.resource (pool_of old).source (pool_of new).source o.commits.asked in
      by_question question (resource_types.Committed properties flags) of asked o.environment o.reply
      (commit_seen g (basis_of g old) d question (properties.now, flags) o.environment o.reply (contents_of old) (contents_of new) o.commits) after.0 o.replies after.1

  pub placed_step : (question : CreateCall) → d.resource_type.now ≡ resource_types.Placed → resource_question old.device d.initial_state_or_layout d.castable_formats.now ≡ Ok question
      → IsPlacedOver g d question (pool_of old) result (pool_of new) → new.committed ≡ old.committed → IsCreateStep g d result old new
  placed_step question of asked o committed =
      let after = place_stays g (basis_of g old) d question o.environment o.reply (pool_of old) (pool_of new) o.places in
      by_question question resource_types.Placed of asked o.environment o.reply
      (place_seen g (basis_of g old) d question o.environment o.reply (pool_of old) (pool_of new) refl o.places, committed) after.0 o.replies after.1

-- where there is no question the device isn't asked, and nothing changes
pub not_asked : {D : Type 0} (g : Ghosts D) (d : ResourceCreateDesc) (s : State D) (e : AllocationError) → resource_question s.device d.initial_state_or_layout d.castable_formats.now ≡ Err (refusal_of e)
    → IsCreateStep g d (Err e) s s
not_asked g d s e why = record {
  reply = error (refusal_of e);
  step = record {
    environment = nothing_met;
    step =
        subst (λ q. CreatesBy (SeesQuestion s.setup.tier) SeesHeapFreed SeesMade SeesReleased (basis_of g s) d q nothing_met (error (refusal_of e)) (model_of g s) (model_of g s))
        (sym (same_question s.device d.initial_state_or_layout d.castable_formats.now ∙ why)) (refl, refl, refl);
    same_version = same_version g (pool_of s).source (pool_of s).source (stays g (pool_of s).source);
  };
  replies = refl;
  reason = record { answered = (pool_of s).source; told = tt; went = None; gives_back = refl };
}

-- ---- a resource that is given back

freed_reply : (result : Result (Unit {0}) (AllocationError × Resource)) → freed_as result ≡ module_replies.Pool (replies.reply_of_done (freed_of result))
freed_reply (Ok u) = refl
freed_reply (Err e) = refl

pub free_resource_step : {D : Type 0} (g : Ghosts D) (r : Resource) (old new : State D) (result : Result (Unit {0}) (AllocationError × Resource))
    → FreesResourceOver g r (contents_of old) (freed_of result) (contents_of new) → IsStep g (FreeResource r) (freed_as result) old new
free_resource_step g r old new result f = record {
  environment = nothing_met;
  step = (refl, freed_of result, freed_reply result, frees_resource_seen g (basis_of g old) r.allocation r (contents_of old) (freed_of result) (contents_of new) f);
  same_version = same_version g (pool_of old).source (pool_of new).source (freed_stays g (basis_of g old) r.allocation r (contents_of old) (freed_of result) (contents_of new) f);
}

-- a live placed resource was released, and its piece freed
pub freed_placed : {D : Type 0} (g : Ghosts D) (a : Allocation) (number : ℕ) (old : states.Pool D) (between : SourceState D) → ReleasesResource g old.source number between
    → IsLive old.slots a → (answer : Result (Unit {0}) Refusal) (new : states.Pool D)
    → pool_frees.PoolFrees (GivesHeapBack g) is_same_heap a.memory_type_index (piece_of a) (record old { source = between }) answer new → FreesPlacedOver g a number old answer new
freed_placed g a number old between releases live (Ok u) new f = (between, releases, f)
freed_placed g a number old between releases live (Err e) new f = absurd (f.0 live)

-- a live piece that was freed
pub freed_live : {D : Type 0} (g : Ghosts D) (a : Allocation) (old : states.Pool D) → IsLive old.slots a → (answer : Result (Unit {0}) Refusal) (new : states.Pool D)
    → pool_frees.PoolFrees (GivesHeapBack g) is_same_heap a.memory_type_index (piece_of a) old answer new → pool_frees.PoolFrees (GivesHeapBack g) is_same_heap a.memory_type_index (piece_of a) old (Ok tt) new
freed_live g a old live (Ok u) new f = f
freed_live g a old live (Err e) new f = absurd (f.0 live)
