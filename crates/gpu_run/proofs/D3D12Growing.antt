-- What a request for a resource adds, and what giving one back takes.
use Rattle.std.proofs.Common.{◌≡◌, ◌≢◌, ◌∙◌, ℕ, zero, suc, ◌<◌, Bool, true, false, List, [], ◌∷◌, length, slice_get, Option, Some, None, Result, Ok, Err, refl, ap, sym, subst, inl, inr, arith}
use Rattle.std.specs.Prelude.{Contains, IsSome, IsSomeAnd}
use Rattle.std.specs.FinMap.{get, insert}
use Rattle.std.proofs.lemmas.Bool.{cases_eq}
use Rattle.std.proofs.lemmas.List.{length-map, get_or-set_same}
use Rattle.std.proofs.lemmas.List.Elements.{Contains-append_left, Contains-push}
use Rattle.gpu_values.specs.Refusal.{Refusal}
use Rattle.gpu_core.specs.declared.piece.Piece.{Piece}
use Rattle.gpu_device.specs.D3D12 as entries
use Rattle.gpu_device.specs.D3D12.{Held, Entry, granted_resource, without_resource}
use Rattle.gpu_device.specs.D3D12History.{refused_in}
use Rattle.gpu_device.specs.Granted.{with_granted, counted}
use Rattle.gpu_device.specs.declared.d3d12.event.ResourcePlace.{ResourcePlace}
use Rattle.gpu_device.specs.declared.d3d12.event.ResourcePlace.TheVariants.{Own}
use Rattle.gpu_device.specs.declared.d3d12.types.HeapFlags.{HeapFlags}
use Rattle.gpu_device.specs.declared.d3d12.types.HeapProperties.{HeapProperties}
use Rattle.gpu_device.specs.declared.d3d12.types.ID3D12Heap.{ID3D12Heap}
use Rattle.gpu_device.proofs.Maps.{get-insert_same, get-insert_other}
use Rattle.gpu_device.proofs.HeapsAndResources.{get-without_resource_other}
use Rattle.gpu_d3d12.specs.Heaps.{is_host}
use Rattle.gpu_d3d12.specs.MemoryKinds.{memory_kinds, KindServes}
use Rattle.gpu_d3d12.specs.ResourceAnswer.{ResourceAnswer, Granted, Declined, Null, Texts, resource_number, told_answer, placed_texts, committed_texts}
use Rattle.gpu_d3d12.specs.Setup.{kinds_of_device}
use Rattle.gpu_d3d12.specs.declared.question.ResourceCreateDesc.{ResourceCreateDesc}
use Rattle.gpu_d3d12.specs.declared.question.CreateCall.{CreateCall}
use Rattle.gpu_d3d12.specs.declared.question.ResourceType.{ResourceType}
use Rattle.gpu_d3d12.specs.declared.question.ResourceType.TheVariants as kinds_of_resources
use Rattle.gpu_pool.specs.Reply as answers
use Rattle.gpu_d3d12.specs.Allocate.{is_valid}
use Rattle.gpu_d3d12.specs.Committed.{records_at, CommitsBy, IsAfterResource, number_or_refusal, with_record, fits}
use Rattle.gpu_pool.specs.Allocation.{piece_of}
use Rattle.gpu_d3d12.specs.Live.{Allocation}
use Rattle.gpu_d3d12.specs.Reply.{Reply, Pool, error, made_reply}
use Rattle.gpu_d3d12.specs.Resource.{piece_desc, record_of, LiesIn}
use Rattle.gpu_pool.specs.Allocate.{NothingMet}
use Rattle.gpu_d3d12.specs.State.{Basis, Seen, Model}
use Rattle.gpu_d3d12.specs.Step as model
use Rattle.gpu_d3d12.specs.Step.{Environment, Step, Commit, Place, PlacesThen, EndsBy, MakesBy, CreatesBy, FreesResource, FreesPlaced, FreesCommitted, RepliesResource, SeesQuestion, SeesHeapFreed, SeesMade, SeesReleased, host_met, nothing_met, info_of, size_made}
use Rattle.gpu_d3d12.specs.declared.committed_record.CommittedRecord.{CommittedRecord}
use Rattle.gpu_d3d12.specs.declared.resource.Resource.{Resource}
use Rattle.gpu_run.specs.D3D12Session.{IsKept, refused_by_heap, refused_by_resource, refused_after}
use Rattle.gpu_run.proofs.D3D12Counting.{PoolModel, refusals, Sees, freed_sees, quiet_sees, allocates_sees}
use Rattle.gpu_run.proofs.D3D12Records.{kept_set, gives_keeps, found}

-- ---- answers

ok_err : (n : ℕ) (e : Refusal) → ◌≡◌ {A = Result ℕ Refusal} (Ok n) (Err e) → ⊥
ok_err n e is = cc

ok_same : (m n : ℕ) → ◌≡◌ {A = Result ℕ Refusal} (Ok m) (Ok n) → m ≡ n
ok_same m n is = cc

-- an answer that gives this number granted it
granted : (texts : Texts) (a : ResourceAnswer) (n : ℕ) → number_or_refusal texts a ≡ Ok n → resource_number a ≡ Some n
granted texts (Granted m) n is = ap Some (ok_same m n is)
granted texts (Declined code reason) n is = absurd (ok_err n _ (sym is))
granted texts Null n is = absurd (ok_err n _ (sym is))

-- whose caller gets a resource was told its number
number_is : (d : ResourceCreateDesc) (t : ℕ) (piece : Option (Piece ID3D12Heap)) (size : ℕ) (number : Result ℕ Refusal) (r : Resource) → RepliesResource d (Ok r) (made_reply t piece size number)
    → number ≡ Ok r.resource.0
number_is d t piece size (Ok n) r h = ap Ok (sym h.resource)
number_is d t piece size (Err e) r h = absurd h

no_error : (d : ResourceCreateDesc) (e : Refusal) (r : Resource) → RepliesResource d (Ok r) (error e) → ⊥
no_error d e r h = h

answer_number : (a : ResourceAnswer) → granted_resource (told_answer a) ≡ resource_number a
answer_number (Granted n) = refl
answer_number (Declined code reason) = refl
answer_number Null = refl

host_counts : (host : Bool) (n : ℕ) → refused_by_heap (host_met host) n ≡ n
host_counts true n = refl
host_counts false n = refl

-- ---- what is held beside the blocks

granted_held : (held : Held) (number : Option ℕ) (e : Entry) (n : ℕ) → IsSome (get held n) → IsSome (get (with_granted held number e) n)
granted_held held None e n h = h
granted_held held (Some m) e n h = elim (cases_eq n m) [
  | inl same ↦ subst (λ o. IsSome o) (sym (ap (get (insert held m e)) same ∙ get-insert_same held m e)) refl
  | inr apart ↦ subst (λ o. IsSome o) (sym (get-insert_other held m n e apart)) h
]

new_held : (held : Held) (number : Option ℕ) (e : Entry) (n : ℕ) → number ≡ Some n → IsSome (get (with_granted held number e) n)
new_held held number e n is = subst (λ (o : Option ℕ). IsSome (get (with_granted held o e) n)) (sym is) (subst (λ o. IsSome o) (sym (get-insert_same held n e)) refl)

-- what a question for a resource, if there was one, leaves of what is seen of a device
record Adds (answer : Option ResourceAnswer) (old new : Seen) : Type 0 where
  pub count : refused_in new.history ≡ refused_by_resource answer (refused_in old.history)
  pub beside : (n : ℕ) → IsSome (get old.beside n) → IsSome (get new.beside n)

adds : (d : ResourceCreateDesc) (old : Seen) (question : CreateCall) (place : ResourcePlace) (e : Entry) (a : ResourceAnswer) (new : Seen) → SeesMade d old question place e a new → Adds (Some a) old new
adds d old question place e a new is = record {
  count = ap (λ (s : Seen). refused_in s.history) is ∙ ap (counted (refused_in old.history)) (answer_number a);
  beside = λ n h. subst (λ (s : Seen). IsSome (get s.beside n)) (sym is) (granted_held old.beside (resource_number a) e n h);
}

adds_number : (d : ResourceCreateDesc) (old : Seen) (question : CreateCall) (place : ResourcePlace) (e : Entry) (a : ResourceAnswer) (new : Seen) (n : ℕ) → SeesMade d old question place e a new
    → resource_number a ≡ Some n → IsSome (get new.beside n)
adds_number d old question place e a new n is number = subst (λ (s : Seen). IsSome (get s.beside n)) (sym is) (new_held old.beside (resource_number a) e n number)

-- a list that has a record more has the others still
with_record_keeps : (rs : List CommittedRecord) (size : ℕ) (number : Option ℕ) (q : CommittedRecord) → Contains rs q → Contains (with_record rs size number) q
with_record_keeps rs size None q h = h
with_record_keeps rs size (Some n) q h = Contains-append_left rs _ q h

commits_keeps : (fits host : Bool) (old : List CommittedRecord) (size : ℕ) (answer : Option ResourceAnswer) (reply : Result ℕ Refusal) (new : List CommittedRecord)
    → CommitsBy fits host old size answer reply new → (q : CommittedRecord) → Contains old q → Contains new q
commits_keeps false host old size answer reply new h q was = subst (λ rs. Contains rs q) (sym h.3) was
commits_keeps true false old size answer reply new h q was = subst (λ rs. Contains rs q) (sym h.2) was
commits_keeps true true old size None reply new h q was = absurd h
commits_keeps true true old size (Some a) reply new h q was = subst (λ rs. Contains rs q) (sym h.1) (with_record_keeps old size (resource_number a) q was)

-- a granted one has its record
commits_new : (fits host : Bool) (old : List CommittedRecord) (size : ℕ) (answer : Option ResourceAnswer) (n : ℕ) (new : List CommittedRecord)
    → CommitsBy fits host old size answer (Ok n) new → ((a : ResourceAnswer) × (answer ≡ Some a) × (resource_number a ≡ Some n)) × Contains new (record { resource = record { 0 = n }; size = size })
commits_new false host old size answer n new h = absurd (ok_err n _ h.2)
commits_new true false old size answer n new h = absurd (ok_err n _ h.1)
commits_new true true old size None n new h = absurd h
commits_new true true old size (Some a) n new h =
    let number = granted committed_texts a n (sym h.0) in
    ((a, refl, number), subst (λ rs. Contains rs (record { resource = record { 0 = n }; size = size })) (sym (h.1 ∙ ap (with_record old size) number)) (Contains-push old _))

below_some : {A : Type 0} (xs : List A) (t : ℕ) (P : A → Type 0) → IsSomeAnd (slice_get xs t) P → t < length xs
below_some [] t P h = absurd h
below_some (x ∷ xs) zero P h = omega arith
below_some (x ∷ xs) (suc t) P h = let below = below_some xs t P h in omega (arith, below)

-- ---- a request for a resource

module _ (basis : Basis) (d : ResourceCreateDesc) where
  -- what a request for a resource leaves
  pub record Grows (met : Environment) (old new : Model) : Type 0 where
    pub count : refusals new ≡ refused_after met (refusals old)
    pub beside : (n : ℕ) → IsSome (get old.pool.source.beside n) → IsSome (get new.pool.source.beside n)
    pub records : (t : ℕ) (q : CommittedRecord) → Contains (records_at old.committed t) q → Contains (records_at new.committed t) q

  -- a resource that is given: something is held under its number, and of a committed one there is a record
  pub record IsThere (old new : Model) (r : Resource) : Type 0 where
    pub held : IsSome (get new.pool.source.beside r.resource.0)
    pub kept : r.allocation ≡ None → length old.committed ≡ length (kinds_of_device basis.tier) → Contains (records_at new.committed r.memory_type_index) (record_of r)

  stays : (old new : Model) → new ≡ old → Grows nothing_met old new
  stays old new same = record {
    count = ap refusals same;
    beside = λ n h. subst (λ (m : Model). IsSome (get m.pool.source.beside n)) (sym same) h;
    records = λ t q h. subst (λ (m : Model). Contains (records_at m.committed t) q) (sym same) h;
  }

  after_adds : (question : CreateCall) (place : ResourcePlace) (e : Entry) (answer : Option ResourceAnswer) (old new : Seen)
      → IsAfterResource (λ s a t. SeesMade d s question place e a t) old answer new → Adds answer old new
  after_adds question place e None old new same = record {
    count = ap (λ (s : Seen). refused_in s.history) same;
    beside = λ n h. subst (λ (s : Seen). IsSome (get s.beside n)) (sym same) h;
  }
  after_adds question place e (Some a) old new is = adds d old question place e a new is

  module _ (question : CreateCall) (met : Environment) (reply : Reply) where
    commit_grows : (own : HeapProperties × HeapFlags) (old new : Model)
        → Commit (SeesQuestion basis.tier) SeesHeapFreed SeesMade SeesReleased basis d question own met reply old new → Grows met old new
    commit_grows own old new c =
        let asked = after_adds question _ _ met.resource old.pool.source new.pool.source c.asked in
        record {
          count = asked.count ∙ ap (refused_by_resource met.resource) (sym (ap (λ m. refused_by_heap m (refusals old)) c.no_heap ∙ host_counts c.host (refusals old)));
          beside = asked.beside;
          records = λ t q h. subst (λ k. Contains (records_at k t) q) (sym c.committed)
              (kept_set old.committed c.memory_type t c.left q
              (λ same was. commits_keeps _ c.host (records_at old.committed c.memory_type) _ met.resource c.number c.left c.commits q was) h);
        }

    commit_there : (own : HeapProperties × HeapFlags) (old new : Model) (r : Resource)
        → Commit (SeesQuestion basis.tier) SeesHeapFreed SeesMade SeesReleased basis d question own met reply old new → RepliesResource d (Ok r) reply → IsThere old new r
    commit_there own old new r c replies =
        let size = (info_of basis d).size_in_bytes in
        let told = subst (λ a. RepliesResource d (Ok r) a) c.reply_is replies in
        let number = number_is d c.memory_type None size c.number r told in
        let made = subst (λ n. RepliesResource d (Ok r) (made_reply c.memory_type None size n)) number told in
        let commits = subst (λ n. CommitsBy (fits (records_at old.committed c.memory_type) size) c.host (records_at old.committed c.memory_type) size met.resource n c.left) number c.commits in
        let new_one = commits_new _ c.host (records_at old.committed c.memory_type) size met.resource r.resource.0 c.left commits in
        let a = new_one.0.0 in
        let asked = subst (λ o. IsAfterResource (λ s a t. SeesMade d s question (Own own.0 own.1) (entries.Committed (size_made basis question d)) a t) old.pool.source o new.pool.source) new_one.0.1 c.asked in
        record {
          held = adds_number d old.pool.source question _ _ a new.pool.source r.resource.0 asked new_one.0.2;
          kept = λ none many.
              let below = below_some (memory_kinds basis.tier) c.memory_type (λ k. KindServes d.memory_location d.resource_category k) c.first.serves in
              let told_many = length-map {B = Bool × ℕ} (memory_kinds basis.tier) (λ k. (is_host k, 1)) in
              let there : records_at new.committed c.memory_type ≡ c.left =
              ap (λ k. records_at k c.memory_type) c.committed ∙ get_or-set_same old.committed c.memory_type c.left [] (omega (arith, below, many, told_many)) in
              let is : record_of r ≡ record { resource = record { 0 = r.resource.0 }; size = size } = λ i. record { resource = r.resource; size = made.size_is i } in
              subst (λ n. Contains (records_at new.committed n) (record_of r)) (sym made.memory_type)
              (subst (λ rs. Contains rs (record_of r)) (sym there) (subst (λ q. Contains c.left q) (sym is) new_one.1));
        }

    ends_sees : (t : ℕ) (p : Piece ID3D12Heap) (number : Result ℕ Refusal) (old new : PoolModel)
        → EndsBy (SeesQuestion basis.tier) SeesHeapFreed SeesMade SeesReleased basis t p number old new → Sees NothingMet old.source new.source
    ends_sees t p (Ok n) old new h = quiet_sees old.source new.source (ap (λ s. s.source) h)
    ends_sees t p (Err e) old new h = freed_sees basis t p old (Ok tt) new h

    places_adds : (allocated : Result (ℕ × Piece ID3D12Heap) Refusal) (answer : Option ResourceAnswer) (mid new : PoolModel)
        → PlacesThen (SeesQuestion basis.tier) SeesHeapFreed SeesMade SeesReleased basis d question allocated answer reply mid new → Adds answer mid.source new.source
    places_adds (Ok p) (Some a) mid new h =
        let asked = adds d mid.source question _ _ a h.between h.asked in
        let ends = ends_sees p.0 p.1 _ (record mid { source = h.between }) new h.ends in
        record {
          count = ends.count ∙ asked.count;
          beside = λ n was. subst (λ b. IsSome (get b n)) (sym ends.beside) (asked.beside n was);
        }
    places_adds (Ok p) None mid new h = absurd h
    places_adds (Err e) (Some a) mid new h = absurd h
    places_adds (Err e) None mid new h = record {
      count = ap (λ (s : PoolModel). refused_in s.source.history) h.1;
      beside = λ n was. subst (λ (s : PoolModel). IsSome (get s.source.beside n)) (sym h.1) was;
    }

    places_there : (allocated : Result (ℕ × Piece ID3D12Heap) Refusal) (answer : Option ResourceAnswer) (mid new : PoolModel) (r : Resource)
        → PlacesThen (SeesQuestion basis.tier) SeesHeapFreed SeesMade SeesReleased basis d question allocated answer reply mid new → RepliesResource d (Ok r) reply
        → IsSome (get new.source.beside r.resource.0) × (r.allocation ≡ None → ⊥)
    places_there (Ok p) (Some a) mid new r h replies =
        let size = (info_of basis d).size_in_bytes in
        let told = subst (λ k. RepliesResource d (Ok r) k) h.reply_is replies in
        let number = number_is d p.0 (Some p.1) size (number_or_refusal placed_texts a) r told in
        let made = subst (λ n. RepliesResource d (Ok r) (made_reply p.0 (Some p.1) size n)) number told in
        let ends = ends_sees p.0 p.1 _ (record mid { source = h.between }) new h.ends in (
          subst (λ b. IsSome (get b r.resource.0)) (sym ends.beside) (adds_number d mid.source question _ _ a h.between r.resource.0 h.asked (granted placed_texts a r.resource.0 number)),
          λ none. subst (λ o. LiesIn p.0 d (Some p.1) o) none made.allocation,
        )
    places_there (Ok p) None mid new r h replies = absurd h
    places_there (Err e) (Some a) mid new r h replies = absurd h
    places_there (Err e) None mid new r h replies = absurd (subst (λ k. RepliesResource d (Ok r) k) h.0 replies)

    place_grows : (old new : Model) → Place (SeesQuestion basis.tier) SeesHeapFreed SeesMade SeesReleased basis d question met reply old.pool new.pool → new.committed ≡ old.committed → Grows met old new
    place_grows old new p same =
        let piece = allocates_sees basis (piece_desc d (info_of basis d)) (is_valid (piece_desc d (info_of basis d))) met.pool _ old.pool p.mid p.allocates in
        let asked = places_adds p.allocated met.resource p.mid new.pool p.places in
        record {
          count = asked.count ∙ ap (refused_by_resource met.resource) piece.count;
          beside = λ n was. asked.beside n (subst (λ b. IsSome (get b n)) (sym piece.beside) was);
          records = λ t q h. subst (λ k. Contains (records_at k t) q) (sym same) h;
        }

    makes_grows : (kind : ResourceType) (old new : Model) → MakesBy (SeesQuestion basis.tier) SeesHeapFreed SeesMade SeesReleased basis d question kind met reply old new → Grows met old new
    makes_grows (kinds_of_resources.Committed properties flags) old new h = commit_grows (properties.now, flags) old new h
    makes_grows kinds_of_resources.Placed old new h = place_grows old new h.0 h.1

    makes_there : (kind : ResourceType) (old new : Model) (r : Resource) → MakesBy (SeesQuestion basis.tier) SeesHeapFreed SeesMade SeesReleased basis d question kind met reply old new
        → RepliesResource d (Ok r) reply → IsThere old new r
    makes_there (kinds_of_resources.Committed properties flags) old new r h replies = commit_there (properties.now, flags) old new r h replies
    makes_there kinds_of_resources.Placed old new r h replies =
        let there = places_there h.0.allocated met.resource h.0.mid new.pool r h.0.places replies in
        record { held = there.0; kept = λ none many. absurd (there.1 none) }

  creates_grows : (question : Result CreateCall Refusal) (met : Environment) (reply : Reply) (old new : Model)
      → CreatesBy (SeesQuestion basis.tier) SeesHeapFreed SeesMade SeesReleased basis d question met reply old new → Grows met old new
  creates_grows (Err e) met reply old new h = subst (λ m. Grows m old new) (sym h.0) (stays old new h.2)
  creates_grows (Ok question) met reply old new h = makes_grows question met reply d.resource_type.now old new h

  creates_there : (question : Result CreateCall Refusal) (met : Environment) (reply : Reply) (old new : Model) (r : Resource)
      → CreatesBy (SeesQuestion basis.tier) SeesHeapFreed SeesMade SeesReleased basis d question met reply old new → RepliesResource d (Ok r) reply → IsThere old new r
  creates_there (Err e) met reply old new r h replies = absurd (subst (λ k. RepliesResource d (Ok r) k) h.1 replies)
  creates_there (Ok question) met reply old new r h replies = makes_there question met reply d.resource_type.now old new r h replies

  pub create_grows : (met : Environment) (reply : Reply) (old new : Model) → Step basis (model.CreateResource d) met reply old new → Grows met old new
  create_grows met reply old new h = creates_grows _ met reply old new h

  pub create_there : (met : Environment) (reply : Reply) (old new : Model) (r : Resource) → Step basis (model.CreateResource d) met reply old new → RepliesResource d (Ok r) reply → IsThere old new r
  create_there met reply old new r h replies = creates_there _ met reply old new r h replies

-- ---- a resource that is given back

done_error : (e : Refusal) → Pool answers.Done ≡ Pool (answers.Error e) → ⊥
done_error e is = cc

module _ (basis : Basis) (r : Resource) where
  -- what giving a resource back leaves of others
  pub record Shrinks (met : Environment) (old new : Model) : Type 0 where
    pub count : refusals new ≡ refused_after met (refusals old)
    pub beside : (n : ℕ) → n ≢ r.resource.0 → IsSome (get old.pool.source.beside n) → IsSome (get new.pool.source.beside n)
    pub records : (t : ℕ) (q : CommittedRecord) → q.resource.0 ≢ r.resource.0 → Contains (records_at old.committed t) q → Contains (records_at new.committed t) q

  released_held : (old new : Seen) → SeesReleased old r.resource.0 new → (n : ℕ) → n ≢ r.resource.0 → IsSome (get old.beside n) → IsSome (get new.beside n)
  released_held old new is n apart h =
      subst (λ (s : Seen). IsSome (get s.beside n)) (sym is) (subst (λ o. IsSome o) (sym (get-without_resource_other old.beside r.resource.0 n apart)) h)

  frees_shrinks : (piece : Option Allocation) (answer : Result (Unit {0}) Refusal) (old new : Model)
      → FreesResource (SeesQuestion basis.tier) SeesHeapFreed SeesMade SeesReleased basis piece r old answer new → Shrinks nothing_met old new
  frees_shrinks (Some a) (Ok u) old new h =
      let between = h.0.0 in
      let freed = freed_sees basis a.memory_type_index (piece_of a) (record old.pool { source = between }) (Ok u) new.pool h.0.2 in
      record {
        count = freed.count ∙ ap (λ (s : Seen). refused_in s.history) h.0.1;
        beside = λ n apart was. subst (λ b. IsSome (get b n)) (sym freed.beside) (released_held old.pool.source between h.0.1 n apart was);
        records = λ t q apart was. subst (λ k. Contains (records_at k t) q) (sym h.1) was;
      }
  frees_shrinks (Some a) (Err e) old new h =
      let freed = freed_sees basis a.memory_type_index (piece_of a) old.pool (Err e) new.pool h.0 in
      record {
        count = freed.count;
        beside = λ n apart was. subst (λ b. IsSome (get b n)) (sym freed.beside) was;
        records = λ t q apart was. subst (λ k. Contains (records_at k t) q) (sym h.1) was;
      }
  frees_shrinks None (Ok u) old new h = record {
    count = ap (λ (s : Seen). refused_in s.history) h.1;
    beside = released_held old.pool.source new.pool.source h.1;
    records = λ t q apart was. gives_keeps r.memory_type_index t (record_of r) q old.committed new.committed h.0 apart was;
  }
  frees_shrinks None (Err e) old new h = record {
    count = ap refusals h.2;
    beside = λ n apart was. subst (λ (m : Model). IsSome (get m.pool.source.beside n)) (sym h.2) was;
    records = λ t q apart was. subst (λ (m : Model). Contains (records_at m.committed t) q) (sym h.2) was;
  }

  pub release_shrinks : (met : Environment) (reply : Reply) (old new : Model) → Step basis (model.FreeResource r) met reply old new → Shrinks met old new
  release_shrinks met reply old new h = subst (λ m. Shrinks m old new) (sym h.0) (frees_shrinks r.allocation h.1 old new h.3)

  dead : (piece : Option Allocation) (answer : Result (Unit {0}) Refusal) (e : Refusal) (old new : Model) → error e ≡ Pool (answers.reply_of_done answer)
      → FreesResource (SeesQuestion basis.tier) SeesHeapFreed SeesMade SeesReleased basis piece r old answer new → IsKept old.pool.slots old.committed r piece → ⊥
  dead piece (Ok u) e old new is h kept = done_error e (sym is)
  dead (Some a) (Err refusal) e old new is h kept = h.0.0 kept
  dead None (Err refusal) e old new is h kept = found (records_at old.committed r.memory_type_index) (record_of r) kept h.0

  -- what is kept isn't refused
  pub never_refused : (met : Environment) (e : Refusal) (old new : Model) → Step basis (model.FreeResource r) met (error e) old new → IsKept old.pool.slots old.committed r r.allocation → ⊥
  never_refused met e old new h kept = dead r.allocation h.1 e old new h.2 h.3 kept
