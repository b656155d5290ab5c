-- The number of a resource that is made is none that the device held.
use Rattle.std.proofs.Common.{◌≡◌, ◌∙◌, refl, sym, ap, subst, ℕ, Bool, true, false, List, Option, Some, None, Result, Ok, Err, IfOk}
use Rattle.std.specs.FinMap.{get}
use Rattle.gpu_values.specs.Refusal.{Refusal}
use Rattle.gpu_values.specs.declared.error.AllocationError.{AllocationError}
use Rattle.gpu_device.specs.D3D12.{Entry}
use Rattle.gpu_device.specs.Granted.{IsNew}
use Rattle.gpu_device.specs.declared.d3d12.device.D3D12Device.{Ghosts}
use Rattle.gpu_device.specs.declared.d3d12.event.ResourcePlace.{ResourcePlace}
use Rattle.gpu_device.specs.declared.d3d12.types.HeapFlags.{HeapFlags}
use Rattle.gpu_device.specs.declared.d3d12.types.HeapProperties.{HeapProperties}
use Rattle.gpu_device.specs.declared.d3d12.types.ID3D12Heap.{ID3D12Heap}
use Rattle.gpu_core.specs.declared.piece.Piece.{Piece}
use Rattle.gpu_d3d12.specs.DeviceVersion.{device_of}
use Rattle.gpu_d3d12.specs.ResourceAnswer.{ResourceAnswer, Granted, Declined, Null, Texts, resource_number, committed_texts, placed_texts}
use Rattle.gpu_d3d12.specs.Setup.{kinds_of_device}
use Rattle.gpu_d3d12.specs.declared.describe.AllocationCreateDesc.{AllocationCreateDesc}
use Rattle.gpu_d3d12.specs.declared.question.ResourceCreateDesc.{ResourceCreateDesc}
use Rattle.gpu_d3d12.specs.declared.question.CreateCall.{CreateCall}
use Rattle.gpu_pool.specs.Allocate as environments
use Rattle.gpu_pool.specs.Allocate.{NothingMet, NoHostMemory, Answered}
use Rattle.gpu_pool.specs.Reply as replies
use Rattle.gpu_pool.proofs.Serving.{SourceAfter, serves_source}
use Rattle.gpu_d3d12.specs.Allocate.{is_valid, request_in}
use Rattle.gpu_d3d12.specs.Committed.{CommitsBy, IsAfterResource, fits, records_at, number_or_refusal}
use Rattle.gpu_d3d12.specs.Over.{IsCommittedOver, IsPlacedOver}
use Rattle.gpu_d3d12.specs.Reply.{Reply, made_reply}
use Rattle.gpu_d3d12.specs.Resource.{piece_desc}
use Rattle.gpu_d3d12.specs.Source.{SourceState, held_by, source_beside, AsksBlock, GivesHeapBack, MakesResource, ReleasesResource}
use Rattle.gpu_d3d12.specs.State as states
use Rattle.gpu_d3d12.specs.State.{Basis, Contents, source_basis}
use Rattle.gpu_d3d12.specs.Step.{AllocatesBy, PlacesThen, RepliesResource, info_of}
use Rattle.gpu_d3d12.specs.declared.committed_record.CommittedRecord.{CommittedRecord}
use Rattle.gpu_d3d12.specs.declared.resource.Resource.{Resource}
use Rattle.gpu_d3d12.proofs.Changing.{beside_other, no_block}

-- ---- the number in an answer

ok_err : (n : ℕ) (e : Refusal) → Ok n ≡ Err e → ⊥
ok_err n e is = cc

ok_same : (m n : ℕ) → ◌≡◌ {A = Result ℕ Refusal} (Ok m) (Ok n) → m ≡ n
ok_same m n is = cc

-- an answer that gives this number granted it
granted : (texts : Texts) (a : ResourceAnswer) (n : ℕ) → number_or_refusal texts a ≡ Ok n → resource_number a ≡ Some n
granted texts (Granted m) n is = ap Some (ok_same m n is)
granted texts (Declined code reason) n is = absurd (ok_err n _ (sym is))
granted texts Null n is = absurd (ok_err n _ (sym is))

-- whose caller gets a resource was told its number
number_is : (d : ResourceCreateDesc) (t : ℕ) (piece : Option (Piece ID3D12Heap)) (size : ℕ) (number : Result ℕ Refusal) (r : Resource) → RepliesResource d (Ok r) (made_reply t piece size number)
    → number ≡ Ok r.resource.0
number_is d t piece size (Ok n) r h = ap Ok (sym h.resource)
number_is d t piece size (Err e) r h = absurd h

-- a committed resource that is given was granted
answered : (fits host : Bool) (old : List CommittedRecord) (size : ℕ) (answer : Option ResourceAnswer) (n : ℕ) (new : List CommittedRecord) → CommitsBy fits host old size answer (Ok n) new
    → (a : ResourceAnswer) × (answer ≡ Some a) × (resource_number a ≡ Some n)
answered false host old size answer n new c = absurd (ok_err n _ c.2)
answered true false old size answer n new c = absurd (ok_err n _ c.1)
answered true true old size None n new c = absurd c
answered true true old size (Some a) n new c = (a, refl, granted committed_texts a n (sym c.0))

-- ---- what the device held

module _ {D : Type 0} (g : Ghosts D) (d : ResourceCreateDesc) (question : CreateCall) where
  -- nothing is held under the number of a resource that is made
  unheld : (old new : SourceState D) (place : ResourcePlace) (entry : Entry) (answer : ResourceAnswer) (n : ℕ) → MakesResource g d old question place entry answer new → resource_number answer ≡ Some n
      → get (source_beside g old) n ≡ None
  unheld old new place entry answer n made is =
      let none : get (held_by g old) n ≡ None = (subst (IsNew (held_by g old)) is made.asks.number).1 in
      let first = g.held (device_of old.first) in
      beside_other first (held_by g old) n (no_block first (held_by g old) n none) ∙ none

  unheld_after : (old new : SourceState D) (place : ResourcePlace) (entry : Entry) (met : Option ResourceAnswer) (a : ResourceAnswer) (n : ℕ)
      → IsAfterResource (λ s answer t. MakesResource g d s question place entry answer t) old met new → met ≡ Some a → resource_number a ≡ Some n → get (source_beside g old) n ≡ None
  unheld_after old new place entry met a n asked is number =
      unheld old new place entry a n (subst (λ o. IsAfterResource (λ s answer t. MakesResource g d s question place entry answer t) old o new) is asked) number

  -- a committed resource
  pub committed_fresh : (own : HeapProperties × HeapFlags) (old : Contents (SourceState D)) (result : Result Resource AllocationError) (new : Contents (SourceState D))
      → IsCommittedOver g d question own old result new → IfOk result (λ r. get (source_beside g old.pool.source) r.resource.0 ≡ None)
  committed_fresh own old (Err e) new o = tt
  committed_fresh own old (Ok r) new o =
      let c = o.commits in
      let size = (info_of (source_basis g old.pool.source) d).size_in_bytes in
      let records = records_at old.committed c.memory_type in
      let is = number_is d c.memory_type None size c.number r (subst (RepliesResource d (Ok r)) c.reply_is o.replies) in
      let k = answered (fits records size) c.host records size o.environment.resource r.resource.0 c.left
      (subst (λ k. CommitsBy (fits records size) c.host records size o.environment.resource k c.left) is c.commits) in
      unheld_after old.pool.source new.pool.source _ _ o.environment.resource k.0 r.resource.0 c.asked k.1 k.2

  -- what is held beside the blocks is the same behind a question for one
  beside_after : (basis : Basis) (q : environments.RequestAt (Unit {0})) (old : states.Pool D) (met : environments.Environment ID3D12Heap) (new : SourceState D)
      → SourceAfter (kinds_of_device basis.tier) (AsksBlock g) q old met new → source_beside g new ≡ source_beside g old.source
  beside_after basis q old NothingMet new is = ap (source_beside g) is
  beside_after basis q old NoHostMemory new is = ap (source_beside g) is
  beside_after basis q old (Answered size answer) new is = is.beside

  allocated_beside : (basis : Basis) (p : AllocationCreateDesc) (valid : Bool) (met : environments.Environment ID3D12Heap) (reply : replies.Reply ID3D12Heap) (old new : states.Pool D)
      → AllocatesBy (AsksBlock g) (GivesHeapBack g) (MakesResource g) (ReleasesResource g) basis p valid met reply old new → source_beside g new.source ≡ source_beside g old.source
  allocated_beside basis p false met reply old new a = ap (λ (s : states.Pool D). source_beside g s.source) a.2
  allocated_beside basis p true met reply old new a =
      beside_after basis (request_in a.0 p) old met new.source (serves_source (kinds_of_device basis.tier) (AsksBlock g) (request_in a.0 p) old met a.2.0 new a.2.2)

  placed_unheld : (basis : Basis) (allocated : Result (ℕ × Piece ID3D12Heap) Refusal) (met : Option ResourceAnswer) (reply : Reply) (old new : states.Pool D) (r : Resource)
      → PlacesThen (AsksBlock g) (GivesHeapBack g) (MakesResource g) (ReleasesResource g) basis d question allocated met reply old new → RepliesResource d (Ok r) reply
      → get (source_beside g old.source) r.resource.0 ≡ None
  placed_unheld basis (Ok p) (Some answer) reply old new r a told =
      let is = number_is d p.0 (Some p.1) (info_of basis d).size_in_bytes (number_or_refusal placed_texts answer) r (subst (RepliesResource d (Ok r)) a.reply_is told) in
      unheld old.source a.between _ _ answer r.resource.0 a.asked (granted placed_texts answer r.resource.0 is)
  placed_unheld basis (Ok p) None reply old new r a told = absurd a
  placed_unheld basis (Err refusal) (Some answer) reply old new r a told = absurd a
  placed_unheld basis (Err refusal) None reply old new r a told = absurd (subst (RepliesResource d (Ok r)) a.0 told)

  -- a placed resource
  pub placed_fresh : (old : states.Pool D) (result : Result Resource AllocationError) (new : states.Pool D) → IsPlacedOver g d question old result new
      → IfOk result (λ r. get (source_beside g old.source) r.resource.0 ≡ None)
  placed_fresh old (Err e) new o = tt
  placed_fresh old (Ok r) new o =
      let basis = source_basis g old.source in
      let p = piece_desc d (info_of basis d) in
      let same = allocated_beside basis p (is_valid p) o.environment.pool _ old o.places.mid o.places.allocates in
      sym (ap (λ m. get m r.resource.0) same) ∙ placed_unheld basis o.places.allocated o.environment.resource o.reply o.places.mid new r o.places.places o.replies
