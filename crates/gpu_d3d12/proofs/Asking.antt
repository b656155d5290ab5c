-- What the device's answers and what is released are for the source.
use Rattle.std.specs.Prelude.{IsSome}
use Rattle.std.proofs.Common.{◌≡◌, ◌∙◌, refl, sym, ap, subst, ℕ, List, ◌∷◌, Some, None, Ok, Err, Result}
use Rattle.gpu_values.specs.Refusal.{Refusal, refusal_of}
use Rattle.gpu_values.specs.declared.error.AllocationError.{AllocationError}
use Rattle.gpu_device.specs.declared.d3d12.event.ResourcePlace.{ResourcePlace}
use Rattle.gpu_device.specs.D3D12.{Held, Entry, without_resource}
use Rattle.gpu_device.specs.Granted.{with_granted}
use Rattle.gpu_device.specs.declared.d3d12.device.D3D12Device.{Ghosts}
use Rattle.gpu_device.specs.declared.d3d12.types.ID3D12Heap.{ID3D12Heap}
use Rattle.gpu_core.proofs.Options.{none_some, some_same}
use Rattle.gpu_d3d12.specs.DeviceVersion.{device_of, with_device}
use Rattle.gpu_d3d12.specs.HeapAnswer.{HeapAnswer, Granted, Declined, Null, AsksHeap, IsWithoutHeap, IsResultOf}
use Rattle.gpu_d3d12.specs.Heaps.{heap_desc}
use Rattle.gpu_d3d12.specs.ResourceAnswer.{ResourceAnswer, AsksResource, resource_number}
use Rattle.gpu_d3d12.specs.declared.memory_kind.MemoryKind.{MemoryKind}
use Rattle.gpu_d3d12.specs.declared.question.ResourceCreateDesc.{ResourceCreateDesc}
use Rattle.gpu_d3d12.specs.declared.question.CreateCall.{CreateCall}
use Rattle.gpu_pool.specs.Source.{HoldsAfter, Removes, result_of}
use Rattle.gpu_d3d12.specs.Blocks.{kind_at, IsWithoutResource}
use Rattle.gpu_d3d12.specs.Source.{SourceState, entry_block, blocks_of, beside, HoldsFirst, heap_result, held_by, source_blocks, source_beside, with_source_device, AsksBlock, GivesHeapBack, MakesResource, ReleasesResource}
use Rattle.gpu_d3d12.proofs.Changing.{heap_adds, heap_comes, heap_beside, heap_removes, heap_goes, gone_beside, Stays, resource_asked, resource_goes}
use Rattle.gpu_d3d12.specs.Journal.{with_made, IsResource, HoldsResources}
use Rattle.gpu_d3d12.specs.declared.journal.ResourceEvent.{ResourceEvent}
use Rattle.gpu_d3d12.specs.declared.journal.ResourceEvent.TheVariants.{Released}
use Rattle.gpu_d3d12.proofs.Journaling.{heap_quiet, heap_goes_quiet, resource_asked_for, resource_released}
use Rattle.gpu_d3d12.proofs.Versions.{device_with, same_version, kept_version}

granted_same : (m n : ℕ) → Granted m ≡ Granted n → m ≡ n
granted_same m n e = cc

-- what the asker makes of an answer is what a pool is told
pub answered_is : (answer : HeapAnswer) (result : Result ID3D12Heap AllocationError) → IsResultOf result answer → result_of result ≡ heap_result answer
answered_is (Granted n) (Ok heap) is = λ i. Ok (record { 0 = granted_same heap.0 n (sym is) i })
answered_is (Granted n) (Err e) is = absurd (none_some (refusal_of e) is)
answered_is (Declined code) (Ok heap) is = absurd (no_granted heap.0 code is)
  where
    no_granted : (n : ℕ) (code : _) → Declined code ≡ Granted n → ⊥
    no_granted n code e = cc
answered_is (Declined code) (Err e) is = ap Err (sym (some_same _ _ is))
answered_is Null (Ok heap) is = absurd (null_granted heap.0 is)
  where
    null_granted : (n : ℕ) → Null ≡ Granted n → ⊥
    null_granted n e = cc
answered_is Null (Err e) is = ap Err (sym (some_same _ _ is))

-- ---- a source whose device changed

-- what holds of a source at any time
abbrev pub Holds : {D : Type 0} → Ghosts D → SourceState D → Type 0
Holds g s = (g.properties (device_of s.device) ≡ g.properties (device_of s.first)) × (s.device ≡ with_device s.first (device_of s.device)) × HoldsFirst s.tier (g.held (device_of s.first)) (held_by g s)
    × HoldsResources (g.held (device_of s.first)) (held_by g s) s.journal

module _ {D : Type 0} (g : Ghosts D) (s : SourceState D) (after : D) where
  -- its device
  abbrev pub to : D
  to = device_of (with_device s.device after)

  abbrev pub new : SourceState D
  new = with_source_device s after

  -- the same once a resource was made or released
  abbrev pub noted : List ResourceEvent → SourceState D
  noted events = record new { journal = events }

  pub to_is : after ≡ to
  to_is = sym (device_with s.device after)

  pub state_is : new ≡ with_source_device s to
  state_is = λ i. record s { device = same_version s.device after i }

  pub noted_is : (events : List ResourceEvent) → noted events ≡ record (with_source_device s to) { journal = events }
  noted_is events = λ i. record s { device = same_version s.device after i; journal = events }

  holds_new : (events : List ResourceEvent) → g.properties to ≡ g.properties (device_of s.device) → HoldsFirst s.tier (g.held (device_of s.first)) (g.held to)
      → HoldsResources (g.held (device_of s.first)) (g.held to) events → Holds g s → Holds g (noted events)
  holds_new events constant first resources h = (constant ∙ h.0, kept_version s.device s.first after h.1, first, resources)

-- ---- a heap is asked for

module _ {D : Type 0} (g : Ghosts D) (s : SourceState D) (t size : ℕ) (k : MemoryKind) (at : kind_at s.tier t ≡ Some k) (h : Holds g s) (after : D) where
  abbrev first : Held
  first = g.held (device_of s.first)

  abbrev now : Held
  now = g.held (to g s after)

  -- what an answer leaves
  record Left (answer : HeapAnswer) : Type 0 where
    pub blocks : HoldsAfter (λ heap. heap.0) (source_blocks g s) (record { memory_type = t; size = size }) (heap_result answer) (source_blocks g (new g s after))
    pub holds : HoldsFirst s.tier first now
    pub resources : HoldsResources first now s.journal
    pub beside : source_beside g (new g s after) ≡ source_beside g s

  same_left : (answer : HeapAnswer) (e : Refusal) → heap_result answer ≡ Err e → now ≡ held_by g s → Left answer
  same_left answer e is same = record {
    blocks = subst (λ r. HoldsAfter (λ heap. heap.0) (source_blocks g s) (record { memory_type = t; size = size }) r (source_blocks g (new g s after))) (sym is) (λ n. ap (λ (j : Held). blocks_of first j n) same);
    holds = subst (HoldsFirst s.tier first) (sym same) h.2;
    resources = subst (λ (j : Held). HoldsResources first j s.journal) (sym same) h.3;
    beside = ap (beside first) same;
  }

  left : (answer : HeapAnswer) → AsksHeap g (device_of s.device) (heap_desc k size) answer (to g s after) → Left answer
  left (Granted n) a = record {
    blocks = heap_adds s.tier first (held_by g s) now n t size k at a.number.1 a.held h.2;
    holds = heap_comes s.tier first (held_by g s) now n t size k at a.number.1 a.held h.2;
    resources = heap_quiet first (held_by g s) now s.journal n (heap_desc k size) a.number.1 a.held h.3;
    beside = heap_beside s.tier first (held_by g s) now n t size k at a.number.1 a.held h.2;
  }
  left (Declined code) a = same_left (Declined code) _ refl a.held
  left Null a = same_left Null _ refl a.held

  module _ (answer : HeapAnswer) (result : Result ID3D12Heap AllocationError) (asked : AsksHeap g (device_of s.device) (heap_desc k size) answer after) (gives : IsResultOf result answer) where
    there : AsksHeap g (device_of s.device) (heap_desc k size) answer (to g s after)
    there = subst (λ (d : D). AsksHeap g (device_of s.device) (heap_desc k size) answer d) (to_is g s after) asked

    pub asks_block : AsksBlock g s t size tt (result_of result) (new g s after)
    asks_block = record {
      kind = k;
      at = at;
      heap_answer = answer;
      answered = answered_is answer result gives;
      asks = there;
      beside = (left answer there).beside;
      state = state_is g s after;
    }

    pub holds_answer : HoldsAfter (λ heap. heap.0) (source_blocks g s) (record { memory_type = t; size = size }) (result_of result) (source_blocks g (new g s after))
    holds_answer = subst (λ r. HoldsAfter (λ heap. heap.0) (source_blocks g s) (record { memory_type = t; size = size }) r (source_blocks g (new g s after)))
        (sym (answered_is answer result gives)) (left answer there).blocks

    pub asked_holds : Holds g (new g s after)
    asked_holds = holds_new g s after s.journal there.constant (left answer there).holds (left answer there).resources h

-- ---- a heap goes back

module _ {D : Type 0} (g : Ghosts D) (s : SourceState D) (heap : ID3D12Heap) (some : IsSome (source_blocks g s heap.0)) (h : Holds g s) (after : D)
    (went : IsWithoutHeap g (device_of s.device) heap.0 after) where
  gone : IsWithoutHeap g (device_of s.device) heap.0 (to g s after)
  gone = subst (λ (d : D). IsWithoutHeap g (device_of s.device) heap.0 d) (to_is g s after) went

  pub gives_heap_back : GivesHeapBack g s heap (new g s after)
  gives_heap_back = record {
    gives = gone;
    beside = gone_beside s.tier (g.held (device_of s.first)) (held_by g s) (g.held (to g s after)) heap.0 some gone.held h.2;
    state = state_is g s after;
  }

  pub removes_block : Removes (source_blocks g s) heap.0 (source_blocks g (new g s after))
  removes_block = heap_removes s.tier (g.held (device_of s.first)) (held_by g s) (g.held (to g s after)) heap.0 some gone.held h.2

  pub gone_holds : Holds g (new g s after)
  gone_holds =
      holds_new g s after s.journal gone.constant (heap_goes s.tier (g.held (device_of s.first)) (held_by g s) (g.held (to g s after)) heap.0 some gone.held h.2)
      (heap_goes_quiet (g.held (device_of s.first)) (held_by g s) (g.held (to g s after)) s.journal heap.0 some gone.held h.3) h

-- ---- a resource

-- a resource is asked for, and the blocks stay
module _ {D : Type 0} (g : Ghosts D) (s : SourceState D) (question : CreateCall) (d : ResourceCreateDesc) (place : ResourcePlace) (entry : Entry)
    (none : entry_block (Some entry) ≡ None) (resource : IsResource (Some entry)) (answer : ResourceAnswer) (h : Holds g s) (after : D) (asked : AsksResource g (device_of s.device) question d place entry answer after) where
  answered : AsksResource g (device_of s.device) question d place entry answer (to g s after)
  answered = subst (λ (x : D). AsksResource g (device_of s.device) question d place entry answer x) (to_is g s after) asked

  stays : Stays s.tier (g.held (device_of s.first)) (held_by g s) (g.held (to g s after)) (with_granted (source_beside g s) (resource_number answer) entry)
  stays = resource_asked s.tier (g.held (device_of s.first)) (held_by g s) entry none h.2 (g.held (to g s after)) (resource_number answer) answered.number answered.held

  abbrev made : SourceState D
  made = noted g s after (with_made (resource_number answer) s.journal)

  pub makes_resource : MakesResource g d s question place entry answer made
  makes_resource = record { asks = answered; beside = stays.beside_is; state = noted_is g s after (with_made (resource_number answer) s.journal) }

  pub made_blocks : (n : ℕ) → source_blocks g made n ≡ source_blocks g s n
  made_blocks = stays.blocks

  pub made_holds : Holds g made
  made_holds =
      holds_new g s after (with_made (resource_number answer) s.journal) answered.constant stays.holds
      (resource_asked_for (g.held (device_of s.first)) (held_by g s) (g.held (to g s after)) s.journal (resource_number answer) entry resource answered.number answered.held h.3) h

-- a resource is released, and the blocks stay
module _ {D : Type 0} (g : Ghosts D) (s : SourceState D) (number : ℕ) (h : Holds g s) (after : D) (went : IsWithoutResource g (device_of s.device) number after) where
  released : IsWithoutResource g (device_of s.device) number (to g s after)
  released = subst (λ (x : D). IsWithoutResource g (device_of s.device) number x) (to_is g s after) went

  stays_without : Stays s.tier (g.held (device_of s.first)) (held_by g s) (g.held (to g s after)) (without_resource (source_beside g s) number)
  stays_without = resource_goes s.tier (g.held (device_of s.first)) (held_by g s) (g.held (to g s after)) number released.held h.2

  abbrev released_there : SourceState D
  released_there = noted g s after (Released (record { 0 = number }) ∷ s.journal)

  pub releases_resource : ReleasesResource g s number released_there
  releases_resource = record { releases = released; beside = stays_without.beside_is; state = noted_is g s after (Released (record { 0 = number }) ∷ s.journal) }

  pub released_blocks : (n : ℕ) → source_blocks g released_there n ≡ source_blocks g s n
  released_blocks = stays_without.blocks

  pub released_holds : Holds g released_there
  released_holds =
      holds_new g s after (Released (record { 0 = number }) ∷ s.journal) released.asks_nothing.constant stays_without.holds
      (resource_released (g.held (device_of s.first)) (held_by g s) (g.held (to g s after)) s.journal number released.held h.3) h
