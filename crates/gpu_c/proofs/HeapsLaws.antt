-- Answers of DirectX 12's machine as answers of an allocator behind a handle.
use Rattle.std.proofs.Common.{◌≡◌, ℕ, ℤ, true, false, Bool, List, Option, Some, None, Ok, Err, refl, sym, ap, ◌∙◌, subst, arith}
use Rattle.std.specs.Prelude.{◌↔◌, IsSome, IsTrue}
use Rattle.gpu_values.specs.declared.error.AllocationError.{AllocationError}
use Rattle.gpu_values.specs.declared.memory_location.MemoryLocation.{MemoryLocation}
use Rattle.gpu_block.specs.Block.{HoldsPiece}
use Rattle.gpu_core.specs.TypeRelease.{SlotHolds}
use Rattle.gpu_core.specs.TypeState.{Slot, slot_at}
use Rattle.gpu_core.specs.declared.piece.Piece.{Piece}
use Rattle.gpu_core.specs.Blocks.{Slots, slots_at}
use Rattle.gpu_device.specs.declared.d3d12.types.ID3D12Heap.{ID3D12Heap}
use Rattle.gpu_device.specs.declared.d3d12.types.ID3D12Resource.{ID3D12Resource}
use Rattle.gpu_d3d12.specs.Allocate.{request_in}
use Rattle.gpu_d3d12.specs.Blocks.{is_same_heap}
use Rattle.gpu_d3d12.specs.Committed.{records_at, fits}
use Rattle.gpu_d3d12.specs.CommittedRequests as records
use Rattle.gpu_d3d12.specs.CommittedRequests.{RecordState, record_of}
use Rattle.gpu_d3d12.specs.HeapAnswer.{answer_refusal}
use Rattle.gpu_d3d12.specs.declared.category.ResourceCategory.{ResourceCategory}
use Rattle.gpu_d3d12.specs.declared.committed_requests.AwaitedResource.{AwaitedResource}
use Rattle.gpu_d3d12.specs.declared.committed_requests.Committed.{Committed}
use Rattle.gpu_d3d12.specs.declared.describe.AllocationCreateDesc.{AllocationCreateDesc}
use Rattle.gpu_pool.specs.Begin as pools
use Rattle.gpu_pool.specs.Idle.{FreesIn, FreesIdle, RenamesIn, RenamesIdle, SetsWordIn, SetsWordIdle}
use Rattle.gpu_pool.specs.Live as machine_live
use Rattle.gpu_pool.specs.RequestState.{RequestState}
use Rattle.gpu_pool.specs.declared.requests.Awaited.{Awaited}
use Rattle.gpu_machine.specs.D3D12Begin as machine
use Rattle.gpu_machine.specs.D3D12Begin.{Begins, BeginsIn, BeginsBy, Grants, BeginsCommitted, refusal_told}
use Rattle.gpu_machine.specs.D3D12State.{State}
use Rattle.gpu_machine.specs.declared.d3d12.answer.Allocated.{Allocated}
use Rattle.gpu_c.specs.Heaps.{piece_told, IsLive, HasNoRecord, committed_named}
use Rattle.gpu_c.specs.declared.heaps_values.HeapsCommitted.{HeapsCommitted}
use Rattle.gpu_c.specs.declared.heaps_values.HeapsPiece.{HeapsPiece}
use Rattle.gpu_c.specs.declared.memory_type_values.MemoryPiece.{MemoryPiece}

-- no question is open where the test says so
pub is_shut : {A : Type 0} (o : Option A) (b : Bool) → b ≡ false → (IsTrue b ↔ IsSome o) → o ≡ None
is_shut None b is says = refl
is_shut (Some a) b is says = absurd (grind (arith, subst IsTrue is (says.1 refl)))

-- ---- pieces: liveness is of what C is told of a piece

abbrev Holds : MemoryPiece → Option (Slot ID3D12Heap) → Type 0
Holds m None = ⊥
Holds m (Some s) = (is_same_heap s.handle (record { 0 = m.block }) ≡ true) × HoldsPiece s.block m.number m.offset m.size

told_holds : (p : Piece ID3D12Heap) (s : Option (Slot ID3D12Heap)) → SlotHolds is_same_heap p s → Holds (piece_told p) s
told_holds p None h = absurd h
told_holds p (Some s) h = h

holds_told : (p : Piece ID3D12Heap) (s : Option (Slot ID3D12Heap)) → Holds (piece_told p) s → SlotHolds is_same_heap p s
holds_told p None h = absurd h
holds_told p (Some s) h = h

abbrev Lives : Slots ID3D12Heap → (t : ℕ) → Piece ID3D12Heap → Type 0
Lives slots t p = machine_live.IsLive is_same_heap slots t p

same_live : (slots : Slots ID3D12Heap) (t : ℕ) (named : MemoryPiece) (p q : Piece ID3D12Heap) → piece_told p ≡ named → piece_told q ≡ named → Lives slots t p → Lives slots t q
same_live slots t named p q a b live =
    holds_told q (slot_at (slots_at slots t) q.slot)
    (subst (λ (m : MemoryPiece). Holds m (slot_at (slots_at slots t) m.slot)) (a ∙ sym b) (told_holds p (slot_at (slots_at slots t) p.slot) live))

-- what C names is live just where the piece is
pub is_dead : (s : State) (p : HeapsPiece) (q : Piece ID3D12Heap) → piece_told q ≡ p.piece → (Lives s.requests.slots p.memory_type q → ⊥) → IsLive s p → ⊥
is_dead s p q e dead live = dead (same_live s.requests.slots p.memory_type p.piece live.piece q live.named e live.live)

pub lives : (s : State) (p : HeapsPiece) (q : Piece ID3D12Heap) → piece_told q ≡ p.piece → IsLive s p → Lives s.requests.slots p.memory_type q
lives s p q e live = same_live s.requests.slots p.memory_type p.piece live.piece q live.named e live.live

pub is_live : (s : State) (p : HeapsPiece) (q : Piece ID3D12Heap) → piece_told q ≡ p.piece → Lives s.requests.slots p.memory_type q → IsLive s p
is_live s p q e live = record { piece = q; named = e; live = live }

-- no piece has the number 0
pub has_number : (s : State) (p : HeapsPiece) → p.piece.number ≡ 0 → IsLive s p → ⊥
has_number s p zero live =
    let e = ap (λ (m : MemoryPiece). m.number) live.named in let ok = live.piece.chunk_id.ok in omega (arith, e, zero, ok)

-- ---- what a refusal leaves

module _ (old new : State) where
  -- the state with the old requests is the old one
  same_requests : new ≡ record old { requests = new.requests } → new.requests ≡ old.requests → new ≡ old
  same_requests others same = others ∙ ap (λ (r : RequestState ID3D12Heap). record old { requests = r }) same

  -- and so it is with the old records
  same_records : new ≡ record old { committed = new.committed } → new.committed ≡ old.committed → new ≡ old
  same_records others same = others ∙ ap (λ (r : RecordState). record old { committed = r }) same

module _ (old new : State) (d : AllocationCreateDesc) (e : AllocationError) where
  begun_same : old.requests.awaited ≡ None → machine.IsBegun d old (Err e) new → new ≡ old
  begun_same closed h =
      let begun : pools.BeginsIn (request_in h.memory_type d) None old.requests (Err e) new.requests =
      subst (λ (o : Option Awaited). pools.BeginsIn (request_in h.memory_type d) o old.requests (Err e) new.requests) closed h.begins in
      same_requests old new h.others begun.1

  by_same : (valid : Bool) → old.requests.awaited ≡ None → BeginsBy d valid old (Err e) new → new ≡ old
  by_same true closed h = begun_same closed h
  by_same false closed h = h.1

  in_same : (o : Option Awaited) → old.requests.awaited ≡ o → BeginsIn o old d (Err e) new → new ≡ old
  in_same None is h = by_same _ is h
  in_same (Some a) is h = h.1

  -- a refused request changes nothing
  pub begins_same : Begins old d (Err e) new → new ≡ old
  begins_same h = in_same old.requests.awaited refl h

module _ (old new : State) (heap : ID3D12Heap) where
  refused_in : (o : Option Awaited) (e : AllocationError) → pools.GrantsIn o old.requests heap (Err e) new.requests → (o ≡ None) × (new.requests ≡ old.requests)
  refused_in None e h = (refl, h.1)
  refused_in (Some a) e h = absurd h

  pub not_granted : (e : AllocationError) → Grants old heap (Err e) new → (old.requests.awaited ≡ None) × (new ≡ old)
  not_granted e h = let n = refused_in old.requests.awaited e h.grants in (n.0, same_requests old new h.others n.1)

  granted_in : (o : Option Awaited) (p : Piece ID3D12Heap) → pools.GrantsIn o old.requests heap (Ok p) new.requests → IsSome o
  granted_in None p h = absurd (grind (arith, h.0))
  granted_in (Some w) p h = refl

  pub was_awaited : (a : Allocated) → Grants old heap (Ok a) new → IsSome old.requests.awaited
  was_awaited a h = granted_in old.requests.awaited a.piece h.grants

-- why a request is refused whose question was open
pub declined_for : (o : Option Awaited) (code : Option ℤ) → IsSome o → refusal_told o code ≡ answer_refusal code
declined_for None code is = absurd (grind (arith, is))
declined_for (Some a) code is = refl

module _ (old new : State) (t : ℕ) (p : Piece ID3D12Heap) where
  freed_in : (o : Option Awaited) (back : Option ID3D12Heap) → o ≡ None → FreesIn is_same_heap o old.requests t p (Ok back) new.requests → Lives old.requests.slots t p
  freed_in None back closed h = h.0
  freed_in (Some a) back closed h = absurd (grind (arith, closed))

  pub freed_lived : (back : Option ID3D12Heap) → old.requests.awaited ≡ None → FreesIdle is_same_heap old.requests t p (Ok back) new.requests → Lives old.requests.slots t p
  freed_lived back closed h = freed_in old.requests.awaited back closed h

  worded_in : (o : Option Awaited) (word : ℕ) → o ≡ None → SetsWordIn is_same_heap o old.requests t p word (Ok tt) new.requests → Lives old.requests.slots t p
  worded_in None word closed h = h.0.live
  worded_in (Some a) word closed h = absurd (grind (arith, closed))

  pub worded_lived : (word : ℕ) → old.requests.awaited ≡ None → SetsWordIdle is_same_heap old.requests t p word (Ok tt) new.requests → Lives old.requests.slots t p
  worded_lived word closed h = worded_in old.requests.awaited word closed h

  not_freed_in : (o : Option Awaited) (e : AllocationError) → o ≡ None → FreesIn is_same_heap o old.requests t p (Err e) new.requests → (Lives old.requests.slots t p → ⊥) × (new.requests ≡ old.requests)
  not_freed_in None e closed h = (h.0, h.2)
  not_freed_in (Some a) e closed h = absurd (grind (arith, closed))

  pub not_freed : (e : AllocationError) → old.requests.awaited ≡ None → FreesIdle is_same_heap old.requests t p (Err e) new.requests → new ≡ record old { requests = new.requests }
      → (Lives old.requests.slots t p → ⊥) × (new ≡ old)
  not_freed e closed h others = let n = not_freed_in old.requests.awaited e closed h in (n.0, same_requests old new others n.1)

  not_renamed_in : (o : Option Awaited) (name : List ℕ) (e : AllocationError) → RenamesIn is_same_heap o old.requests t p name (Err e) new.requests → new.requests ≡ old.requests
  not_renamed_in None name e h = h.1
  not_renamed_in (Some a) name e h = h.1

  pub not_renamed : (name : List ℕ) (e : AllocationError) → RenamesIdle is_same_heap old.requests t p name (Err e) new.requests → new ≡ record old { requests = new.requests } → new ≡ old
  not_renamed name e h others = same_requests old new others (not_renamed_in old.requests.awaited name e h)

-- ---- committed resources

module _ (old new : State) (t size : ℕ) (e : AllocationError) where
  room_by : (b : Bool) → records.BeginsBy b old.committed t size (Err e) new.committed → new.committed ≡ old.committed
  room_by true h = h.1
  room_by false h = h.1

  room_in : (o : Option AwaitedResource) → records.BeginsIn o old.committed t size (Err e) new.committed → new.committed ≡ old.committed
  room_in None h = room_by (fits (records_at old.committed.records t) size) h
  room_in (Some a) h = h.1

-- a refused request for a committed resource changes nothing
pub committed_same : (old new : State) (place : MemoryLocation) (kind : ResourceCategory) (size : ℕ) (e : AllocationError) → BeginsCommitted old place kind size (Err e) new → new ≡ old
committed_same old new place kind size e h = same_records old new h.others (room_in old new h.memory_type size e old.committed.awaited h.begins)

module _ (old new : State) (resource : ID3D12Resource) where
  unmade_in : (o : Option AwaitedResource) (e : AllocationError) → records.MakesIn o old.committed resource (Err e) new.committed → (o ≡ None) × (new.committed ≡ old.committed)
  unmade_in None e h = (refl, h.1)
  unmade_in (Some a) e h = absurd h

  pub unmade : (e : AllocationError) → records.Makes old.committed resource (Err e) new.committed → new ≡ record old { committed = new.committed } → (old.committed.awaited ≡ None) × (new ≡ old)
  unmade e h others = let n = unmade_in old.committed.awaited e h in (n.0, same_records old new others n.1)

  made_in : (o : Option AwaitedResource) (c : Committed) → records.MakesIn o old.committed resource (Ok c) new.committed → IsSome o
  made_in None c h = absurd (grind (arith, h.0))
  made_in (Some a) c h = refl

  pub was_asked : (c : Committed) → records.Makes old.committed resource (Ok c) new.committed → IsSome old.committed.awaited
  was_asked c h = made_in old.committed.awaited c h

module _ (old new : State) where
  undeclined_in : (o : Option AwaitedResource) (e : AllocationError) → records.DeclinesIn o old.committed (Err e) new.committed → (o ≡ None) × (new.committed ≡ old.committed)
  undeclined_in None e h = (refl, h.1)
  undeclined_in (Some a) e h = absurd h

  pub undeclined : (e : AllocationError) → records.Declines old.committed (Err e) new.committed → new ≡ record old { committed = new.committed } → (old.committed.awaited ≡ None) × (new ≡ old)
  undeclined e h others = let n = undeclined_in old.committed.awaited e h in (n.0, same_records old new others n.1)

  declined_in : (o : Option AwaitedResource) → records.DeclinesIn o old.committed (Ok tt) new.committed → IsSome o
  declined_in None h = absurd (grind (arith, h.0))
  declined_in (Some a) h = refl

  pub declined_asked : records.Declines old.committed (Ok tt) new.committed → IsSome old.committed.awaited
  declined_asked h = declined_in old.committed.awaited h

module _ (old new : State) (c : HeapsCommitted) where
  unforgotten_in : (o : Option AwaitedResource) (e : AllocationError) → o ≡ None → records.ForgetsIn o old.committed (committed_named c) (Err e) new.committed → HasNoRecord old c × (new.committed ≡ old.committed)
  unforgotten_in None e closed h = (h.0, h.2)
  unforgotten_in (Some a) e closed h = absurd (grind (arith, closed))

  pub unforgotten : (e : AllocationError) → old.committed.awaited ≡ None → records.Forgets old.committed (committed_named c) (Err e) new.committed → new ≡ record old { committed = new.committed }
      → HasNoRecord old c × (new ≡ old)
  unforgotten e closed h others = let n = unforgotten_in old.committed.awaited e closed h in (n.0, same_records old new others n.1)

  forgotten_in : (o : Option AwaitedResource) → o ≡ None → records.ForgetsIn o old.committed (committed_named c) (Ok tt) new.committed → HasNoRecord old c → ⊥
  forgotten_in None closed h none = absurd (grind (arith, h.0.stands, none))
  forgotten_in (Some a) closed h none = absurd (grind (arith, closed))

  pub forgotten_stood : old.committed.awaited ≡ None → records.Forgets old.committed (committed_named c) (Ok tt) new.committed → HasNoRecord old c → ⊥
  forgotten_stood closed h none = forgotten_in old.committed.awaited closed h none
