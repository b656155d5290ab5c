-- Answers of Metal's machine as answers of an allocator behind a handle.
use Rattle.std.proofs.Common.{◌≡◌, ℕ, true, false, Bool, List, Option, Some, None, Ok, Err, refl, sym, ap, ◌∙◌, subst, arith}
use Rattle.std.specs.Prelude.{◌↔◌, IsSome, IsTrue}
use Rattle.std.specs.Option.{option_map}
use Rattle.gpu_values.specs.declared.error.AllocationError.{AllocationError}
use Rattle.gpu_block.specs.Block.{HoldsPiece}
use Rattle.gpu_core.specs.TypeRelease.{SlotHolds}
use Rattle.gpu_core.specs.TypeState.{Slot, slot_at}
use Rattle.gpu_core.specs.declared.piece.Piece.{Piece}
use Rattle.gpu_core.specs.Blocks.{Slots, slots_at}
use Rattle.gpu_device.specs.declared.metal.types.MTLHeap.{MTLHeap}
use Rattle.gpu_metal.specs.Allocate.{request_in}
use Rattle.gpu_metal.specs.Blocks.{is_same_heap}
use Rattle.gpu_metal.specs.HeapAnswer.{heap_refusal}
use Rattle.gpu_metal.specs.declared.describe.AllocationCreateDesc.{AllocationCreateDesc}
use Rattle.gpu_pool.specs.Begin as pools
use Rattle.gpu_pool.specs.Idle.{FreesIn, RenamesIn, RenamesIdle, SetsWordIn, SetsWordIdle}
use Rattle.gpu_pool.specs.Live as machine_live
use Rattle.gpu_pool.specs.RequestState.{RequestState}
use Rattle.gpu_pool.specs.declared.requests.Awaited.{Awaited}
use Rattle.gpu_machine.specs.MetalBegin as machine
use Rattle.gpu_machine.specs.MetalBegin.{Begins, BeginsIn, BeginsBy, Grants, refusal_told}
use Rattle.gpu_machine.specs.MetalCalls.{MachineFrees}
use Rattle.gpu_machine.specs.MetalState.{State}
use Rattle.gpu_machine.specs.declared.metal.answer.Granted.{Granted}
use Rattle.gpu_machine.specs.declared.metal.answer.HeapBack.{HeapBack}
use Rattle.gpu_c.specs.MetalHeaps.{piece_told, IsLive}
use Rattle.gpu_c.specs.declared.heaps_values.HeapsPiece.{HeapsPiece}
use Rattle.gpu_c.specs.declared.memory_type_values.MemoryPiece.{MemoryPiece}

-- no question is open where the test says so
pub is_shut : {A : Type 0} (o : Option A) (b : Bool) → b ≡ false → (IsTrue b ↔ IsSome o) → o ≡ None
is_shut None b is says = refl
is_shut (Some a) b is says = absurd (grind (arith, subst IsTrue is (says.1 refl)))

-- ---- pieces: liveness is of what C is told of a piece

abbrev Holds : MemoryPiece → Option (Slot MTLHeap) → Type 0
Holds m None = ⊥
Holds m (Some s) = (is_same_heap s.handle (record { 0 = m.block }) ≡ true) × HoldsPiece s.block m.number m.offset m.size

told_holds : (p : Piece MTLHeap) (s : Option (Slot MTLHeap)) → SlotHolds is_same_heap p s → Holds (piece_told p) s
told_holds p None h = absurd h
told_holds p (Some s) h = h

holds_told : (p : Piece MTLHeap) (s : Option (Slot MTLHeap)) → Holds (piece_told p) s → SlotHolds is_same_heap p s
holds_told p None h = absurd h
holds_told p (Some s) h = h

abbrev Lives : Slots MTLHeap → (t : ℕ) → Piece MTLHeap → Type 0
Lives slots t p = machine_live.IsLive is_same_heap slots t p

same_live : (slots : Slots MTLHeap) (t : ℕ) (named : MemoryPiece) (p q : Piece MTLHeap) → piece_told p ≡ named → piece_told q ≡ named → Lives slots t p → Lives slots t q
same_live slots t named p q a b live =
    holds_told q (slot_at (slots_at slots t) q.slot)
    (subst (λ (m : MemoryPiece). Holds m (slot_at (slots_at slots t) m.slot)) (a ∙ sym b) (told_holds p (slot_at (slots_at slots t) p.slot) live))

-- what C names is live just where the piece is
pub is_dead : (s : State) (p : HeapsPiece) (q : Piece MTLHeap) → piece_told q ≡ p.piece → (Lives s.requests.slots p.memory_type q → ⊥) → IsLive s p → ⊥
is_dead s p q e dead live = dead (same_live s.requests.slots p.memory_type p.piece live.piece q live.named e live.live)

pub lives : (s : State) (p : HeapsPiece) (q : Piece MTLHeap) → piece_told q ≡ p.piece → IsLive s p → Lives s.requests.slots p.memory_type q
lives s p q e live = same_live s.requests.slots p.memory_type p.piece live.piece q live.named e live.live

pub is_live : (s : State) (p : HeapsPiece) (q : Piece MTLHeap) → piece_told q ≡ p.piece → Lives s.requests.slots p.memory_type q → IsLive s p
is_live s p q e live = record { piece = q; named = e; live = live }

-- no piece has the number 0
pub has_number : (s : State) (p : HeapsPiece) → p.piece.number ≡ 0 → IsLive s p → ⊥
has_number s p zero live =
    let e = ap (λ (m : MemoryPiece). m.number) live.named in let ok = live.piece.chunk_id.ok in omega (arith, e, zero, ok)

-- ---- what a refusal leaves

-- the state with the old requests and the old set is the old one
pub same_state : (old new : State) → new.has_set ≡ old.has_set → new.requests ≡ old.requests → new ≡ old
same_state old new set same = ap (λ (r : RequestState MTLHeap). record new { requests = r }) same ∙ ap (λ (b : Bool). record old { has_set = b }) set

module _ (old new : State) (d : AllocationCreateDesc) (e : AllocationError) where
  begun_same : old.requests.awaited ≡ None → machine.IsBegun d old (Err e) new → new ≡ old
  begun_same closed h =
      let begun : pools.BeginsIn (request_in h.memory_type d) None old.requests (Err e) new.requests =
      subst (λ (o : Option Awaited). pools.BeginsIn (request_in h.memory_type d) o old.requests (Err e) new.requests) closed h.begins in
      same_state old new h.set begun.1

  by_same : (valid : Bool) → old.requests.awaited ≡ None → BeginsBy d valid old (Err e) new → new ≡ old
  by_same true closed h = begun_same closed h
  by_same false closed h = h.1

  in_same : (o : Option Awaited) → old.requests.awaited ≡ o → BeginsIn o old d (Err e) new → new ≡ old
  in_same None is h = by_same _ is h
  in_same (Some a) is h = h.1

  -- a refused request changes nothing
  pub begins_same : Begins old d (Err e) new → new ≡ old
  begins_same h = in_same old.requests.awaited refl h

module _ (old new : State) (heap : MTLHeap) where
  refused_in : (o : Option Awaited) (e : AllocationError) → pools.GrantsIn o old.requests heap (Err e) new.requests → (o ≡ None) × (new.requests ≡ old.requests)
  refused_in None e h = (refl, h.1)
  refused_in (Some a) e h = absurd h

  pub not_granted : (e : AllocationError) → Grants old heap (Err e) new → (old.requests.awaited ≡ None) × (new ≡ old)
  not_granted e h = let n = refused_in old.requests.awaited e h.grants in (n.0, same_state old new h.set n.1)

  granted_in : (o : Option Awaited) (p : Piece MTLHeap) → pools.GrantsIn o old.requests heap (Ok p) new.requests → IsSome o
  granted_in None p h = absurd (grind (arith, h.0))
  granted_in (Some w) p h = refl

  pub was_awaited : (g : Granted) → Grants old heap (Ok g) new → IsSome old.requests.awaited
  was_awaited g h = granted_in old.requests.awaited g.allocated.piece h.grants

-- why a request is refused whose question was open
pub declined_for : (o : Option Awaited) → IsSome o → refusal_told o ≡ heap_refusal
declined_for None is = absurd (grind (arith, is))
declined_for (Some a) is = refl

module _ (old new : State) (t : ℕ) (p : Piece MTLHeap) where
  freed_in : (o : Option Awaited) (back : Option MTLHeap) → o ≡ None → FreesIn is_same_heap o old.requests t p (Ok back) new.requests → Lives old.requests.slots t p
  freed_in None back closed h = h.0
  freed_in (Some a) back closed h = absurd (grind (arith, closed))

  pub freed_lived : (back : Option HeapBack) → old.requests.awaited ≡ None → MachineFrees old t p (Ok back) new → Lives old.requests.slots t p
  freed_lived back closed h = freed_in old.requests.awaited (option_map (λ (b : HeapBack). b.heap) back) closed h.frees

  worded_in : (o : Option Awaited) (word : ℕ) → o ≡ None → SetsWordIn is_same_heap o old.requests t p word (Ok tt) new.requests → Lives old.requests.slots t p
  worded_in None word closed h = h.0.live
  worded_in (Some a) word closed h = absurd (grind (arith, closed))

  pub worded_lived : (word : ℕ) → old.requests.awaited ≡ None → SetsWordIdle is_same_heap old.requests t p word (Ok tt) new.requests → Lives old.requests.slots t p
  worded_lived word closed h = worded_in old.requests.awaited word closed h

  not_freed_in : (o : Option Awaited) (e : AllocationError) → o ≡ None → FreesIn is_same_heap o old.requests t p (Err e) new.requests → (Lives old.requests.slots t p → ⊥) × (new.requests ≡ old.requests)
  not_freed_in None e closed h = (h.0, h.2)
  not_freed_in (Some a) e closed h = absurd (grind (arith, closed))

  pub not_freed : (e : AllocationError) → old.requests.awaited ≡ None → MachineFrees old t p (Err e) new → (Lives old.requests.slots t p → ⊥) × (new ≡ old)
  not_freed e closed h = let n = not_freed_in old.requests.awaited e closed h.frees in (n.0, same_state old new h.set n.1)

  not_renamed_in : (o : Option Awaited) (name : List ℕ) (e : AllocationError) → RenamesIn is_same_heap o old.requests t p name (Err e) new.requests → new.requests ≡ old.requests
  not_renamed_in None name e h = h.1
  not_renamed_in (Some a) name e h = h.1

  pub not_renamed : (name : List ℕ) (e : AllocationError) → RenamesIdle is_same_heap old.requests t p name (Err e) new.requests → new.has_set ≡ old.has_set → new ≡ old
  not_renamed name e h set = same_state old new set (not_renamed_in old.requests.awaited name e h)
