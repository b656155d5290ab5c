-- A refused release, and a refused new name that isn't for lack of host memory, say that the piece isn't live.
use Rattle.std.proofs.Common.{◌≡◌, ℕ, Bool, refl, sym, ◌∙◌, ap, inl, inr, arith, Option, Some, None, List}
use Rattle.std.specs.Prelude.{Contains, IfSome}
use Rattle.std.specs.Option.{option_to_list}
use Rattle.std.specs.Int.NonZero.{non_zero_u64_get}
use Rattle.std.specs.declared.num.NonZeroU64.{NonZeroU64}
use Rattle.gpu_block_pieces.specs.FreeList.{Extent}
use Rattle.gpu_values.specs.Refusal.{Refusal, host_out_of_memory}
use Rattle.gpu_block.specs.Dedicated.{Dedicated, IsWhole, IsNotHeld}
use Rattle.gpu_block.specs.Block.{Block, free_list, dedicated, HoldsPiece, IsSoundBlock, IsReleaseRefusalIn, IsRenameRefusalIn}
use Rattle.gpu_core.specs.TypeState.{Slot}
use Rattle.gpu_core.specs.TypeRelease.{SlotHolds, IsFreeRefusal, IsNameRefusal}
use Rattle.gpu_core.specs.Slots.{SlotIsSound}
use Rattle.gpu_core.specs.declared.piece.Piece.{Piece}
use Rattle.gpu_core.proofs.Found.{only_one}

first_chunk_id : (o : Option Extent) (size : ℕ) (x : Extent) → IfSome o (λ y. (y.start ≡ 0) × (y.offset ≡ 0) × (y.end ≡ size) × (y.chunk_id ≡ 1)) → Contains (option_to_list o) x → x.chunk_id ≡ 1
first_chunk_id None size x whole h = (let l = h.1 in absurd (omega arith))
first_chunk_id (Some z) size x whole h = ap (λ y. y.chunk_id) (only_one (Some z) x z h (0, omega arith, refl)) ∙ whole.3

none_held : (o : Option Extent) (x : Extent) → o ≡ None → Contains (option_to_list o) x → ⊥
none_held None x e h = (let l = h.1 in omega arith)
none_held (Some z) x e h = absurd (cc)

not_held : (b : Dedicated) (n : NonZeroU64) (freed : List ℕ) (refusal : Refusal) (x : Extent) → IsWhole b → IsNotHeld b (Some n) freed refusal → Contains (option_to_list b.piece) x → x.chunk_id ≡
    non_zero_u64_get n → ⊥
not_held b n freed refusal x whole h at e =
    elim h [
      | inl other ↦ other.0 (sym e ∙ first_chunk_id b.piece b.size x whole at)
      | inr empty ↦ none_held b.piece x empty.1 at
    ]

release_refused : (b : Block) (n : NonZeroU64) (refusal : Refusal) (o size : ℕ) → IsSoundBlock b → IsReleaseRefusalIn b (Some n) refusal → HoldsPiece b (non_zero_u64_get n) o size → ⊥
release_refused (free_list b) n refusal o size sound h x = h.1 (x.0, x.1, x.2)
release_refused (dedicated b) n refusal o size sound h x = not_held b n _ refusal x.0 sound h x.1 x.2

rename_refused : (b : Block) (n : NonZeroU64) (refusal : Refusal) (o size : ℕ) → IsSoundBlock b → IsRenameRefusalIn b (Some n) refusal → (refusal ≡ host_out_of_memory → ⊥) → HoldsPiece b
    (non_zero_u64_get n) o size → ⊥
rename_refused (free_list b) n refusal o size sound h other x =
    elim h [
      | inl none ↦ none.0 (x.0, x.1, x.2)
      | inr host ↦ other host.1
    ]
rename_refused (dedicated b) n refusal o size sound h other x =
    elim h [
      | inl none ↦ not_held b n _ refusal x.0 sound none x.1 x.2
      | inr host ↦ other host.2
    ]

pub free_dead : {H : Type 0} (eq : H → H → Bool) (p : Piece H) (g : ℕ) (s : Option (Slot H)) (refusal : Refusal) → SlotIsSound g s → IsFreeRefusal eq p s refusal → SlotHolds eq p s → ⊥
free_dead eq p g None refusal sound h live = live
free_dead eq p g (Some s) refusal sound h live =
    elim h [
      | inl block ↦ release_refused s.block p.chunk_id refusal p.offset p.size sound.1 block live.1
      | inr other ↦ other.0 live
    ]

pub name_dead : {H : Type 0} (eq : H → H → Bool) (p : Piece H) (g : ℕ) (s : Option (Slot H)) (refusal : Refusal) → SlotIsSound g s → IsNameRefusal eq p s refusal → (refusal ≡ host_out_of_memory → ⊥)
    → SlotHolds eq p s → ⊥
name_dead eq p g None refusal sound h host live = live
name_dead eq p g (Some s) refusal sound h host live =
    elim h [
      | inl block ↦ rename_refused s.block p.chunk_id refusal p.offset p.size sound.1 block host live.1
      | inr other ↦ other.0 live
    ]
