-- A new name that is refused for lack of host memory was asked of a live piece.
use Rattle.std.proofs.Common.{◌≡◌, ℕ, Bool, refl, sym, subst, inl, inr, Some, None, List}
use Rattle.std.specs.Prelude.{Contains}
use Rattle.std.specs.Int.NonZero.{non_zero_u64_get}
use Rattle.std.specs.declared.num.NonZeroU64.{NonZeroU64}
use Rattle.gpu_values.specs.Refusal.{Refusal, internal, host_out_of_memory}
use Rattle.gpu_block_pieces.specs.FreeList.{Extent, FreeList}
use Rattle.gpu_block_pieces.specs.BlockRefusal.{rename_fault}
use Rattle.gpu_block.specs.Dedicated.{Dedicated, IsNotHeld}
use Rattle.gpu_block.specs.Block.{Block, free_list, dedicated, extents_of, IsSoundBlock, IsRenameRefusalIn}
use Rattle.gpu_core.specs.TypeState.{Slot}
use Rattle.gpu_core.specs.TypeRelease.{SlotHolds}
use Rattle.gpu_core.specs.Slots.{Finds}
use Rattle.gpu_core.specs.declared.slot.Finding.{Finding}
use Rattle.gpu_core.specs.declared.slot.Finding.TheVariants as findings
use Rattle.gpu_core.specs.declared.piece.Piece.{Piece}
use Rattle.gpu_core.proofs.Found.{dedicated_held}

fault_host : (b : FreeList) (n : ℕ) → rename_fault b n ≡ host_out_of_memory → ⊥
fault_host b n e = absurd (cc)

internal_host : (text : List ℕ) → internal text None ≡ host_out_of_memory → ⊥
internal_host text e = absurd (cc)

not_held_host : (b : Dedicated) (n : NonZeroU64) (freed : List ℕ) → IsNotHeld b (Some n) freed host_out_of_memory → ⊥
not_held_host b n freed h = elim h [ inl other ↦ internal_host _ (sym other.1) | inr empty ↦ internal_host _ (sym empty.2) ]

host_held : (b : Block) (n : NonZeroU64) → IsSoundBlock b → IsRenameRefusalIn b (Some n) host_out_of_memory → ((x : Extent) → Contains (extents_of b) x → x.chunk_id ≡ non_zero_u64_get n → ⊥) → ⊥
host_held (free_list b) n sound h none =
    elim h [ inl other ↦ fault_host b (non_zero_u64_get n) (sym other.1) | inr some ↦ none some.0.0 some.0.1 some.0.2 ]
host_held (dedicated b) n sound h none =
    elim h [
      | inl other ↦ not_held_host b n _ other
      | inr some ↦ dedicated_held b (non_zero_u64_get n) sound some.0 some.1 none
    ]

-- a new name for lack of host memory was refused to a live piece
pub starved_live : {H : Type 0} (eq : H → H → Bool) (p : Piece H) (s : Slot H) (f : Finding) (refusal : Refusal) → Finds eq p s f → (f ≡ findings.Other → ⊥) → IsSoundBlock s.block → IsRenameRefusalIn
    s.block (Some p.chunk_id) refusal → refusal ≡ host_out_of_memory → SlotHolds eq p (Some s)
starved_live eq p s findings.Piece refusal h other sound cause e = h
starved_live eq p s findings.Other refusal h other sound cause e = absurd (other refl)
starved_live eq p s findings.Nothing refusal h other sound cause e =
    absurd (host_held s.block p.chunk_id sound (subst (IsRenameRefusalIn s.block (Some p.chunk_id)) e cause) h)
