-- A new name leaves what the source holds.
use Rattle.std.proofs.Common.{◌≡◌, ◌∙◌, refl, sym, ap, subst, ℕ, ◌<◌, Bool, List, length, slice_set, Option, Some, None, Ok, Err, Result}
use Rattle.gpu_block_pieces.specs.Changes as changes
use Rattle.gpu_block_pieces.specs.Changes.{Said}
use Rattle.gpu_block.specs.Block.{Block, free_list, dedicated, size_of, RelabelsIn}
use Rattle.gpu_core.specs.TypeRelease.{SlotRelabels}
use Rattle.gpu_core.specs.TypeState.{Slot, slot_at}
use Rattle.gpu_core.specs.declared.piece.Piece.{Piece}
use Rattle.gpu_core.proofs.Slotted.{set_only}
use Rattle.gpu_values.specs.declared.error.AllocationError.{AllocationError}
use Rattle.gpu_core.specs.Blocks.{Slots, slots_at}
use Rattle.gpu_core.specs.Rename.{IsRelabelled}
use Rattle.gpu_core.proofs.Placed.{only_block, some_below}
use Rattle.gpu_pool.specs.Held.{HoldsJustBlocks}
use Rattle.gpu_pool.specs.Allocate.{NothingMet, NoHostMemory, Answered}
use Rattle.gpu_pool.specs.Rename.{RenamesBy, Renames}
use Rattle.gpu_pool.specs.Source.{HeldBlocks, result_of}
use Rattle.gpu_pool.specs.State.{State}
use Rattle.gpu_pool.proofs.Holding.{changed_holds}
use Rattle.gpu_pool.proofs.Freeing.{type_below}

renames_size : (old : Block) (n : ℕ) (said : Said) (new : Block) → RelabelsIn old n said new → size_of new ≡ size_of old
renames_size (free_list a) n said (free_list b) h = h.same.0
renames_size (free_list a) n said (dedicated b) h = absurd h
renames_size (dedicated a) n said (free_list b) h = absurd h
renames_size (dedicated a) n said (dedicated b) h = ap (λ x. x.size) h.2

module _ {H : Type 0} (number : H → ℕ) (eq : H → H → Bool) (held : HeldBlocks) (old : Slots H) (h : HoldsJustBlocks number held old) where
  named : (t n i : ℕ) (said : Said) (a b : Option (Slot H)) → t < length old → slot_at (slots_at old t) i ≡ a → SlotRelabels n said a b
      → HoldsJustBlocks number held (slice_set old t (slice_set (slots_at old t) i b))
  named t n i said None b below at renames = absurd renames
  named t n i said (Some a) None below at renames = absurd renames
  named t n i said (Some a) (Some b) below at renames =
      let slots = slots_at old t in
      changed_holds number held old (slice_set old t (slice_set slots i (Some b))) t i a b at
      (only_block old t i (Some b) (slice_set slots i (Some b)) below (set_only slots i (Some b) (some_below slots i a at)))
      renames.0 (renames_size a.block n said b.block renames.1) h

  record_holds : (t : ℕ) (p : Piece H) (said : Said) (new : Slots H) → IsRelabelled eq t p said old new → HoldsJustBlocks number held new
  record_holds t p said new r =
      subst (λ (ss : Slots H). HoldsJustBlocks number held ss) (sym (r.slots ∙ ap (slice_set old t) r.renames.slots))
      (named t _ p.slot said (slot_at (slots_at old t) p.slot) r.renames.slot (type_below eq old t p r.live) refl r.renames.renames)

renamed_by : {S H : Type 0} (number : H → ℕ) (eq : H → H → Bool) (held : HeldBlocks) (t : ℕ) (p : Piece H) (name : List ℕ) (old : State S H) (met : _) (result : Result (Unit {0}) AllocationError) (new : State S H)
    → RenamesBy eq t p name old met (result_of result) new → HoldsJustBlocks number held old.slots → HoldsJustBlocks number held new.slots
renamed_by number eq held t p name old NothingMet (Ok _) new r h = record_holds number eq held old.slots h t p (changes.named name) new.slots r.0
renamed_by {S} {H} number eq held t p name old NothingMet (Err e) new r h = subst (λ (s : State S H). HoldsJustBlocks number held s.slots) (sym r.1) h
renamed_by number eq held t p name old NoHostMemory (Ok _) new r h = absurd r
renamed_by {S} {H} number eq held t p name old NoHostMemory (Err e) new r h = subst (λ (s : State S H). HoldsJustBlocks number held s.slots) (sym r.2) h
renamed_by number eq held t p name old (Answered size answer) result new r h = absurd r

pub renamed_holds : {S H : Type 0} (number : H → ℕ) (eq : H → H → Bool) (held : HeldBlocks) (t : ℕ) (p : Piece H) (name : List ℕ) (old : State S H) (result : Result (Unit {0}) AllocationError) (new : State S H)
    → Renames eq t p name old (result_of result) new → HoldsJustBlocks number held old.slots → HoldsJustBlocks number held new.slots
renamed_holds number eq held t p name old result new r h = renamed_by number eq held t p name old r.0 result new r.1 h
