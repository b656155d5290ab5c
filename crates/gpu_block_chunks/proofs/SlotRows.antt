-- Cells and their labels as slots.
use Rattle.std.proofs.Common.{◌≡◌, ℕ, zero, suc, ◌+◌, ◌≤◌, List, [], ◌∷◌, ◌++◌, length, map, get_or, set, slice_get}
use Rattle.std.proofs.Common.{Some, None, is_some, refl, ap, arith}
use Rattle.std.specs.Prelude.{count_by}
use Rattle.std.proofs.lemmas.List.{length-map}
use Rattle.gpu_block_chunks.specs.declared.label.Label.{Label}
use Rattle.gpu_block_chunks.specs.declared.chain.slots.Cell.{Cell}
use Rattle.gpu_block_chunks.specs.FreeSlots.{Slot, slot_of, slots_of, chunk_in}

pub length-slots : (cells : List Cell) (labels : List Label) → length labels ≡ length cells → length (slots_of cells labels) ≡ length cells
length-slots [] labels e = refl
length-slots (c ∷ cells) [] e = absurd (omega arith)
length-slots (c ∷ cells) (n ∷ labels) e = ap suc (length-slots cells labels (omega arith))

-- the room for more is in the free slots at least
pub free_room : (cells : List Cell) (labels : List Label) (live room : ℕ) → length labels ≡ length cells → count_by is_some (map chunk_in (slots_of cells labels)) ≡ live
    → length (map chunk_in (slots_of cells labels)) ≤ count_by is_some (map chunk_in (slots_of cells labels)) + room → length cells ≤ live + room
free_room cells labels live room named counted free = omega (arith, length-slots cells labels named, length-map (slots_of cells labels) chunk_in)

-- what a slot is
pub slot_at : (cells : List Cell) (labels : List Label) (at : ℕ) (c : Cell) (d : Label) → length labels ≡ length cells → slice_get cells at ≡ Some c
    → slice_get (slots_of cells labels) at ≡ Some (slot_of c (get_or labels at d))
slot_at [] labels at c d e found = absurd (let no : None ≡ Some c = found in cc)
slot_at (b ∷ cells) [] at c d e found = absurd (omega arith)
slot_at (b ∷ cells) (n ∷ labels) zero c d e found = let is : Some b ≡ Some c = found in let same : b ≡ c = cc in ap (λ (x : Cell). Some (slot_of x n)) same
slot_at (b ∷ cells) (n ∷ labels) (suc at) c d e found = slot_at cells labels at c d (omega arith) found

-- a cell and its label are written
pub slots-set : (cells : List Cell) (labels : List Label) (at : ℕ) (c : Cell) (n : Label) → length labels ≡ length cells
    → slots_of (set cells at c) (set labels at n) ≡ set (slots_of cells labels) at (slot_of c n)
slots-set [] labels at c n e = refl
slots-set (b ∷ cells) [] at c n e = absurd (omega arith)
slots-set (b ∷ cells) (m ∷ labels) zero c n e = refl
slots-set (b ∷ cells) (m ∷ labels) (suc at) c n e = ap (λ (xs : List Slot). slot_of b m ∷ xs) (slots-set cells labels at c n (omega arith))

-- a label alone is written
pub slots-set_label : (cells : List Cell) (labels : List Label) (at : ℕ) (c : Cell) (n : Label) → length labels ≡ length cells → slice_get cells at ≡ Some c
    → slots_of cells (set labels at n) ≡ set (slots_of cells labels) at (slot_of c n)
slots-set_label [] labels at c n e found = absurd (let no : None ≡ Some c = found in cc)
slots-set_label (b ∷ cells) [] at c n e found = absurd (omega arith)
slots-set_label (b ∷ cells) (m ∷ labels) zero c n e found = let is : Some b ≡ Some c = found in let same : b ≡ c = cc in ap (λ (x : Cell). slot_of x n ∷ slots_of cells labels) same
slots-set_label (b ∷ cells) (m ∷ labels) (suc at) c n e found = ap (λ (xs : List Slot). slot_of b m ∷ xs) (slots-set_label cells labels at c n (omega arith) found)

-- a cell alone is written
pub slots-set_cell : (cells : List Cell) (labels : List Label) (at : ℕ) (c : Cell) (d : Label) → length labels ≡ length cells
    → slots_of (set cells at c) labels ≡ set (slots_of cells labels) at (slot_of c (get_or labels at d))
slots-set_cell [] labels at c d e = refl
slots-set_cell (b ∷ cells) [] at c d e = absurd (omega arith)
slots-set_cell (b ∷ cells) (m ∷ labels) zero c d e = refl
slots-set_cell (b ∷ cells) (m ∷ labels) (suc at) c d e = ap (λ (xs : List Slot). slot_of b m ∷ xs) (slots-set_cell cells labels at c d (omega arith))

-- one more
pub slots-push : (cells : List Cell) (labels : List Label) (c : Cell) (n : Label) → length labels ≡ length cells
    → slots_of (cells ++ c ∷ []) (labels ++ n ∷ []) ≡ slots_of cells labels ++ slot_of c n ∷ []
slots-push [] [] c n e = refl
slots-push [] (m ∷ labels) c n e = absurd (omega arith)
slots-push (b ∷ cells) [] c n e = absurd (omega arith)
slots-push (b ∷ cells) (m ∷ labels) c n e = ap (λ (xs : List Slot). slot_of b m ∷ xs) (slots-push cells labels c n (omega arith))
