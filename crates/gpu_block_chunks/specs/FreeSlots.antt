-- Slots, each a cell with its label, of which the free ones are a list: each names the next.
use Rattle.std.specs.Prelude.{◌≡◌, Bool, true, false, ℕ, zero, suc, ◌+◌, ◌^◌, ◌<◌, List, [], ◌∷◌, map, length, Option, Some, None, is_some, count_by, slice_get}
use Rattle.gpu_block_chunks.specs.declared.label.Label.{Label}
use Rattle.gpu_block_chunks.specs.Label.{no_label}
use Rattle.gpu_block_chunks.specs.declared.chain.link.LinkedChunk.{LinkedChunk}
use Rattle.gpu_block_chunks.specs.declared.chain.slots.Cell.{Cell}

-- a slot has a chunk, or it is free and has the next one that is free, and a label that lies there
pub data Slot : Type 0 where
  Taken : LinkedChunk → Slot
  Free : Option ℕ → Label → Slot

-- the chunk that a cell and a label are, and the slot that they are, taken or not
abbrev pub chunk_by : Cell → Label → LinkedChunk
chunk_by c label = record {
  prev = c.prev;
  chunk = record { start = c.start; size = c.size; offset = c.offset; kind = c.kind; chunk_id = c.chunk_id; label = label };
  next = c.next;
}

abbrev pub slot_by : Bool → Cell → Label → Slot
slot_by true c label = Taken (chunk_by c label)
slot_by false c label = Free c.next label

abbrev pub slot_of : Cell → Label → Slot
slot_of c label = slot_by c.taken c label

abbrev pub slots_of : List Cell → List Label → List Slot
slots_of [] labels = []
slots_of (c ∷ cells) [] = []
slots_of (c ∷ cells) (label ∷ labels) = slot_of c label ∷ slots_of cells labels

-- the chunk in a slot, if it is taken
abbrev pub chunk_in : Slot → Option LinkedChunk
chunk_in (Taken chunk) = Some chunk
chunk_in (Free next label) = None

-- from the first on, so many free slots each name the next, the last names none, and no label lies in them
abbrev pub IsFreeList : List Slot → ℕ → Option ℕ → Type 0
IsFreeList slots zero first = first ≡ None
IsFreeList slots (suc count) first =
    (slot : ℕ) × (next : Option ℕ) × (first ≡ Some slot) × (slice_get slots slot ≡ Some (Free next no_label)) × IsFreeList slots count next

-- so many slots are taken, and the list from the first free slot has all the others
pub record IsSound (slots : List Slot) (live : ℕ) (first : Option ℕ) : Type 0 where
  pub counted : count_by is_some (map chunk_in slots) ≡ live
  pub free : ℕ
  pub total : live + free ≡ length slots
  pub linked : IsFreeList slots free first

-- each cell has its label, and links can lead to each
pub record AreSlots (cells : List Cell) (labels : List Label) (live : ℕ) (first : Option ℕ) : Type 0 where
  pub sound : IsSound (slots_of cells labels) live first
  pub named : length labels ≡ length cells
  pub few : length cells < 2 ^ 32
