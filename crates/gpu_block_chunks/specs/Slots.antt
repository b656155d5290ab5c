-- Chunks in slots, seen from outside.
use Rattle.std.specs.Prelude.{◌≡◌, ◌≢◌, ℕ, ◌+◌, ◌<◌, ◌⊎◌, List, length, Option, None, is_some, count_by, slice_index_or, slice_set}
use Rattle.std.specs.Option.{option_map}
use Rattle.gpu_values.specs.declared.allocation_type.AllocationType.{AllocationType}
use Rattle.gpu_block_chunks.specs.declared.label.Label.{Label}
use Rattle.gpu_block_chunks.specs.Label.{with_word}
use Rattle.gpu_block_chunks.specs.declared.chain.link.LinkedChunk.{LinkedChunk}
use Rattle.gpu_block_chunks.specs.declared.chain.link.LinkedView.{LinkedView}
use Rattle.gpu_block_chunks.specs.Chain.{longer}
use Rattle.gpu_block_chunks.specs.ChunkList.{chunk_of, cut_chunk, filled_chunk, labelled_chunk}

-- the chunk or nothing in each slot, and how many more chunks fit without taking memory
pub record Stored : Type 0 where
  pub slots : List (Option LinkedChunk)
  pub room : ℕ

-- what stands in a slot, if there is one
abbrev pub chunk_at : Stored → ℕ → Option LinkedChunk
chunk_at s slot = slice_index_or s.slots slot None

-- how many slots are taken
abbrev pub taken : Stored → ℕ
taken s = count_by is_some s.slots

-- the same slots, but for a change of the chunk in one of them
abbrev pub changed_at : Stored → ℕ → (LinkedChunk → LinkedChunk) → Stored
changed_at s slot change = record s { slots = slice_set s.slots slot (option_map change (chunk_at s slot)) }

-- one slot has this afterwards, and each other what it had
pub record ChangesSlot (old new : Stored) (slot : ℕ) (chunk : Option LinkedChunk) : Type 0 where
  pub changed : chunk_at new slot ≡ chunk
  pub others : (other : ℕ) → other ≢ slot → chunk_at new other ≡ chunk_at old other

-- the slot was there, or it is a new one, since all were taken
abbrev pub IsFirst : Stored → Stored → ℕ → Type 0
IsFirst old new slot =
    ((slot < length old.slots) × (length new.slots ≡ length old.slots))
    ⊎ ((slot ≡ length old.slots) × (taken old ≡ length old.slots) × (length new.slots ≡ length old.slots + 1))

-- ---- the chunk that a view shows, and a chunk with other links, without its front, longer, in another use, or with another word

abbrev pub linked_of : LinkedView → LinkedChunk
linked_of v = record { prev = v.prev; chunk = chunk_of v.chunk; next = v.next }

abbrev pub linked_next : Option ℕ → LinkedChunk → LinkedChunk
linked_next next n = record n { next = next }

abbrev pub linked_prev : Option ℕ → LinkedChunk → LinkedChunk
linked_prev prev n = record n { prev = prev }

abbrev pub cut_linked : ℕ → Option ℕ → LinkedChunk → LinkedChunk
cut_linked taken prev n = record n { prev = prev; chunk = cut_chunk n.chunk taken }

abbrev pub joined_linked : ℕ → Option ℕ → LinkedChunk → LinkedChunk
joined_linked more next n = record n { next = next; chunk = longer n.chunk more }

abbrev pub used_linked : ℕ → AllocationType → Label → LinkedChunk → LinkedChunk
used_linked offset kind label n = record n { chunk = filled_chunk n.chunk offset kind label }

abbrev pub worded_linked : ℕ → LinkedChunk → LinkedChunk
worded_linked word n = record n { chunk = labelled_chunk (with_word word) n.chunk }
