-- A slot is filled, or freed.
use Rattle.std.proofs.Common.{◌≡◌, ◌≢◌, Bool, true, false, ℕ, zero, suc, ◌+◌, ◌-◌, ◌^◌, ◌<◌, List, [], ◌∷◌, ◌++◌, map, length, get_or, set, slice_get, count_by}
use Rattle.std.proofs.Common.{Option, Some, None, is_some, IsSome, cond, refl, sym, ap, subst, ◌∙◌, inl, inr, arith}
use Rattle.std.proofs.lemmas.List.{map-set, map-append, length-map, length-set, length-append, get_or-map}
use Rattle.std.proofs.lemmas.List.Sums.{sum_by-append}
use Rattle.std.proofs.lemmas.Option.{slice_get_within, slice_get_read, same_Some, get_or_from_slice_get}
use Rattle.gpu_block_chunks.specs.declared.label.Label.{Label}
use Rattle.gpu_block_chunks.specs.Label.{no_label}
use Rattle.gpu_block_chunks.specs.declared.chain.link.LinkedChunk.{LinkedChunk}
use Rattle.gpu_block_chunks.specs.declared.chain.slots.Cell.{Cell}
use Rattle.gpu_block_chunks.specs.Slots.{Stored, ChangesSlot, IsFirst}
use Rattle.gpu_block_chunks.specs.FreeSlots.{Slot, Taken, Free, slot_by, slot_of, slots_of, chunk_in, IsSound, AreSlots}
use Rattle.gpu_block_chunks.proofs.SlotRows.{length-slots, slot_at, slots-set, slots-push}
use Rattle.gpu_block_chunks.proofs.SlotWrites.{found, within, none_past}
use Rattle.gpu_block_chunks.proofs.FreeSlots.{all_taken, first_free, count_after, sound_filled, sound_freed, changes_slot}

-- the slots and their room
abbrev pub stored : List Cell → List Label → ℕ → Stored
stored cells labels room = record { slots = map chunk_in (slots_of cells labels); room = room }

pub long : (cells : List Cell) (labels : List Label) (live : ℕ) (first : Option ℕ) → AreSlots cells labels live first → length (map chunk_in (slots_of cells labels)) ≡ length cells
long cells labels live first are = length-map (slots_of cells labels) chunk_in ∙ length-slots cells labels are.named

-- ---- a new slot
push_here : (xs : List (Option LinkedChunk)) (y : Option LinkedChunk) → get_or (xs ++ y ∷ []) (length xs) None ≡ y
push_here [] y = refl
push_here (x ∷ xs) y = push_here xs y

push_other : (xs : List (Option LinkedChunk)) (y : Option LinkedChunk) (at : ℕ) → at ≢ length xs → get_or (xs ++ y ∷ []) at None ≡ get_or xs at None
push_other [] y zero ne = absurd (ne refl)
push_other [] y (suc at) ne = refl
push_other (x ∷ xs) y zero ne = refl
push_other (x ∷ xs) y (suc at) ne = push_other xs y at (λ e. ne (ap suc e))

push_count : (xs : List (Option LinkedChunk)) (m : LinkedChunk) → count_by is_some (xs ++ Some m ∷ []) ≡ count_by is_some xs + 1
push_count xs m = sum_by-append (λ (o : Option LinkedChunk). cond (is_some o) 1 0) xs (Some m ∷ [])

pub whole : (cells : List Cell) (labels : List Label) (live : ℕ) (first : Option ℕ) → AreSlots cells labels live first → first ≡ None → live ≡ length cells
whole cells labels live first are none = all_taken (slots_of cells labels) live first are.sound none ∙ length-slots cells labels are.named

module _ (cells : List Cell) (labels : List Label) (live : ℕ) (first : Option ℕ) (are : AreSlots cells labels live first) (none : first ≡ None)
    (c : Cell) (n : Label) (chunk : LinkedChunk) (is : slot_of c n ≡ Taken chunk) where
  pushed : map chunk_in (slots_of (cells ++ c ∷ []) (labels ++ n ∷ [])) ≡ map chunk_in (slots_of cells labels) ++ Some chunk ∷ []
  pushed =
      ap (map chunk_in) (slots-push cells labels c n are.named) ∙ map-append chunk_in (slots_of cells labels) (slot_of c n ∷ [])
      ∙ ap (λ (x : Slot). map chunk_in (slots_of cells labels) ++ chunk_in x ∷ []) is

  pub pushed_count : count_by is_some (map chunk_in (slots_of (cells ++ c ∷ []) (labels ++ n ∷ []))) ≡ count_by is_some (map chunk_in (slots_of cells labels)) + 1
  pushed_count = ap (count_by is_some) pushed ∙ push_count (map chunk_in (slots_of cells labels)) chunk

  pub pushed_sound : live + 1 < 2 ^ 32 → AreSlots (cells ++ c ∷ []) (labels ++ n ∷ []) (live + 1) first
  pushed_sound few =
      let all = whole cells labels live first are none in
      let named = are.named in
      let more_cells : length (cells ++ c ∷ []) ≡ length cells + 1 = length-append cells (c ∷ []) in
      let more_labels : length (labels ++ n ∷ []) ≡ length labels + 1 = length-append labels (n ∷ []) in
      let same : length (labels ++ n ∷ []) ≡ length (cells ++ c ∷ []) = omega arith in
      let rows = length-slots (cells ++ c ∷ []) (labels ++ n ∷ []) same in
      record {
        sound = record { counted = pushed_count ∙ ap (λ (k : ℕ). k + 1) (are.sound).counted; free = 0; total = omega arith; linked = none };
        named = same;
        few = omega arith;
      }

  pub pushed_was_free : (room : ℕ) → get_or (stored cells labels room).slots (length cells) None ≡ None
  pushed_was_free room = none_past cells labels (length cells) are.named (omega arith)

  pub pushed_changes : (room now : ℕ) → ChangesSlot (stored cells labels room) (stored (cells ++ c ∷ []) (labels ++ n ∷ []) now) (length cells) (Some chunk)
  pushed_changes room now =
      let here = long cells labels live first are in
      record {
        changed = subst (λ (k : ℕ). get_or (map chunk_in (slots_of (cells ++ c ∷ []) (labels ++ n ∷ []))) k None ≡ Some chunk) here
            (ap (λ (xs : List (Option LinkedChunk)). get_or xs (length (map chunk_in (slots_of cells labels))) None) pushed ∙ push_here (map chunk_in (slots_of cells labels)) (Some chunk));
        others = λ other differs. ap (λ (xs : List (Option LinkedChunk)). get_or xs other None) pushed
            ∙ push_other (map chunk_in (slots_of cells labels)) (Some chunk) other (λ e. differs (e ∙ here));
      }

  pub pushed_first : (room now : ℕ) → IsFirst (stored cells labels room) (stored (cells ++ c ∷ []) (labels ++ n ∷ []) now) (length cells)
  pushed_first room now =
      let here = long cells labels live first are in
      inr (
        sym here,
        (are.sound).counted ∙ whole cells labels live first are none ∙ sym here,
        ap length pushed ∙ length-append (map chunk_in (slots_of cells labels)) (Some chunk ∷ []),
      )

-- ---- the first free slot is filled
module _ (cells : List Cell) (labels : List Label) (live : ℕ) (first : Option ℕ) (are : AreSlots cells labels live first) (at : ℕ) (is_first : first ≡ Some at) where
  free_there : (next : Option ℕ) × (slice_get (slots_of cells labels) at ≡ Some (Free next no_label))
  free_there = first_free (slots_of cells labels) live first at are.sound is_first

  inside : at < length (slots_of cells labels)
  inside = slice_get_within (slots_of cells labels) at _ free_there.1

  pub fill_within : at < length cells
  fill_within = let here = inside in let named = are.named in omega (arith, length-slots cells labels named)

  pub fill_within_labels : at < length labels
  fill_within_labels = let here = fill_within in let named = are.named in omega arith

  pub filled_was_free : (room : ℕ) → get_or (stored cells labels room).slots at None ≡ None
  filled_was_free room =
      get_or-map chunk_in (slots_of cells labels) at (Free None no_label) None inside ∙ ap chunk_in (get_or_from_slice_get (slots_of cells labels) at _ (Free None no_label) free_there.1)

  next_by : (t : Bool) (b : Cell) (label : Label) (next : Option ℕ) → slot_by t b label ≡ Free next no_label → next ≡ b.next
  next_by true b label next e = absurd cc
  next_by false b label next e = cc

  next_is : (b : Cell) → b ≡ get_or cells at b → free_there.0 ≡ b.next
  next_is b read =
      next_by b.taken b (get_or labels at no_label) free_there.0
      (same_Some _ _ (sym (slot_at cells labels at b no_label are.named (slice_get_read cells (length cells) at b refl fill_within read)) ∙ free_there.1))

  module _ (c : Cell) (n : Label) (chunk : LinkedChunk) (is : slot_of c n ≡ Taken chunk) where
    filled_row : slots_of (set cells at c) (set labels at n) ≡ set (slots_of cells labels) at (Taken chunk)
    filled_row = slots-set cells labels at c n are.named ∙ ap (set (slots_of cells labels) at) is

    filled : map chunk_in (slots_of (set cells at c) (set labels at n)) ≡ set (map chunk_in (slots_of cells labels)) at (Some chunk)
    filled = ap (map chunk_in) filled_row ∙ map-set chunk_in (slots_of cells labels) at (Taken chunk)

    pub filled_sound : (b : Cell) → b ≡ get_or cells at b → AreSlots (set cells at c) (set labels at n) (live + 1) b.next
    filled_sound b read =
        let sound = sound_filled (slots_of cells labels) live first free_there.0 at chunk are.sound is_first free_there.1 in
        let named = are.named in
        let few = are.few in
        record {
          sound = subst (λ (o : Option ℕ). IsSound (slots_of (set cells at c) (set labels at n)) (live + 1) o) (next_is b read)
              (subst (λ (row : List Slot). IsSound row (live + 1) free_there.0) (sym filled_row) sound);
          named = omega (arith, length-set cells at c, length-set labels at n);
          few = omega (arith, length-set cells at c);
        }

    pub filled_changes : (room now : ℕ) → ChangesSlot (stored cells labels room) (stored (set cells at c) (set labels at n) now) at (Some chunk)
    filled_changes room now =
        let here = fill_within in
        changes_slot (stored cells labels room) (stored (set cells at c) (set labels at n) now) at (Some chunk) (omega (arith, long cells labels live first are)) filled

    pub filled_count : count_by is_some (map chunk_in (slots_of (set cells at c) (set labels at n))) ≡ count_by is_some (map chunk_in (slots_of cells labels)) + 1
    filled_count =
        let counted : count_by is_some (map chunk_in (set (slots_of cells labels) at (Taken chunk))) + 0 ≡ count_by is_some (map chunk_in (slots_of cells labels)) + 1 =
        count_after (slots_of cells labels) at (Free free_there.0 no_label) (Taken chunk) free_there.1 in
        let plain : count_by is_some (map chunk_in (set (slots_of cells labels) at (Taken chunk))) ≡ count_by is_some (map chunk_in (slots_of cells labels)) + 1 = omega arith in
        ap (λ (row : List Slot). count_by is_some (map chunk_in row)) filled_row ∙ plain

    pub filled_first : (room now : ℕ) → IsFirst (stored cells labels room) (stored (set cells at c) (set labels at n) now) at
    filled_first room now =
        let here = fill_within in
        inl (omega (arith, long cells labels live first are), ap length filled ∙ length-set (map chunk_in (slots_of cells labels)) at (Some chunk))

-- ---- a slot is freed
positive : (a b live : ℕ) → a + 1 ≡ b + 0 → b ≡ live → 0 < live
positive a b live fewer counted = omega arith

pub some_live : (cells : List Cell) (labels : List Label) (live : ℕ) (first : Option ℕ) → AreSlots cells labels live first → (at : ℕ)
    → IsSome (get_or (map chunk_in (slots_of cells labels)) at None) → 0 < live
some_live cells labels live first are at there =
    let was = found cells labels live first are at there in
    positive (count_by is_some (map chunk_in (set (slots_of cells labels) at (Free None no_label)))) (count_by is_some (map chunk_in (slots_of cells labels))) live
    (count_after (slots_of cells labels) at (Taken was.0) (Free None no_label) was.1) (are.sound).counted

module _ (cells : List Cell) (labels : List Label) (live : ℕ) (first : Option ℕ) (are : AreSlots cells labels live first) (at : ℕ)
    (there : IsSome (get_or (map chunk_in (slots_of cells labels)) at None)) (c : Cell) (free : slot_of c no_label ≡ Free first no_label) where
  freed_row : slots_of (set cells at c) (set labels at no_label) ≡ set (slots_of cells labels) at (Free first no_label)
  freed_row = slots-set cells labels at c no_label are.named ∙ ap (set (slots_of cells labels) at) free

  freed_is : map chunk_in (slots_of (set cells at c) (set labels at no_label)) ≡ set (map chunk_in (slots_of cells labels)) at None
  freed_is = ap (map chunk_in) freed_row ∙ map-set chunk_in (slots_of cells labels) at (Free first no_label)

  was : (m : LinkedChunk) × (slice_get (slots_of cells labels) at ≡ Some (Taken m))
  was = found cells labels live first are at there

  pub freed_sound : AreSlots (set cells at c) (set labels at no_label) (live - 1) (Some at)
  freed_sound =
      let named = are.named in
      let few = are.few in
      record {
        sound = subst (λ (row : List Slot). IsSound row (live - 1) (Some at)) (sym freed_row) (sound_freed (slots_of cells labels) live first at was.0 are.sound was.1);
        named = omega (arith, length-set cells at c, length-set labels at no_label);
        few = omega (arith, length-set cells at c);
      }

  pub freed_changes : (room now : ℕ) → ChangesSlot (stored cells labels room) (stored (set cells at c) (set labels at no_label) now) at None
  freed_changes room now =
      let here = within cells labels live first are at there in
      changes_slot (stored cells labels room) (stored (set cells at c) (set labels at no_label) now) at None (omega (arith, long cells labels live first are)) freed_is

  pub freed_count : count_by is_some (map chunk_in (slots_of (set cells at c) (set labels at no_label))) + 1 ≡ count_by is_some (map chunk_in (slots_of cells labels))
  freed_count =
      let counted : count_by is_some (map chunk_in (set (slots_of cells labels) at (Free first no_label))) + 1 ≡ count_by is_some (map chunk_in (slots_of cells labels)) + 0 =
      count_after (slots_of cells labels) at (Taken was.0) (Free first no_label) was.1 in
      let plain : count_by is_some (map chunk_in (set (slots_of cells labels) at (Free first no_label))) + 1 ≡ count_by is_some (map chunk_in (slots_of cells labels)) = omega arith in
      ap (λ (row : List Slot). count_by is_some (map chunk_in row) + 1) freed_row ∙ plain

  pub freed_length : length (map chunk_in (slots_of (set cells at c) (set labels at no_label))) ≡ length (map chunk_in (slots_of cells labels))
  freed_length = ap length freed_is ∙ length-set (map chunk_in (slots_of cells labels)) at None
