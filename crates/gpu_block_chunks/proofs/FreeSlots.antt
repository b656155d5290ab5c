-- How each change of a slot keeps the count of the taken slots and the list of the free ones.
use Rattle.std.proofs.Common.{◌≡◌, ◌≢◌, ℕ, zero, suc, ◌+◌, ◌-◌, ◌<◌, List, map, length, get_or, set, slice_get, count_by}
use Rattle.std.proofs.Common.{Option, Some, None, is_some, IsSome, cond, refl, sym, ap, subst, ◌∙◌, arith}
use Rattle.std.proofs.lemmas.Bool.{false≢true}
use Rattle.std.proofs.lemmas.List.{map-set, length-map, length-set, get_or-map, get_or-set_same, get_or-set_other, get_or_past}
use Rattle.std.proofs.lemmas.List.Sums.{sum_by-set}
use Rattle.std.proofs.lemmas.Option.{slice_get_within, slice_get-get_or, get_or_from_slice_get}
use Rattle.gpu_block_chunks.specs.Label.{no_label}
use Rattle.gpu_block_chunks.specs.declared.chain.link.LinkedChunk.{LinkedChunk}
use Rattle.gpu_block_chunks.specs.Slots.{Stored, ChangesSlot}
use Rattle.gpu_block_chunks.specs.FreeSlots.{Slot, Taken, Free, chunk_in, IsFreeList, IsSound}

-- a slot starts one list of free slots at most
one_length : (slots : List Slot) (m n : ℕ) (first : Option ℕ) → IsFreeList slots m first → IsFreeList slots n first → m ≡ n
one_length slots zero zero first p q = refl
one_length slots zero (suc n) first p q = absurd (let some : first ≡ Some q.0 = q.2 in let none : first ≡ None = p in cc)
one_length slots (suc m) zero first p q = absurd (let some : first ≡ Some p.0 = p.2 in let none : first ≡ None = q in cc)
one_length slots (suc m) (suc n) first p q =
    let a = p.2 in
    let b = q.2 in
    let c = p.3 in
    let d = q.3 in
    let slot : q.0 ≡ p.0 = cc in
    let next : q.1 ≡ p.1 = cc in
    ap suc (one_length slots m n p.1 p.4 (subst (IsFreeList slots n) next q.4))

-- a write in a slot that is not on the list keeps the list
list_kept : (slots : List Slot) (at : ℕ) (x : Slot) (n : ℕ) (first : Option ℕ) → ((m : ℕ) → m < n → IsFreeList slots (suc m) (Some at) → ⊥) → IsFreeList slots n first
    → IsFreeList (set slots at x) n first
list_kept slots at x zero first off p = p
list_kept slots at x (suc n) first off p =
    let other : p.0 ≢ at = λ same. off n (omega arith) (p.0, p.1, ap (λ (s : ℕ). Some s) (sym same), p.3, p.4) in
    let within = slice_get_within slots p.0 _ p.3 in
    let kept : slice_get (set slots at x) p.0 ≡ Some (Free p.1 no_label) =
    slice_get-get_or (set slots at x) p.0 x (omega (arith, length-set slots at x))
    ∙ ap (λ (y : Slot). Some y) (get_or-set_other slots at p.0 x x other ∙ get_or_from_slice_get slots p.0 _ x p.3) in
    (p.0, p.1, p.2, kept, list_kept slots at x n p.1 (λ m below. off m (omega arith)) p.4)

-- a taken slot is on no list of free slots
taken_off : (slots : List Slot) (at : ℕ) (chunk : LinkedChunk) → slice_get slots at ≡ Some (Taken chunk) → (m : ℕ) → IsFreeList slots (suc m) (Some at) → ⊥
taken_off slots at chunk found m p =
    let a = p.2 in
    let b = p.3 in
    cc

-- how many slots are taken after a write
pub count_after : (slots : List Slot) (at : ℕ) (old new : Slot) → slice_get slots at ≡ Some old
    → count_by is_some (map chunk_in (set slots at new)) + cond (is_some (chunk_in old)) 1 0 ≡ count_by is_some (map chunk_in slots) + cond (is_some (chunk_in new)) 1 0
count_after slots at old new found =
    let within = slice_get_within slots at old found in
    let read : get_or (map chunk_in slots) at None ≡ chunk_in old =
    get_or-map chunk_in slots at old None within ∙ ap chunk_in (get_or_from_slice_get slots at old old found) in
    let counted = sum_by-set (λ (o : Option LinkedChunk). cond (is_some o) 1 0) (map chunk_in slots) at (chunk_in new) None (omega (arith, length-map slots chunk_in)) in
    rw (map-set chunk_in slots at new, ← read) counted

-- a slot that a chunk is seen in is taken
pub taken_at : (slots : List Slot) (at : ℕ) → IsSome (get_or (map chunk_in slots) at None) → (chunk : LinkedChunk) × (slice_get slots at ≡ Some (Taken chunk))
taken_at slots at present =
    let inside : at < length (map chunk_in slots) = grind (arith, get_or_past) in
    let within : at < length slots = omega (arith, length-map slots chunk_in) in
    by_slot (get_or slots at (Free None no_label)) (slice_get-get_or slots at (Free None no_label) within) (subst IsSome (get_or-map chunk_in slots at (Free None no_label) None within) present)
  where
    by_slot : (x : Slot) → slice_get slots at ≡ Some x → IsSome (chunk_in x) → (chunk : LinkedChunk) × (slice_get slots at ≡ Some (Taken chunk))
    by_slot (Free next label) found some = absurd (false≢true some)
    by_slot (Taken chunk) found some = (chunk, found)

-- the first free slot is free
pub first_free : (slots : List Slot) (live : ℕ) (first : Option ℕ) (at : ℕ) → IsSound slots live first → first ≡ Some at → (next : Option ℕ) × (slice_get slots at ≡ Some (Free next no_label))
first_free slots live first at sound is = by_count sound.free sound.linked
  where
    by_count : (n : ℕ) → IsFreeList slots n first → (next : Option ℕ) × (slice_get slots at ≡ Some (Free next no_label))
    by_count zero none = absurd (let no : first ≡ None = none in cc)
    by_count (suc n) p =
        let a = p.2 in
        let b = p.3 in
        let slot : p.0 ≡ at = cc in
        (p.1, subst (λ (s : ℕ). slice_get slots s ≡ Some (Free p.1 no_label)) slot b)

-- with no free slot, all are taken
pub all_taken : (slots : List Slot) (live : ℕ) (first : Option ℕ) → IsSound slots live first → first ≡ None → live ≡ length slots
all_taken slots live first sound none = by_count sound.free sound.total sound.linked
  where
    by_count : (n : ℕ) → live + n ≡ length slots → IsFreeList slots n first → live ≡ length slots
    by_count zero total linked = omega arith
    by_count (suc n) total p = absurd (let some = p.2 in cc)

-- what is read in a slot is what stands there
pub read_at : (slots : List Slot) (at : ℕ) (x y : Slot) → slice_get slots at ≡ Some x → y ≡ get_or slots at y → y ≡ x
read_at slots at x y found read = read ∙ get_or_from_slice_get slots at x y found

-- the first free slot is taken: the rest of the list is shorter, so it does not come back to that slot
pub sound_filled : (slots : List Slot) (live : ℕ) (first next : Option ℕ) (at : ℕ) (chunk : LinkedChunk) → IsSound slots live first → first ≡ Some at
    → slice_get slots at ≡ Some (Free next no_label) → IsSound (set slots at (Taken chunk)) (live + 1) next
sound_filled slots live first next at chunk sound is found = by_count sound.free sound.total sound.linked
  where
    by_count : (n : ℕ) → live + n ≡ length slots → IsFreeList slots n first → IsSound (set slots at (Taken chunk)) (live + 1) next
    by_count zero total none = absurd (let no : first ≡ None = none in cc)
    by_count (suc n) total p =
        let a = p.2 in
        let b = p.3 in
        let slot : p.0 ≡ at = cc in
        let after : p.1 ≡ next = cc in
        let off : (m : ℕ) → m < n → IsFreeList slots (suc m) (Some at) → ⊥ =
        λ m below q. omega (arith, one_length slots (suc m) (suc n) first (subst (IsFreeList slots (suc m)) (sym is) q) p) in
        record {
          counted = omega (arith, sound.counted, count_after slots at (Free next no_label) (Taken chunk) found);
          free = n;
          total = omega (arith, length-set slots at (Taken chunk));
          linked = list_kept slots at (Taken chunk) n next off (subst (IsFreeList slots n) after p.4);
        }

-- a taken slot becomes the first free one
pub sound_freed : (slots : List Slot) (live : ℕ) (first : Option ℕ) (at : ℕ) (chunk : LinkedChunk) → IsSound slots live first → slice_get slots at ≡ Some (Taken chunk)
    → IsSound (set slots at (Free first no_label)) (live - 1) (Some at)
sound_freed slots live first at chunk sound found =
    let within = slice_get_within slots at _ found in
    let count = count_after slots at (Taken chunk) (Free first no_label) found in
    let was = sound.counted in
    let written : slice_get (set slots at (Free first no_label)) at ≡ Some (Free first no_label) =
    slice_get-get_or _ at (Free first no_label) (omega (arith, length-set slots at (Free first no_label)))
    ∙ ap (λ (y : Slot). Some y) (get_or-set_same slots at (Free first no_label) (Free first no_label) within) in
    record {
      counted = omega arith;
      free = suc sound.free;
      total = omega (arith, sound.total, length-set slots at (Free first no_label));
      linked = (at, first, refl, written, list_kept slots at (Free first no_label) sound.free first (λ m below. taken_off slots at chunk found m) sound.linked);
    }

-- a chunk in place of another
pub sound_rewritten : (slots : List Slot) (live : ℕ) (first : Option ℕ) (at : ℕ) (old new : LinkedChunk) → IsSound slots live first → slice_get slots at ≡ Some (Taken old)
    → IsSound (set slots at (Taken new)) live first
sound_rewritten slots live first at old new sound found =
    record {
      counted = omega (arith, sound.counted, count_after slots at (Taken old) (Taken new) found);
      free = sound.free;
      total = omega (arith, sound.total, length-set slots at (Taken new));
      linked = list_kept slots at (Taken new) sound.free first (λ m below. taken_off slots at old found m) sound.linked;
    }

-- a write in one slot changes what is seen there, and nothing else
pub changes_slot : (old new : Stored) (at : ℕ) (chunk : Option LinkedChunk) → at < length old.slots → new.slots ≡ set old.slots at chunk → ChangesSlot old new at chunk
changes_slot old new at chunk within written =
    record {
      changed = rw written (get_or-set_same old.slots at chunk None within);
      others = λ other differs. rw written (get_or-set_other old.slots at other chunk None differs);
    }
