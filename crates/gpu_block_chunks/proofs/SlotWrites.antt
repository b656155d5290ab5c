-- A write in one slot, of its cell, and of its label.
use Rattle.std.proofs.Common.{◌≡◌, ℕ, ◌+◌, ◌<◌, ◌≤◌, List, map, length, get_or, set, slice_get, count_by}
use Rattle.std.proofs.Common.{Bool, true, false, Option, Some, None, is_some, IsSome, IsSomeAnd, cond, refl, sym, ap, subst, ◌∙◌, arith}
use Rattle.std.specs.Option.{option_map}
use Rattle.std.proofs.lemmas.Bool.{false≢true}
use Rattle.std.proofs.lemmas.List.{map-set, length-map, length-set, get_or-map, get_or_past}
use Rattle.std.proofs.lemmas.List.Sums.{sum_by-set}
use Rattle.std.proofs.lemmas.Option.{slice_get_within, slice_get_read, slice_get-get_or, same_Some, get_or_from_slice_get}
use Rattle.gpu_block_chunks.specs.declared.label.Label.{Label}
use Rattle.gpu_block_chunks.specs.Label.{no_label}
use Rattle.gpu_values.specs.declared.allocation_type.AllocationType.TheVariants.{Linear}
use Rattle.gpu_block_chunks.specs.declared.chain.link.LinkedChunk.{LinkedChunk}
use Rattle.gpu_block_chunks.specs.declared.chain.slots.Cell.{Cell}
use Rattle.gpu_block_chunks.specs.FreeSlots.{Slot, Taken, chunk_by, slot_by, slot_of, slots_of, chunk_in, AreSlots}
use Rattle.gpu_block_chunks.specs.Slots.{Stored, changed_at}
use Rattle.gpu_block_chunks.proofs.SlotRows.{length-slots, slot_at, slots-set, slots-set_cell, slots-set_label}
use Rattle.gpu_block_chunks.proofs.FreeSlots.{taken_at, sound_rewritten}

pub some_of : (P : LinkedChunk → Type 0) → (o : Option LinkedChunk) → IsSomeAnd o P → IsSome o
some_of P None h = absurd h
some_of P (Some n) h = refl

-- the slot of a chunk is taken, and its cell and label are the chunk
taken_by : (t : Bool) (b : Cell) (label : Label) (m : LinkedChunk) → slot_by t b label ≡ Taken m → (t ≡ true) × (m ≡ chunk_by b label)
taken_by true b label m e = (refl, cc)
taken_by false b label m e = absurd cc

same_option : (change : LinkedChunk → LinkedChunk) (o : Option LinkedChunk) → is_some (option_map change o) ≡ is_some o
same_option change None = refl
same_option change (Some n) = refl

same_sum : (a b x y : ℕ) → x ≡ y → a + y ≡ b + x → a ≡ b
same_sum a b x y same sums = omega arith

-- a change of the chunk in a slot keeps the count of the chunks
same_count : (xs ys : List (Option LinkedChunk)) (at : ℕ) (change : LinkedChunk → LinkedChunk) → at < length xs → ys ≡ set xs at (option_map change (get_or xs at None))
    → count_by is_some ys ≡ count_by is_some xs
same_count xs ys at change inside is =
    let counted : count_by is_some (set xs at (option_map change (get_or xs at None))) + cond (is_some (get_or xs at None)) 1 0
    ≡ count_by is_some xs + cond (is_some (option_map change (get_or xs at None))) 1 0 =
    sum_by-set (λ (o : Option LinkedChunk). cond (is_some o) 1 0) xs at (option_map change (get_or xs at None)) None inside in
    let same : cond (is_some (option_map change (get_or xs at None))) 1 0 ≡ cond (is_some (get_or xs at None)) 1 0 = ap (λ (b : Bool). cond b 1 0) (same_option change (get_or xs at None)) in
    ap (count_by is_some) is ∙ same_sum (count_by is_some (set xs at (option_map change (get_or xs at None)))) (count_by is_some xs) _ _ same counted

module _ (cells : List Cell) (labels : List Label) (live : ℕ) (first : Option ℕ) (are : AreSlots cells labels live first) (at : ℕ)
    (there : IsSome (get_or (map chunk_in (slots_of cells labels)) at None)) where
  pub found : (m : LinkedChunk) × (slice_get (slots_of cells labels) at ≡ Some (Taken m))
  found = taken_at (slots_of cells labels) at there

  pub within : at < length cells
  within =
      let inside = slice_get_within (slots_of cells labels) at _ found.1 in
      let named = are.named in
      omega (arith, length-slots cells labels named)

  pub within_labels : at < length labels
  within_labels = let inside = within in let named = are.named in omega arith

  within_chunks : at < length (map chunk_in (slots_of cells labels))
  within_chunks =
      let inside = slice_get_within (slots_of cells labels) at _ found.1 in
      omega (arith, length-map (slots_of cells labels) chunk_in)

  seen : get_or (map chunk_in (slots_of cells labels)) at None ≡ Some found.0
  seen =
      get_or-map chunk_in (slots_of cells labels) at (Taken found.0) None (slice_get_within (slots_of cells labels) at _ found.1)
      ∙ ap chunk_in (get_or_from_slice_get (slots_of cells labels) at (Taken found.0) (Taken found.0) found.1)

  module _ (b : Cell) (read : b ≡ get_or cells at b) where
    label : Label
    label = get_or labels at no_label

    stands : slice_get (slots_of cells labels) at ≡ Some (slot_of b (get_or labels at no_label))
    stands = slot_at cells labels at b no_label are.named (slice_get_read cells (length cells) at b refl within read)

    kept : slot_of b (get_or labels at no_label) ≡ Taken found.0
    kept = same_Some _ _ (sym stands ∙ found.1)

    the_chunk : (b.taken ≡ true) × (found.0 ≡ chunk_by b (get_or labels at no_label))
    the_chunk = taken_by b.taken b (get_or labels at no_label) found.0 kept

    -- what is known of the chunk there is so of what is read
    pub read_and : (P : LinkedChunk → Type 0) → IsSomeAnd (get_or (map chunk_in (slots_of cells labels)) at None) P → P (chunk_by b (get_or labels at no_label))
    read_and P h = subst P the_chunk.1 (subst (λ (o : Option LinkedChunk). IsSomeAnd o P) seen h)

    module _ (c : Cell) (n : Label) (change : LinkedChunk → LinkedChunk) (same : c.taken ≡ b.taken) (makes : chunk_by c n ≡ change (chunk_by b (get_or labels at no_label))) where
      made : slot_of c n ≡ Taken (change found.0)
      made = ap (λ (t : Bool). slot_by t c n) (same ∙ the_chunk.0) ∙ ap Taken (makes ∙ ap change (sym the_chunk.1))

      row_sound : (new : List Slot) → new ≡ set (slots_of cells labels) at (slot_of c n) → (new_cells : List Cell) (new_labels : List Label) → new ≡ slots_of new_cells new_labels
          → length new_cells ≡ length cells → length new_labels ≡ length labels → AreSlots new_cells new_labels live first
      row_sound new is new_cells new_labels of long named =
          record {
            sound = rw (← of, is, made) (sound_rewritten (slots_of cells labels) live first at found.0 (change found.0) are.sound found.1);
            named = (let before = are.named in omega arith);
            few = (let before = are.few in omega arith);
          }

      row_is : (new : List Slot) → new ≡ set (slots_of cells labels) at (slot_of c n)
          → map chunk_in new ≡ set (map chunk_in (slots_of cells labels)) at (option_map change (get_or (map chunk_in (slots_of cells labels)) at None))
      row_is new is = rw (is, map-set, made, seen) refl

      -- with its label
      pub written_sound : AreSlots (set cells at c) (set labels at n) live first
      written_sound =
          row_sound (slots_of (set cells at c) (set labels at n)) (slots-set cells labels at c n are.named) (set cells at c) (set labels at n) refl (length-set cells at c) (length-set labels at n)

      pub written_is : map chunk_in (slots_of (set cells at c) (set labels at n))
          ≡ set (map chunk_in (slots_of cells labels)) at (option_map change (get_or (map chunk_in (slots_of cells labels)) at None))
      written_is = row_is (slots_of (set cells at c) (set labels at n)) (slots-set cells labels at c n are.named)

      pub written_count : count_by is_some (map chunk_in (slots_of (set cells at c) (set labels at n))) ≡ count_by is_some (map chunk_in (slots_of cells labels))
      written_count = same_count _ _ at change within_chunks written_is

    -- the cell alone
    module _ (c : Cell) (change : LinkedChunk → LinkedChunk) (same : c.taken ≡ b.taken) (makes : chunk_by c (get_or labels at no_label) ≡ change (chunk_by b (get_or labels at no_label))) where
      pub cell_sound : AreSlots (set cells at c) labels live first
      cell_sound =
          row_sound c (get_or labels at no_label) change same makes (slots_of (set cells at c) labels) (slots-set_cell cells labels at c no_label are.named) (set cells at c) labels refl (length-set cells at c) refl

      pub cell_is : map chunk_in (slots_of (set cells at c) labels)
          ≡ set (map chunk_in (slots_of cells labels)) at (option_map change (get_or (map chunk_in (slots_of cells labels)) at None))
      cell_is = row_is c (get_or labels at no_label) change same makes (slots_of (set cells at c) labels) (slots-set_cell cells labels at c no_label are.named)

      pub cell_count : count_by is_some (map chunk_in (slots_of (set cells at c) labels)) ≡ count_by is_some (map chunk_in (slots_of cells labels))
      cell_count = same_count _ _ at change within_chunks cell_is

    -- the label alone
    module _ (n : Label) (change : LinkedChunk → LinkedChunk) (makes : chunk_by b n ≡ change (chunk_by b (get_or labels at no_label))) where
      label_row : slots_of cells (set labels at n) ≡ set (slots_of cells labels) at (slot_of b n)
      label_row = slots-set_label cells labels at b n are.named (slice_get_read cells (length cells) at b refl within read)

      pub label_sound : AreSlots cells (set labels at n) live first
      label_sound = row_sound b n change refl makes (slots_of cells (set labels at n)) label_row cells (set labels at n) refl refl (length-set labels at n)

      pub label_is : map chunk_in (slots_of cells (set labels at n))
          ≡ set (map chunk_in (slots_of cells labels)) at (option_map change (get_or (map chunk_in (slots_of cells labels)) at None))
      label_is = row_is b n change refl makes (slots_of cells (set labels at n)) label_row

      pub label_count : count_by is_some (map chunk_in (slots_of cells (set labels at n))) ≡ count_by is_some (map chunk_in (slots_of cells labels))
      label_count = same_count _ _ at change within_chunks label_is

blank : Cell
blank = record { start = 0; size = 0; offset = 0; chunk_id = 0; prev = None; next = None; kind = Linear; taken = false }

-- the cell at a place of the row
pub cell_at : (cells : List Cell) (at : ℕ) → at < length cells → (b : Cell) × (b ≡ get_or cells at b)
cell_at cells at inside =
    let b = get_or cells at blank in
    (b, same_Some _ _ (sym (slice_get-get_or cells at blank inside) ∙ slice_get-get_or cells at b inside))

-- a label that was read at a place of the row
pub label_at : (labels : List Label) (at : ℕ) (l : Label) → at < length labels → l ≡ get_or labels at l → l ≡ get_or labels at no_label
label_at labels at l inside read = read ∙ same_Some _ _ (sym (slice_get-get_or labels at l inside) ∙ slice_get-get_or labels at no_label inside)

-- what is read of the slots with a change in one of them
pub stored_changed : (old new : List (Option LinkedChunk)) (room at : ℕ) (change : LinkedChunk → LinkedChunk) → new ≡ set old at (option_map change (get_or old at None))
    → ◌≡◌ {A = Stored} (record { slots = new; room = room }) (changed_at (record { slots = old; room = room }) at change)
stored_changed old new room at change is = ap (λ (xs : List (Option LinkedChunk)). record { slots = xs; room = room }) is

-- ---- what is read

pub seen_here : (cells : List Cell) (labels : List Label) (at : ℕ) (b : Cell) (n : Label) → length labels ≡ length cells → at < length cells → b ≡ get_or cells at b → n ≡ get_or labels at n
    → get_or (map chunk_in (slots_of cells labels)) at None ≡ chunk_in (slot_of b n)
seen_here cells labels at b n named inside read reads =
    let found = slot_at cells labels at b no_label named (slice_get_read cells (length cells) at b refl inside read) in
    let label = get_or_from_slice_get labels at n no_label (slice_get_read labels (length labels) at n refl (omega arith) reads) in
    get_or-map chunk_in (slots_of cells labels) at (slot_of b n) None (slice_get_within (slots_of cells labels) at _ found)
    ∙ ap chunk_in (get_or_from_slice_get (slots_of cells labels) at (slot_of b (get_or labels at no_label)) (slot_of b n) found ∙ ap (slot_of b) label)

-- where there is a chunk, it is what the cell and the label are
chunk_of_slot : (t : Bool) (b : Cell) (n : Label) → IsSome (chunk_in (slot_by t b n)) → chunk_in (slot_by t b n) ≡ Some (chunk_by b n)
chunk_of_slot true b n there = refl
chunk_of_slot false b n there = absurd (false≢true there)

pub chunk_here : (cells : List Cell) (labels : List Label) (at : ℕ) (b : Cell) (n : Label) → length labels ≡ length cells → at < length cells → b ≡ get_or cells at b → n ≡ get_or labels at n
    → IsSome (get_or (map chunk_in (slots_of cells labels)) at None) → get_or (map chunk_in (slots_of cells labels)) at None ≡ Some (chunk_by b n)
chunk_here cells labels at b n named inside read reads there =
    let seen = seen_here cells labels at b n named inside read reads in
    seen ∙ chunk_of_slot b.taken b n (subst IsSome seen there)

-- a taken slot has a chunk and a free one none, whatever its label
stands_here : (cells : List Cell) (labels : List Label) (at : ℕ) (b : Cell) (t : Bool) → length labels ≡ length cells → at < length cells → b ≡ get_or cells at b → b.taken ≡ t
    → get_or (map chunk_in (slots_of cells labels)) at None ≡ chunk_in (slot_by t b (get_or labels at no_label))
stands_here cells labels at b t named inside read is =
    let found = slot_at cells labels at b no_label named (slice_get_read cells (length cells) at b refl inside read) in
    get_or-map chunk_in (slots_of cells labels) at (slot_of b no_label) None (slice_get_within (slots_of cells labels) at _ found)
    ∙ ap chunk_in (get_or_from_slice_get (slots_of cells labels) at (slot_of b (get_or labels at no_label)) (slot_of b no_label) found)
    ∙ ap (λ (u : Bool). chunk_in (slot_by u b (get_or labels at no_label))) is

pub some_here : (cells : List Cell) (labels : List Label) (at : ℕ) (b : Cell) → length labels ≡ length cells → at < length cells → b ≡ get_or cells at b → b.taken ≡ true
    → IsSome (get_or (map chunk_in (slots_of cells labels)) at None)
some_here cells labels at b named inside read is = subst IsSome (sym (stands_here cells labels at b true named inside read is)) refl

pub none_here : (cells : List Cell) (labels : List Label) (at : ℕ) (b : Cell) → length labels ≡ length cells → at < length cells → b ≡ get_or cells at b → b.taken ≡ false
    → get_or (map chunk_in (slots_of cells labels)) at None ≡ None
none_here cells labels at b named inside read is = stands_here cells labels at b false named inside read is

pub none_past : (cells : List Cell) (labels : List Label) (at : ℕ) → length labels ≡ length cells → length cells ≤ at → get_or (map chunk_in (slots_of cells labels)) at None ≡ None
none_past cells labels at named past =
    get_or_past (map chunk_in (slots_of cells labels)) at None (omega (arith, length-map (slots_of cells labels) chunk_in, length-slots cells labels named))
