-- A table's rows in its pages of 256 rows.
use Rattle.std.proofs.Common.{◌≡◌, ℕ, ◌+◌, ◌-◌, ◌*◌, ◌/◌, ◌%◌, ◌<◌, ◌≤◌, min, List, [], ◌∷◌, ◌++◌, length, get_or, set, take, vec_len, vec_capacity}
use Rattle.std.proofs.Common.{Option, Some, None, IsSome, refl, sym, ◌∙◌, ap, arith}
use Rattle.std.proofs.lemmas.List.{length-set, length_push, take_at, get_or_push}
use Rattle.std.specs.Option.{option_to_list}
use Rattle.std.specs.declared.alloc.Global.{Global}
use Rattle.std.specs.declared.vec.Vec.{Vec}
use Rattle.gpu_rows.specs.Pages.{rows_of, seen_of, AreRows}
use Rattle.gpu_rows.specs.Rows.{Rows, row_count, with_row}
use Rattle.gpu_rows.proofs.Paging.{length-rows, page_there, page_at, row_at, set_page, rows_set, rows_push, rows_pop}

module _ {T : Type 0} where
  -- how many rows there are
  pub counted : (pages : List (Vec T Global)) (rows room : ℕ) → AreRows pages rows room → length (rows_of pages) ≡ rows
  counted pages rows room h = length-rows 256 (min 256 room) pages rows h.paged

  -- what callers see of them
  pub counts : (pages : List (Vec T Global)) (rows room : ℕ) (now : Rows T) → AreRows pages rows room → seen_of pages room ≡ now
      → (row_count now ≡ rows) × (now.capacity ≡ room)
  counts pages rows room now h seen = (sym (ap row_count seen) ∙ counted pages rows room h, sym (ap (λ (r : Rows T). r.capacity) seen))

  -- there is room for them
  pub fits : (pages : List (Vec T Global)) (rows room : ℕ) → AreRows pages rows room → rows ≤ 256 * length pages
  fits pages rows room h = omega (arith, h.fit, h.least)

  -- each place within the room has a page
  pub has_page : (pages : List (Vec T Global)) (i : ℕ) → i < 256 * length pages → i / 256 < length pages
  has_page pages i lt = page_there 256 pages i (i / 256) (i % 256) lt (omega arith)

  -- and each row a place in its page
  pub has_row : (pages : List (Vec T Global)) (rows room i : ℕ) (page : Vec T Global) → AreRows pages rows room → i < rows → page ≡ get_or pages (i / 256) page → i % 256 < vec_len page
  has_row pages rows room i page h lt at =
      let there : i / 256 < length pages = has_page pages i (omega (arith, fits pages rows room h)) in
      omega (arith, page_at 256 (min 256 room) pages rows (i / 256) page h.paged there at)

  -- which is the row
  pub is_row : (pages : List (Vec T Global)) (rows room i : ℕ) (page : Vec T Global) (x : T) → AreRows pages rows room → i < rows → page ≡ get_or pages (i / 256) page
      → x ≡ get_or page.items (i % 256) x → x ≡ get_or (rows_of pages) i x
  is_row pages rows room i page x h lt at found = row_at 256 (min 256 room) pages rows i (i / 256) (i % 256) page x h.paged lt (omega arith) (omega arith) at found

  -- a row is written in its page
  pub writes_page : (pages : List (Vec T Global)) (rows room i : ℕ) (old page : Vec T Global) → AreRows pages rows room → i < rows → old ≡ get_or pages (i / 256) old
      → vec_len page ≡ vec_len old → vec_capacity page ≡ vec_capacity old → AreRows (set pages (i / 256) page) rows room
  writes_page pages rows room i old page h lt at same wide =
      let there : i / 256 < length pages = has_page pages i (omega (arith, fits pages rows room h)) in
      let was = page_at 256 (min 256 room) pages rows (i / 256) old h.paged there at in record {
        paged = set_page 256 (min 256 room) pages rows rows (i / 256) page h.paged there (omega arith) (omega arith) refl (same ∙ was.0) (omega (arith, was.1));
        fit = h.fit;
        step = h.step;
        least = omega (arith, h.least, length-set pages (i / 256) page);
        most = omega (arith, h.most, length-set pages (i / 256) page);
        few = h.few;
      }

  pub writes_row : (pages : List (Vec T Global)) (rows room i : ℕ) (old page : Vec T Global) (x : T) → AreRows pages rows room → i < rows → old ≡ get_or pages (i / 256) old
      → page.items ≡ set old.items (i % 256) x → rows_of (set pages (i / 256) page) ≡ set (rows_of pages) i x
  writes_row pages rows room i old page x h lt at written = rows_set 256 (min 256 room) pages rows i (i / 256) (i % 256) old page x h.paged lt (omega arith) (omega arith) at written

  pub writes_seen : (pages : List (Vec T Global)) (rows room i : ℕ) (old page : Vec T Global) (x : T) → AreRows pages rows room → i < rows → old ≡ get_or pages (i / 256) old
      → page.items ≡ set old.items (i % 256) x
      → seen_of (set pages (i / 256) page) room ≡ with_row (seen_of pages room) i x
  writes_seen pages rows room i old page x h lt at written =
      let items : rows_of (set pages (i / 256) page) ≡ set (rows_of pages) i x = writes_row pages rows room i old page x h lt at written in
      ap (λ (xs : List T). let r : Rows T = record { items = xs; capacity = room } in r) items

  -- the page of the next row has room
  pub has_room : (pages : List (Vec T Global)) (rows room : ℕ) (page : Vec T Global) → AreRows pages rows room → rows < room → page ≡ get_or pages (rows / 256) page
      → vec_len page < vec_capacity page
  has_room pages rows room page h lt at = omega (arith, page_at 256 (min 256 room) pages rows (rows / 256) page h.paged (has_page pages rows (omega (arith, h.least))) at)

  -- a row more
  pub pushes_page : (pages : List (Vec T Global)) (rows room : ℕ) (old page : Vec T Global) → AreRows pages rows room → rows < room → old ≡ get_or pages (rows / 256) old
      → vec_len page ≡ vec_len old + 1 → vec_capacity page ≡ vec_capacity old → AreRows (set pages (rows / 256) page) (rows + 1) room
  pushes_page pages rows room old page h lt at more wide =
      let there : rows / 256 < length pages = has_page pages rows (omega (arith, h.least)) in
      let was = page_at 256 (min 256 room) pages rows (rows / 256) old h.paged there at in record {
        paged = set_page 256 (min 256 room) pages rows (rows + 1) (rows / 256) page h.paged there (omega arith) (omega arith) (omega arith) (omega (arith, was.0)) (omega (arith, was.1));
        fit = omega arith;
        step = h.step;
        least = omega (arith, h.least, length-set pages (rows / 256) page);
        most = omega (arith, h.most, length-set pages (rows / 256) page);
        few = h.few;
      }

  pub pushes_row : (pages : List (Vec T Global)) (rows room : ℕ) (old page : Vec T Global) (x : T) → AreRows pages rows room → rows < room → old ≡ get_or pages (rows / 256) old
      → page.items ≡ old.items ++ x ∷ [] → rows_of (set pages (rows / 256) page) ≡ rows_of pages ++ x ∷ []
  pushes_row pages rows room old page x h lt at written =
      rows_push 256 (min 256 room) pages rows (rows / 256) (rows % 256) old page x h.paged (omega arith) (omega arith) (has_page pages rows (omega (arith, h.least))) at written

  -- the last row's page has it last
  pub has_last : (pages : List (Vec T Global)) (rows room : ℕ) (page : Vec T Global) → AreRows pages rows room → 0 < rows → page ≡ get_or pages ((rows - 1) / 256) page → 0 < vec_len page
  has_last pages rows room page h some at = omega (arith, has_row pages rows room (rows - 1) page h (omega arith) at)

  -- a row less
  pub pops_page : (pages : List (Vec T Global)) (rows room : ℕ) (old page : Vec T Global) → AreRows pages rows room → 0 < rows → old ≡ get_or pages ((rows - 1) / 256) old
      → vec_len page + 1 ≡ vec_len old → vec_capacity page ≡ vec_capacity old → AreRows (set pages ((rows - 1) / 256) page) (rows - 1) room
  pops_page pages rows room old page h some at less wide =
      let there : (rows - 1) / 256 < length pages = has_page pages (rows - 1) (omega (arith, fits pages rows room h)) in
      let was = page_at 256 (min 256 room) pages rows ((rows - 1) / 256) old h.paged there at in record {
        paged = set_page 256 (min 256 room) pages rows (rows - 1) ((rows - 1) / 256) page h.paged there (omega arith) (omega arith) (omega arith) (omega (arith, was.0)) (omega (arith, was.1));
        fit = omega (arith, h.fit);
        step = h.step;
        least = omega (arith, h.least, length-set pages ((rows - 1) / 256) page);
        most = omega (arith, h.most, length-set pages ((rows - 1) / 256) page);
        few = h.few;
      }

  pub pops_row : (pages : List (Vec T Global)) (rows room : ℕ) (old page : Vec T Global) (x : Option T) → AreRows pages rows room → 0 < rows → old ≡ get_or pages ((rows - 1) / 256) old
      → IsSome x → old.items ≡ page.items ++ option_to_list x → rows_of pages ≡ rows_of (set pages ((rows - 1) / 256) page) ++ option_to_list x
  pops_row pages rows room old page None h some at there taken = absurd (cc there)
  pops_row pages rows room old page (Some x) h some at there taken =
      rows_pop 256 (min 256 room) pages rows ((rows - 1) / 256) ((rows - 1) % 256) old page x h.paged (omega arith) (omega arith)
      (has_page pages (rows - 1) (omega (arith, fits pages rows room h))) at taken

  -- what is left, and the row that was the last
  pub pops_rest : (pages : List (Vec T Global)) (rows room : ℕ) (old page : Vec T Global) (x : Option T) → AreRows pages rows room → 0 < rows → old ≡ get_or pages ((rows - 1) / 256) old
      → IsSome x → old.items ≡ page.items ++ option_to_list x → rows_of (set pages ((rows - 1) / 256) page) ≡ take (length (rows_of pages) - 1) (rows_of pages)
  pops_rest pages rows room old page None h some at there taken = absurd (cc there)
  pops_rest pages rows room old page (Some x) h some at there taken =
      let left = rows_of (set pages ((rows - 1) / 256) page) in
      let was : rows_of pages ≡ left ++ x ∷ [] = pops_row pages rows room old page (Some x) h some at there taken in
      rw (was, take_at left (x ∷ []) (length (left ++ x ∷ []) - 1) (omega (arith, length_push left x))) refl

  pub pops_last : (pages : List (Vec T Global)) (rows room : ℕ) (old page : Vec T Global) (x : Option T) (d : T) → AreRows pages rows room → 0 < rows → old ≡ get_or pages ((rows - 1) / 256) old
      → IsSome x → old.items ≡ page.items ++ option_to_list x → x ≡ Some (get_or (rows_of pages) (length (rows_of pages) - 1) d)
  pops_last pages rows room old page None d h some at there taken = absurd (cc there)
  pops_last pages rows room old page (Some x) d h some at there taken =
      let left = rows_of (set pages ((rows - 1) / 256) page) in
      let was : rows_of pages ≡ left ++ x ∷ [] = pops_row pages rows room old page (Some x) h some at there taken in
      rw (was, get_or_push left x d (length (left ++ x ∷ []) - 1) (omega (arith, length_push left x))) refl
