-- How rows lie in pages.
use Rattle.std.specs.Prelude.{◌≡◌, ℕ, ◌-◌, ◌*◌, ◌+◌, ◌^◌, ◌≤◌, min, List, [], ◌∷◌, ◌++◌, length, vec_len, vec_capacity}
use Rattle.std.specs.declared.alloc.Global.{Global}
use Rattle.std.specs.declared.vec.Vec.{Vec}
use Rattle.gpu_rows.specs.Rows.{Rows, room_for}

module _ {T : Type 0} where
  -- the rows of all pages
  abbrev pub rows_of : List (Vec T Global) → List T
  rows_of [] = []
  rows_of (page ∷ pages) = page.items ++ rows_of pages

  -- what callers see of these
  abbrev pub seen_of : List (Vec T Global) → ℕ → Rows T
  seen_of pages room = record { items = rows_of pages; capacity = room }

  -- pages of `size` rows have so many in all: a page has all the rows that are left, or is full, and memory for `held` at least
  abbrev pub ArePages : ℕ → ℕ → List (Vec T Global) → ℕ → Type 0
  ArePages size held [] rows = rows ≡ 0
  ArePages size held (page ∷ pages) rows = (vec_len page ≡ min size rows) × (held ≤ vec_capacity page) × ArePages size held pages (rows - size)

  -- the pages have so many rows in all, and room for so many: only a page that is alone may have less than its whole
  pub record AreRows (pages : List (Vec T Global)) (rows room : ℕ) : Type 0 where
    pub paged : ArePages 256 (min 256 room) pages rows
    pub fit : rows ≤ room
    pub step : room_for room ≡ room
    pub least : room ≤ 256 * length pages
    pub most : 256 * length pages ≤ room + 255
    pub few : room ≤ 2 ^ 63
