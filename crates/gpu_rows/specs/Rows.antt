-- What callers see of rows.
use Rattle.std.specs.Prelude.{ℕ, ◌+◌, ◌*◌, ◌/◌, ◌==◌, nat_le, if◌then◌else◌, List, length, slice_set, refl}
use Rattle.std.specs.Coded.{Coded, code_by, coded×, coded_ℕ, coded_list}

-- the rows, in order, and how many there can be without taking memory
pub record Rows (T : Type 0) : Type 0 where
  pub items : List T
  pub capacity : ℕ

-- rows are stored as the pair of these
abbrev pub rows_code : {T : Type 0} → Coded T → Coded (Rows T)
rows_code {T} code = code_by (List T × ℕ) (coded× (coded_list code) coded_ℕ) (λ r. (r.items, r.capacity)) (λ p. record { items = p.0; capacity = p.1 }) (λ _. refl)

-- the room that is made for so many rows: none, 16, 64, and then whole pages of 256
unfoldable pub room_for : ℕ → ℕ
room_for rows =
    if rows == 0 then 0 else
    if nat_le rows 16 then 16 else
    if nat_le rows 64 then 64 else
    256 * ((rows + 255) / 256)

module _ {T : Type 0} where
  -- how many rows there are
  abbrev pub row_count : Rows T → ℕ
  row_count rows = length rows.items

  -- the rows with another one at an index
  abbrev pub with_row : Rows T → ℕ → T → Rows T
  with_row rows index row = record rows { items = slice_set rows.items index row }
