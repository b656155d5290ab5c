-- How cells follow one another, and where they are drawn.
use Rattle.std.proofs.Common.{◌≡◌, ℕ, ◌+◌, ◌*◌, ◌/◌, ◌%◌, ◌<◌, ◌≤◌, List, [], ◌∷◌, ◌++◌, Bool, true, false, cond, refl, ap, sym, ◌∙◌, subst, arith, map, append-nil}
use Rattle.std.specs.Prelude.{filter, nat_lt, if◌then◌else◌, ◌==◌, min}
use Rattle.std.proofs.lemmas.Bool.Decides.{nat_tests}
use Rattle.std.proofs.lemmas.Nat.{div-add-mod', div_below, le-div, mul-le}
use Rattle.std.proofs.Math.Nat.{mul_comm}
use Rattle.gpu_values.specs.declared.allocation_type.AllocationType.{AllocationType}
use Rattle.gpu_values.specs.declared.allocation_type.AllocationType.TheVariants.{Free, Linear, NonLinear}
use Rattle.gpu_block_pieces.specs.FreeList.{Extent}
use Rattle.gpu_block_pieces.specs.Pieces.{LieBetween}
use Rattle.gpu_report.specs.Picture.{Cell, Tile, look_of, gap_cells, padding_cells, piece_cell, cells_between, is_piece, is_piece_cell, place}

by-test : {A : Type 0} (b : Bool) (x y : A) (P : A → Type 0) → (b ≡ true → P x) → (b ≡ false → P y) → P (if b then x else y)
by-test true x y P p q = p refl
by-test false x y P p q = q refl

lt-true : (a b : ℕ) → nat_lt a b ≡ true → a < b
lt-true a b e = grind (arith, nat_tests)

lt-false : (a b : ℕ) → nat_lt a b ≡ false → b ≤ a
lt-false a b e = grind (arith, nat_tests)

-- ---- one behind another

tile-gap : (from mid to : ℕ) (rest : List Cell) → from ≤ mid → Tile mid rest to → Tile from (gap_cells from mid ++ rest) to
tile-gap from mid to rest le h =
    by-test (nat_lt from mid) _ _ (λ (cells : List Cell). Tile from (cells ++ rest) to)
    (λ e. (refl, lt-true from mid e, h))
    (λ e. let same : mid ≡ from = (let ge = lt-false from mid e in omega arith) in subst (λ (n : ℕ). Tile n rest to) same h)

tile-padding : (x : Extent) (to : ℕ) (rest : List Cell) → x.start ≤ x.offset → Tile x.offset rest to → Tile x.start (padding_cells x ++ rest) to
tile-padding x to rest le h =
    by-test (nat_lt x.start x.offset) _ _ (λ (cells : List Cell). Tile x.start (cells ++ rest) to)
    (λ e. (refl, lt-true x.start x.offset e, h))
    (λ e. let same : x.offset ≡ x.start = (let ge = lt-false x.start x.offset e in omega arith) in subst (λ (n : ℕ). Tile n rest to) same h)

pub Tile-cells : (from to : ℕ) (xs : List Extent) → LieBetween from xs to → Tile from (cells_between from xs to) to
Tile-cells from to [] h = subst (λ (cells : List Cell). Tile from cells to) (append-nil (gap_cells from to)) (tile-gap from to to [] h refl)
Tile-cells from to (x ∷ xs) h =
    let own : Tile x.offset (piece_cell x ∷ cells_between x.end xs to) to = (refl, h.2, Tile-cells x.end to xs h.3) in
    tile-gap from x.start to (padding_cells x ++ piece_cell x ∷ cells_between x.end xs to) h.0
    (tile-padding x to (piece_cell x ∷ cells_between x.end xs to) h.1 own)

-- ---- once

skip-gap : (from to : ℕ) (rest : List Cell) → filter is_piece_cell (gap_cells from to ++ rest) ≡ filter is_piece_cell rest
skip-gap from to rest = by-test (nat_lt from to) _ _ (λ (cells : List Cell). filter is_piece_cell (cells ++ rest) ≡ filter is_piece_cell rest) (λ e. refl) (λ e. refl)

skip-padding : (x : Extent) (rest : List Cell) → filter is_piece_cell (padding_cells x ++ rest) ≡ filter is_piece_cell rest
skip-padding x rest = by-test (nat_lt x.start x.offset) _ _ (λ (cells : List Cell). filter is_piece_cell (cells ++ rest) ≡ filter is_piece_cell rest) (λ e. refl) (λ e. refl)

kept : (k : AllocationType) → is_piece (look_of k) ≡ true
kept Free = refl
kept Linear = refl
kept NonLinear = refl

pub pieces-once : (from to : ℕ) (xs : List Extent) → filter is_piece_cell (cells_between from xs to) ≡ map piece_cell xs
pieces-once from to [] = ap (filter is_piece_cell) (sym (append-nil (gap_cells from to))) ∙ skip-gap from to []
pieces-once from to (x ∷ xs) =
    let rest : List Cell = filter is_piece_cell (cells_between x.end xs to) in
    skip-gap from x.start (padding_cells x ++ piece_cell x ∷ cells_between x.end xs to)
    ∙ skip-padding x (piece_cell x ∷ cells_between x.end xs to)
    ∙ ap (λ (b : Bool). cond b (piece_cell x ∷ rest) rest) (kept x.kind)
    ∙ ap (λ (cells : List Cell). piece_cell x ∷ cells) (pieces-once x.end to xs)

-- ---- inside the bar

part-le : (size width a b : ℕ) → 0 < size → a ≤ b → a * width / size ≤ b * width / size
part-le size width a b some le =
    let whole = div-add-mod' (a * width) size in
    let more = mul-le a width b width le (omega arith) in
    le-div (a * width / size) (b * width) size some (omega arith)

part-within : (size width a : ℕ) → 0 < size → a ≤ size → a * width / size ≤ width
part-within size width a some le =
    let most = mul-le a width size width le (omega arith) in
    let more : width * size ≡ size * width = mul_comm width size in
    let wide : (width + 1) * size ≡ width * size + size = (omega arith) in
    let below : a * width / size < width + 1 = div_below (a * width) size (width + 1) some (omega arith) in
    omega arith

place-by : (size width a b : ℕ) (t : Bool) → (size == 0) ≡ t → a ≤ b → (cond t 0 (min a size * width / size) ≤ cond t 0 (min b size * width / size)) × (cond t 0 (min b size * width / size) ≤ width)
place-by size width a b true e le = (omega arith, omega arith)
place-by size width a b false e le =
    let some : 0 < size = grind (arith, nat_tests) in
    (part-le size width (min a size) (min b size) some (omega arith), part-within size width (min b size) some (omega arith))

pub place-in_order : (size width a b : ℕ) → a ≤ b → (place size width a ≤ place size width b) × (place size width b ≤ width)
unfolding place
place-in_order size width a b le = place-by size width a b (size == 0) refl le
