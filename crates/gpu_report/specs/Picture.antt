-- What a picture shows of a block: cells from its first byte to its last, each at its place in the block's bar.
use Rattle.std.specs.Prelude.{ℕ, ◌≡◌, ◌*◌, ◌/◌, ◌<◌, ◌==◌, List, [], ◌∷◌, ◌++◌, min, nat_lt, if◌then◌else◌, Bool, true, false}
use Rattle.gpu_values.specs.declared.allocation_type.AllocationType.{AllocationType}
use Rattle.gpu_values.specs.declared.allocation_type.AllocationType.TheVariants as kinds
use Rattle.gpu_block_pieces.specs.FreeList.{Extent}
use Rattle.gpu_report.specs.declared.svg.Look.{Look}
use Rattle.gpu_report.specs.declared.svg.Shown.{Shown}
use Rattle.gpu_report.specs.declared.svg.Look.TheVariants as looks

-- the bytes [start, end) of a block, what they are, and the name of the piece that they belong to
pub record Cell : Type 0 where
  pub look : Look
  pub start : ℕ
  pub end : ℕ
  pub name : List ℕ

abbrev pub look_of : AllocationType → Look
look_of kinds.Free = looks.Piece
look_of kinds.Linear = looks.Linear
look_of kinds.NonLinear = looks.NonLinear

-- what a rectangle shows
abbrev pub cell_of : Shown → Cell
cell_of s = record { look = s.look; start = s.start; end = s.end; name = s.name.now }

-- the gap from one place to another, where it isn't empty
abbrev pub gap_cells : ℕ → ℕ → List Cell
gap_cells start end = if nat_lt start end then record { look = looks.Gap; start = start; end = end; name = [] } ∷ [] else []

-- a piece's padding, where it has any
abbrev pub padding_cells : Extent → List Cell
padding_cells x = if nat_lt x.start x.offset then record { look = looks.Padding; start = x.start; end = x.offset; name = x.name } ∷ [] else []

-- a piece's own bytes
abbrev pub piece_cell : Extent → Cell
piece_cell x = record { look = look_of x.kind; start = x.offset; end = x.end; name = x.name }

-- what lies in [from, to), in order: gaps, and each piece with its padding before it
abbrev pub cells_between : ℕ → List Extent → ℕ → List Cell
cells_between from [] to = gap_cells from to
cells_between from (x ∷ xs) to = gap_cells from x.start ++ (padding_cells x ++ piece_cell x ∷ cells_between x.end xs to)

-- where a byte of a block of that size lies in a bar of that width; past the block's end it is the bar's end
unfoldable pub place : (size width : ℕ) → ℕ → ℕ
place size width at = if size == 0 then 0 else min at size * width / size

-- the cells lie in [from, to) one behind another, without a byte between two of them, and none is empty
abbrev pub Tile : ℕ → List Cell → ℕ → Type 0
Tile from [] to = from ≡ to
Tile from (c ∷ cells) to = (c.start ≡ from) × (c.start < c.end) × Tile c.end cells to

-- a piece's own bytes, and no gap or padding
abbrev pub is_piece : Look → Bool
is_piece looks.Gap = false
is_piece looks.Padding = false
is_piece looks.Linear = true
is_piece looks.NonLinear = true
is_piece looks.Piece = true
is_piece looks.Rest = false

abbrev pub is_piece_cell : Cell → Bool
is_piece_cell c = is_piece c.look
