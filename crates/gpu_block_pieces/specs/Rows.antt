-- The rows that reports show of a block.
use Rattle.std.specs.Prelude.{◌-◌}
use Rattle.gpu_values.specs.Report.{Row}
use Rattle.gpu_block_pieces.specs.FreeList.{Extent}

-- the row of a live piece
abbrev pub extent_row : Extent → Row
extent_row x = record { name = x.name; offset = x.offset; size = x.end - x.offset }
