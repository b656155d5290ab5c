-- The numbers of a report and of blocks are below 2^64, and a piece's places stand in order. It is so of all that exist.
use Rattle.std.specs.Prelude.{ℕ, ◌^◌, ◌<◌, ◌≤◌, All}
use Rattle.gpu_values.specs.declared.report.MemoryBlockReport.{MemoryBlockReport}
use Rattle.gpu_values.specs.Report.{Row, Report}
use Rattle.gpu_block_pieces.specs.FreeList.{Extent}
use Rattle.gpu_block.specs.Block.{extents_of, size_of}
use Rattle.gpu_block.specs.SubAllocator.{block_of}
use Rattle.gpu_block.specs.BlockViews.{gaps_in, statistics_of}
use Rattle.gpu_block_pieces.specs.declared.pieces.BlockStatistics.{BlockStatistics}
use Rattle.gpu_report.specs.declared.view.BlockView.{BlockView}

abbrev pub NumberFits : ℕ → Type 0
NumberFits n = n < 2 ^ 64

-- ---- a report

abbrev pub RowFits : Row → Type 0
RowFits r = NumberFits r.offset × NumberFits r.size

abbrev pub BlockRowFits : MemoryBlockReport → Type 0
BlockRowFits b = NumberFits b.allocations.start × NumberFits b.allocations.end × NumberFits b.size

pub record ReportFits (r : Report) : Type 0 where
  pub rows : All RowFits r.rows
  pub blocks : All BlockRowFits r.blocks
  pub allocated : NumberFits r.allocated
  pub capacity : NumberFits r.capacity

-- ---- blocks

abbrev pub PieceFits : Extent → Type 0
PieceFits x = NumberFits x.chunk_id × (x.start ≤ x.offset) × (x.offset ≤ x.end) × NumberFits x.end

abbrev pub GapFits : ℕ × ℕ → Type 0
GapFits g = NumberFits g.0 × NumberFits g.1

abbrev pub StatisticsFit : BlockStatistics → Type 0
StatisticsFit s = NumberFits s.pieces × NumberFits s.piece_bytes × NumberFits s.gaps × NumberFits s.longest_gap

pub record BlockFits (v : BlockView) : Type 0 where
  pub memory_type : NumberFits v.memory_type
  pub slot : NumberFits v.slot
  pub page_size : NumberFits v.page_size
  pub size : NumberFits (size_of (block_of v.block.now))
  pub gaps : All GapFits (gaps_in (block_of v.block.now))
  pub pieces : All PieceFits (extents_of (block_of v.block.now))
  pub statistics : StatisticsFit (statistics_of (block_of v.block.now))
