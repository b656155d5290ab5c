-- What is printed of a block.
use Rattle.std.specs.Prelude.{ℕ, List, map}
use Rattle.gpu_block_pieces.specs.FreeList.{Extent}
use Rattle.gpu_block.specs.Block.{extents_of, size_of}
use Rattle.gpu_block.specs.SubAllocator.{block_of}
use Rattle.gpu_report.specs.declared.view.BlockView.{BlockView}

-- a piece without the word of its caller's, which isn't printed
abbrev pub without_word : Extent → Extent
without_word x = record x { word = 0 }

-- where the block stands, its page size, its size and its pieces, from which its gaps and what is counted of it follow
pub record PrintedBlock : Type 0 where
  pub memory_type : ℕ
  pub slot : ℕ
  pub page_size : ℕ
  pub size : ℕ
  pub pieces : List Extent

abbrev pub printed : BlockView → PrintedBlock
printed v = record {
  memory_type = v.memory_type;
  slot = v.slot;
  page_size = v.page_size;
  size = size_of (block_of v.block.now);
  pieces = map without_word (extents_of (block_of v.block.now));
}
