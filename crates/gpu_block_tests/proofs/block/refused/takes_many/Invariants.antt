use Rattle.gpu_block.specs.Block.{HasPages}
use Rattle.gpu_block.specs.SubAllocator.{block_of}
use Rattle.gpu_block_tests.proofs.block.refused.takes_many.Given as goal

abbrev pub invariant-loop-place : goal.invariant-loop-place
invariant-loop-place l = HasPages (block_of l.b) 1
