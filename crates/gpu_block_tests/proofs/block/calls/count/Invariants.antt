use Rattle.gpu_block.specs.Block.{HasPages}
use Rattle.gpu_block.specs.SubAllocator.{block_of}
use Rattle.gpu_block_tests.proofs.block.calls.count.Given as goal

abbrev pub invariant-loop-call : goal.invariant-loop-call
invariant-loop-call l = HasPages (block_of l.block) l.granularity
