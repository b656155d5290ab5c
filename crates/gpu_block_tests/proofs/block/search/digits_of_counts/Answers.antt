use Rattle.gpu_block_tests.proofs.Counting.{digits_are}
use Rattle.gpu_block_tests.proofs.block.search.digits_of_counts.Goals as goal

pub returns : goal.returns
returns c = digits_are
