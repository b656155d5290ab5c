use Rattle.gpu_block.proofs.Blocks.{take_once_in}
use Rattle.gpu_block.proofs.laws.one_allocate_in.Goals as goal

pub returns : goal.returns
returns c = take_once_in
