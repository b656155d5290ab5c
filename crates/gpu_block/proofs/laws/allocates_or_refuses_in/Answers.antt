use Rattle.gpu_block.proofs.Blocks.{take_or_none_in}
use Rattle.gpu_block.proofs.laws.allocates_or_refuses_in.Goals as goal

pub returns : goal.returns
returns c = take_or_none_in
