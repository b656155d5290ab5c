use Rattle.gpu_block.proofs.Blocks.{release_once_in}
use Rattle.gpu_block.proofs.laws.one_release_in.Goals as goal

pub returns : goal.returns
returns c = release_once_in
