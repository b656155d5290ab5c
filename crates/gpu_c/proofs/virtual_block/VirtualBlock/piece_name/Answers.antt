use Rattle.std.proofs.Common.{rules}
use Rattle.gpu_c.proofs.virtual_block.VirtualBlock.piece_name.Goals as goal

pub returns : goal.returns
returns c = search rules
