use Rattle.std.proofs.Common.{rules}
use Rattle.gpu_block_pieces.proofs.leaks.write_start.Goals as goal

pub returns : goal.returns
returns g c = search rules
