use Rattle.std.proofs.Common.{rules}
use Rattle.gpu_block_chunks.proofs.name.Name.empty.Goals as goal

pub returns : goal.returns
returns c = search rules
