use Rattle.std.proofs.Common.{rules}
use Rattle.gpu_block_pieces.proofs.pieces.with_gap.Goals as goal

pub returns-clause-gaps : goal.returns-clause-gaps
returns-clause-gaps c = search rules
