use Rattle.std.proofs.Common.{rules}
use Rattle.gpu_block_session.proofs.words.has_leading_zero.Goals as goal

pub returns-then-digits-eq48 : goal.returns-then-digits-eq48
returns-then-digits-eq48 c = search rules
