use Rattle.std.proofs.lemmas.Str.{IsUtf8-from_ascii}
use Rattle.gpu_block_session.proofs.line.ascii.Goals as goal

pub returns-in_default : goal.returns-in_default
returns-in_default c = λ h. c.in_default.ensures.cases.0 (IsUtf8-from_ascii _ h)
