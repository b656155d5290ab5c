use Rattle.std.proofs.Common.{rules}
use Rattle.gpu_c.proofs.visit.view_of.Goals as goal

pub returns : goal.returns
returns c = search rules
