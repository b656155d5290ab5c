use Rattle.std.proofs.Common.{rules}
use Rattle.gpu_c.proofs.request.kind_of.Goals as goal

pub returns-then-kind-eq-LINEAR-clause-known : goal.returns-then-kind-eq-LINEAR-clause-known
returns-then-kind-eq-LINEAR-clause-known c = search rules
