use Rattle.std.proofs.Common.{rules}
use Rattle.gpu_d3d12.proofs.memory_kind.type_for.Goals as goal

pub returns-in-Tier1-clause-first : goal.returns-in-Tier1-clause-first
returns-in-Tier1-clause-first c = search rules
