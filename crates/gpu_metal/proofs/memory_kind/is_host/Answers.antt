use Rattle.std.proofs.Common.{rules}
use Rattle.gpu_metal.proofs.memory_kind.is_host.Goals as goal

pub returns : goal.returns
returns c = search rules
