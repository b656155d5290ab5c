use Rattle.std.proofs.Common.{rules}
use Rattle.gpu_c.proofs.memory_type_calls.pilhangko_raw_memory_type_install.Goals as goal

pub returns-in-Some-clause-installed : goal.returns-in-Some-clause-installed
returns-in-Some-clause-installed c = search rules
