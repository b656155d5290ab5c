use Rattle.std.proofs.Common.{rules}
use Rattle.gpu_c.proofs.memory_type_calls.pilhangko_raw_memory_type_set_budget.Goals as goal

pub returns-in-Some-clause-bounded : goal.returns-in-Some-clause-bounded
returns-in-Some-clause-bounded c = search rules
