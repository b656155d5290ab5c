use Rattle.std.proofs.Common.{rules}
use Rattle.gpu_c.proofs.memory_type_calls.pilhangko_raw_memory_type_free.Goals as goal

pub returns-in-Some-clause-freed : goal.returns-in-Some-clause-freed
returns-in-Some-clause-freed c = search rules

pub returns-in-Some-clause-awaits_block : goal.returns-in-Some-clause-awaits_block
returns-in-Some-clause-awaits_block c = search rules

pub returns-in-Some-clause-not_live : goal.returns-in-Some-clause-not_live
returns-in-Some-clause-not_live c = search rules
