use Rattle.std.proofs.Common.{rules}
use Rattle.gpu_c.proofs.memory_type_calls.pilhangko_raw_memory_type_abandon.Goals as goal

pub returns-in-Some-clause-abandoned : goal.returns-in-Some-clause-abandoned
returns-in-Some-clause-abandoned c = search rules

pub returns-in-Some-clause-awaits_no_block : goal.returns-in-Some-clause-awaits_no_block
returns-in-Some-clause-awaits_no_block c = search rules
