use Rattle.std.proofs.Common.{rules}
use Rattle.gpu_c.proofs.memory_type_calls.pilhangko_raw_memory_type_prepare.Goals as goal

pub returns-in-Some-clause-done : goal.returns-in-Some-clause-done
returns-in-Some-clause-done c = search rules

pub returns-in-Some-clause-awaits_block : goal.returns-in-Some-clause-awaits_block
returns-in-Some-clause-awaits_block c = search rules

pub returns-in-Some-clause-invalid : goal.returns-in-Some-clause-invalid
returns-in-Some-clause-invalid c = search rules

pub returns-in-Some-clause-host_out_of_memory : goal.returns-in-Some-clause-host_out_of_memory
returns-in-Some-clause-host_out_of_memory c = search rules

pub returns-in-Some-clause-out_of_memory : goal.returns-in-Some-clause-out_of_memory
returns-in-Some-clause-out_of_memory c = search rules

pub returns-in-Some-clause-budget_exceeded : goal.returns-in-Some-clause-budget_exceeded
returns-in-Some-clause-budget_exceeded c = search rules

pub returns-in-Some-clause-refused : goal.returns-in-Some-clause-refused
returns-in-Some-clause-refused c = search rules
