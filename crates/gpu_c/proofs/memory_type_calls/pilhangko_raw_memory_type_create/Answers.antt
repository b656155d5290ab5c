use Rattle.std.proofs.Common.{rules}
use Rattle.gpu_c.proofs.memory_type_calls.pilhangko_raw_memory_type_create.Goals as goal

pub returns-then-not-is_power_of_two-clause-in_use : goal.returns-then-not-is_power_of_two-clause-in_use
returns-then-not-is_power_of_two-clause-in_use c = search rules

pub returns-then-not-is_power_of_two-clause-invalid : goal.returns-then-not-is_power_of_two-clause-invalid
returns-then-not-is_power_of_two-clause-invalid c = search rules

pub returns-then-not-is_power_of_two-clause-refused : goal.returns-then-not-is_power_of_two-clause-refused
returns-then-not-is_power_of_two-clause-refused c = search rules

pub returns-in-Err-clause-in_use : goal.returns-in-Err-clause-in_use
returns-in-Err-clause-in_use c = search rules

pub returns-in-Err-clause-host_out_of_memory : goal.returns-in-Err-clause-host_out_of_memory
returns-in-Err-clause-host_out_of_memory c = search rules

pub returns-in-Err-clause-refused : goal.returns-in-Err-clause-refused
returns-in-Err-clause-refused c = search rules

pub returns-clause-created : goal.returns-clause-created
returns-clause-created c = search rules

pub returns-clause-in_use : goal.returns-clause-in_use
returns-clause-in_use c = search rules
