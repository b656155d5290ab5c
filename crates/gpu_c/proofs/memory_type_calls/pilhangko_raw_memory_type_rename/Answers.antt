use Rattle.std.proofs.Common.{rules}
use Rattle.gpu_c.proofs.memory_type_calls.pilhangko_raw_memory_type_rename.Goals as goal

pub returns-in-Some-clause-renamed : goal.returns-in-Some-clause-renamed
returns-in-Some-clause-renamed c = search rules

pub returns-in-Some-clause-awaits_block : goal.returns-in-Some-clause-awaits_block
returns-in-Some-clause-awaits_block c = search rules

pub returns-in-Some-clause-invalid : goal.returns-in-Some-clause-invalid
returns-in-Some-clause-invalid c = search rules

pub returns-in-Some-clause-not_live : goal.returns-in-Some-clause-not_live
returns-in-Some-clause-not_live c = search rules
