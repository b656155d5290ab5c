use Rattle.std.proofs.Common.{rules}
use Rattle.gpu_c.proofs.virtual_block_calls.pilhangko_raw_virtual_block_rename.Goals as goal

pub returns-in-Some-clause-renamed : goal.returns-in-Some-clause-renamed
returns-in-Some-clause-renamed c = search rules

pub returns-in-Some-clause-invalid : goal.returns-in-Some-clause-invalid
returns-in-Some-clause-invalid c = search rules

pub returns-in-Some-clause-not_live : goal.returns-in-Some-clause-not_live
returns-in-Some-clause-not_live c = search rules
