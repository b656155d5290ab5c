use Rattle.std.proofs.Common.{rules}
use Rattle.gpu_c.proofs.virtual_block_calls.pilhangko_raw_virtual_block_statistics.Goals as goal

pub returns-in-Some-clause-reported : goal.returns-in-Some-clause-reported
returns-in-Some-clause-reported c = search rules
