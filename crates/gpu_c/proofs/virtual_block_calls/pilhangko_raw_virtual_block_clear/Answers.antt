use Rattle.std.proofs.Common.{rules}
use Rattle.gpu_c.proofs.virtual_block_calls.pilhangko_raw_virtual_block_clear.Goals as goal

pub returns-in-Some-clause-emptied : goal.returns-in-Some-clause-emptied
returns-in-Some-clause-emptied c = search rules
