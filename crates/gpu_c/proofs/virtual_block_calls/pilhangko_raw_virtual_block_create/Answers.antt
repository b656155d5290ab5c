use Rattle.std.proofs.Common.{rules}
use Rattle.gpu_c.proofs.virtual_block_calls.pilhangko_raw_virtual_block_create.Goals as goal

pub create-requires-clause-valid : goal.create-requires-clause-valid
create-requires-clause-valid c = search rules

pub returns-clause-created : goal.returns-clause-created
returns-clause-created c = search rules
