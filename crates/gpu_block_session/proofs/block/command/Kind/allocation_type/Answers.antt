use Rattle.std.proofs.Common.{rules}
use Rattle.gpu_block_session.proofs.block.command.Kind.allocation_type.Goals as goal

pub returns-in-Linear-clause-same : goal.returns-in-Linear-clause-same
returns-in-Linear-clause-same c = search rules
