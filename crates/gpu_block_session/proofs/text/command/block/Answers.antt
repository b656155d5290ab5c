use Rattle.gpu_block_session.proofs.BlockWords.{granularity_only}
use Rattle.gpu_block_session.proofs.text.command.block.Goals as goal

pub returns-in_default-granularity_of : goal.returns-in_default-granularity_of
returns-in_default-granularity_of c = granularity_only c.args.arguments.now _ c.in_default-granularity_of.ensures
