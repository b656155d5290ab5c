use Rattle.gpu_d3d12.proofs.Ending.{behind_distinct}
use Rattle.gpu_d3d12.proofs.allocator.Allocator.abandon_move.Goals as goal

pub returns-clause-stays : goal.returns-clause-stays
returns-clause-stays g c = λ ahead live. c.free.ensures.keeps c.args.from.now live (behind_distinct c.args.from.now c.args.to ahead)
