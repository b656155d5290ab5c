use Rattle.gpu_metal.proofs.Ending.{ahead_distinct, freed_fewer}
use Rattle.gpu_metal.proofs.allocator.Allocator.finish_move.Goals as goal

pub returns-clause-stays : goal.returns-clause-stays
returns-clause-stays g c = λ ahead live. c.free.ensures.keeps c.args.to.now live (ahead_distinct c.args.from c.args.to.now ahead)

pub returns-clause-fewer : goal.returns-clause-fewer
returns-clause-fewer g c = freed_fewer g.D.MetalDevice c.args.from c.args.self.now c.free.result c.free.new.self c.free.ensures.frees
