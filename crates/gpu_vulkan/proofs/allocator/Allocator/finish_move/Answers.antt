use Rattle.gpu_vulkan.proofs.Ending.{ahead_distinct, freed_fewer}
use Rattle.gpu_vulkan.proofs.allocator.Allocator.finish_move.Goals as goal

pub returns-clause-stays : goal.returns-clause-stays
returns-clause-stays g c = λ ahead live. c.free.ensures.keeps c.args.to.now live (ahead_distinct c.args.from c.args.to.now ahead)

pub returns-clause-fewer : goal.returns-clause-fewer
returns-clause-fewer g c = λ live.
    freed_fewer g.D.VulkanDevice c.args.from c.args.self.now.slots c.args.self.now.device c.free.new.self.slots c.free.new.self.device c.free.result c.free.ensures.frees live
