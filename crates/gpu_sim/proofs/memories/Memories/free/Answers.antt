use Rattle.std.proofs.Common.{sym, arith}
use Rattle.gpu_device.proofs.Maps.{remove_none}
use Rattle.gpu_sim.specs.Memories.{held_in}
use Rattle.gpu_sim.proofs.Slots.{freed}
use Rattle.gpu_sim.proofs.memories.Memories.free.Goals as goal

pub returns-in-Some-clause-held : goal.returns-in-Some-clause-held
returns-in-Some-clause-held c =
    freed c.args.self.now.slots.items c.args.number c.in-Some.index c.in-Some.ensures.index.0 (omega (arith, c.in-Some.ensures.index.1, c.args.self.now.slots.ok.0))

pub returns-in_default-clause-held : goal.returns-in_default-clause-held
returns-in_default-clause-held c = sym (remove_none (held_in c.args.self.now) c.args.number (c.index_of.ensures.unknown c.in_default.is))
