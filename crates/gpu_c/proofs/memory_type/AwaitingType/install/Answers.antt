use Rattle.std.proofs.Common.{sym}
use Rattle.gpu_c.proofs.MemoryTypeLaws.{installs_awaited}
use Rattle.gpu_c.proofs.memory_type.AwaitingType.install.Goals as goal

pub returns-in-Some-clause-installed : goal.returns-in-Some-clause-installed
returns-in-Some-clause-installed c _ =
    installs_awaited c.args.self.now c.self.inside.memory_type c.install.new.self c.self.inside.sizes c.self.inside.awaited c.take.new.self c.in-Some.need c.args.block c.install.result c.memory_piece.result
    c.self.view_is (sym c.in-Some.ensures.value) c.in-Some.ensures.after c.memory_piece.ensures c.install.ensures.installed c.install.ensures.capacity
    (record { kind = c.install.ensures.kind; budget = c.install.ensures.budget; sound = c.install.ensures.sound; empty = c.install.ensures.empty })
