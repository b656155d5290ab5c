use Rattle.std.proofs.Common.{◌<◌, length, ap, ◌∙◌, arith}
use Rattle.gpu_device.specs.Held.{range_in}
use Rattle.gpu_sim.proofs.Slots.{bytes_at}
use Rattle.gpu_sim.proofs.memories.Memories.part.Goals as goal

pub returns-in-Some : goal.returns-in-Some
returns-in-Some c =
    let ss = c.args.self.now.slots.items in
    let within : c.in-Some.index < length ss = omega (arith, c.in-Some.ensures.index.1, c.args.self.now.slots.ok.0) in
    c.part.ensures
    ∙ ap (range_in c.args.start c.args.len) (bytes_at ss c.args.number c.in-Some.index c.index.result.now c.in-Some.ensures.index.0 within c.index.ensures)
