use Rattle.std.proofs.Common.{◌<◌, length, ◌∙◌, arith}
use Rattle.gpu_sim.proofs.Slots.{size_at}
use Rattle.gpu_sim.proofs.memories.Memories.size.Goals as goal

pub returns-in-Some : goal.returns-in-Some
returns-in-Some c =
    let ss = c.args.self.now.slots.items in
    let within : c.in-Some.index < length ss = omega (arith, c.in-Some.ensures.index.1, c.args.self.now.slots.ok.0) in
    c.size.ensures ∙ size_at ss c.args.number c.in-Some.index c.index.result.now c.in-Some.ensures.index.0 within c.index.ensures
