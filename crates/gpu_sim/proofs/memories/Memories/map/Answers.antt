use Rattle.std.proofs.Common.{◌<◌, length, ap, ◌∙◌, arith, set}
use Rattle.gpu_sim.specs.declared.memory.Slot.{Slot}
use Rattle.gpu_sim.specs.Memories.{held_from}
use Rattle.gpu_sim.proofs.Slots.{mapped_at}
use Rattle.gpu_sim.proofs.memories.Memories.map.Goals as goal

pub returns-in-Some-clause-held : goal.returns-in-Some-clause-held
returns-in-Some-clause-held c =
    let ss = c.args.self.now.slots.items in
    let within : c.in-Some.index < length ss = omega (arith, c.in-Some.ensures.index.1, c.args.self.now.slots.ok.0) in
    ap (λ (x : Slot). held_from 1 (set ss c.in-Some.index x)) c.map.ensures
    ∙ mapped_at ss c.args.number c.in-Some.index c.index_mut.result.now c.args.bytes c.in-Some.ensures.index.0 within c.index_mut.ensures.value c.requires
