use Rattle.std.proofs.Common.{refl, ap, ◌∙◌, arith}
use Rattle.gpu_device.specs.Held.{new_entry}
use Rattle.gpu_sim.specs.Memories.{held_from}
use Rattle.gpu_sim.proofs.Slots.{not_held, pushed}
use Rattle.gpu_sim.proofs.memories.Memories.add.Goals as goal

pub returns-clause-fresh : goal.returns-clause-fresh
returns-clause-fresh c =
    let ss = c.args.self.now.slots.items in
    not_held ss c.len.result (omega (arith, c.len.ensures, c.in_ok-push.ensures.len, c.args.self.now.slots.ok.0))

pub returns-clause-held : goal.returns-clause-held
returns-clause-held c =
    let ss = c.args.self.now.slots.items in
    ap (held_from 1) c.in_ok-push.ensures.items
    ∙ pushed ss _ (new_entry c.args.info.now) c.len.result (omega (arith, c.len.ensures, c.in_ok-push.ensures.len, c.args.self.now.slots.ok.0)) refl
