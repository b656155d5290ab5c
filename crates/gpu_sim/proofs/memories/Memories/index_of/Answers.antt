use Rattle.std.proofs.Common.{◌≡◌, ap, ◌∙◌, arith}
use Rattle.std.specs.FinMap.{get}
use Rattle.gpu_sim.specs.Memories.{held_from}
use Rattle.gpu_sim.specs.Numbers.{at_zero}
use Rattle.gpu_sim.proofs.Slots.{past}
use Rattle.gpu_sim.proofs.memories.Memories.index_of.Goals as goal

pub returns-then-number-eq0-clause-unknown : goal.returns-then-number-eq0-clause-unknown
returns-then-number-eq0-clause-unknown c none =
    let ss = c.args.self.now.slots.items in
    let e : c.args.number ≡ 0 = omega arith in
    ap (get (held_from 1 ss)) e ∙ at_zero ss

pub returns-else-index-len-clause-unknown : goal.returns-else-index-len-clause-unknown
returns-else-index-len-clause-unknown c none =
    past c.args.self.now.slots.items c.args.number (omega arith) (omega (arith, c.len.ensures, c.args.self.now.slots.ok.0))
