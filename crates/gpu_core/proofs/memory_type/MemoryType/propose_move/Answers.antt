use Rattle.std.proofs.Common.{◌+◌, ◌∙◌, sym, ap}
use Rattle.gpu_core.specs.TypeState.{capacity_of}
use Rattle.gpu_core.specs.TypeTake.{asked}
use Rattle.gpu_core.specs.TypeInvariant.{AreKept}
use Rattle.gpu_core.proofs.Moving.{proposed_kept}
use Rattle.gpu_core.proofs.memory_type.MemoryType.propose_move.Goals as goal
use Rattle.gpu_core.proofs.memory_type.MemoryType.propose_move.Goals.{After-allocate_from}

kept : (g : _) (c : After-allocate_from g) → AreKept c.self.inside.granularity c.allocate_from.new.self.slots c.self.inside.capacity c.self.inside.shared
kept g c =
    let i = c.self.inside in
    let e = c.allocate_from.ensures in
    proposed_kept i.granularity i.slots.slots i.capacity i.shared (asked c.args.request.now) (c.args.piece.now.slot + 1) _ c.allocate_from.result c.allocate_from.new.self.slots c.self.invariant e.kept e.took e.none
    e.refused

pub invariant_of-self : goal.invariant_of-self
invariant_of-self g c = kept g ((goal.at.invariant_of-self g c).After-allocate_from)

pub returns-clause-capacity : goal.returns-clause-capacity
returns-clause-capacity g c =
    sym (kept g ((goal.at.returns-clause-capacity g c).After-allocate_from)).capacity_is ∙ c.self.invariant.capacity_is ∙ ap (λ t. capacity_of t.slots) c.self.view_is

pub returns-clause-empty : goal.returns-clause-empty
returns-clause-empty g c = (kept g ((goal.at.returns-clause-empty g c).After-allocate_from)).empty
