use Rattle.std.proofs.Common.{◌≡◌, Some, arith, slice_get, slice_set, ap, ◌∙◌}
use Rattle.gpu_core.specs.Blocks.{total_capacity}
use Rattle.gpu_core.specs.Budgets.{budgets}
use Rattle.gpu_core.specs.Types.{slots_of, Types, type_of, kinds, MemoryTypesInvariant}
use Rattle.gpu_block.specs.Said.{said_of}
use Rattle.gpu_core.proofs.Changed.{element_at, renamed, named_cause}
use Rattle.gpu_core.proofs.Types.{invariant_set, sum_kept, kinds_set, budgets_set, share_below, type_elsewhere}
use Rattle.gpu_core.proofs.memory_types.MemoryTypes.relabel.Goals as goal
use Rattle.gpu_core.proofs.memory_types.MemoryTypes.relabel.Goals.{After-relabel}

old_at : (g : _) (c : After-relabel g) → slice_get c.self.inside.types.items c.args.index ≡ Some c.index_mut.result.now
old_at g c = element_at c.self.inside.types.items c.args.index c.index_mut.result.now (omega (arith, c.if-index-len.false, c.len.ensures)) c.index_mut.ensures.value

kept_after : (g : _) (c : After-relabel g) → MemoryTypesInvariant (slice_set c.self.inside.types.items c.args.index c.relabel.new.self)
kept_after g c =
    let at = old_at g c in
    let sum = c.self.invariant.kept.sum in
    let share = share_below c.self.inside.types.items c.args.index c.index_mut.result.now at in
    invariant_set c.self.inside.types.items c.args.index c.index_mut.result.now c.relabel.new.self at (omega (arith, c.if-index-len.false, c.len.ensures)) c.self.invariant.kept c.relabel.ensures.sound c.relabel.ensures.empty
    (omega (arith, sum, share, c.relabel.ensures.capacity))

sum_after : (g : _) (c : After-relabel g) → c.self.inside.capacity ≡ total_capacity (slots_of (slice_set c.self.inside.types.items c.args.index c.relabel.new.self))
sum_after g c =
    sum_kept c.self.inside.types.items c.args.index c.index_mut.result.now c.relabel.new.self c.self.inside.capacity c.self.inside.capacity (old_at g c) (omega (arith, c.if-index-len.false, c.len.ensures)) c.self.invariant.sum_is
    (omega (arith, c.relabel.ensures.capacity))

pub invariant_of-self : goal.invariant_of-self
invariant_of-self g c =
    let after = (goal.at.invariant_of-self g c).After-relabel in
    record { kept = kept_after g after; sum_is = sum_after g after }

pub returns-clause-kept : goal.returns-clause-kept
returns-clause-kept g c = kept_after g ((goal.at.returns-clause-kept g c).After-relabel)

pub returns-clause-renamed : goal.returns-clause-renamed
returns-clause-renamed g c =
    let at = old_at g ((goal.at.returns-clause-renamed g c).After-relabel) in
    rw (← c.self.view_is)
    (renamed c.self.inside.types.items c.args.index c.index_mut.result.now c.relabel.new.self at g.H.PartialEq.eq c.args.piece.now (said_of c.args.said) c.relabel.result c.relabel.ensures.live
    c.relabel.ensures.renamed)

pub returns-clause-cause : goal.returns-clause-cause
returns-clause-cause g c =
    let at = old_at g ((goal.at.returns-clause-cause g c).After-relabel) in
    rw (← c.self.view_is)
    (named_cause c.self.inside.types.items c.args.index c.index_mut.result.now c.relabel.new.self at g.H.PartialEq.eq c.args.piece.now c.relabel.result c.relabel.ensures.dead c.relabel.ensures.starved
    c.relabel.ensures.cause)

pub returns-clause-budgets : goal.returns-clause-budgets
returns-clause-budgets g c =
    let at = old_at g ((goal.at.returns-clause-budgets g c).After-relabel) in
    budgets_set c.self.inside.types.items c.args.index c.index_mut.result.now c.relabel.new.self at c.relabel.ensures.budget ∙ ap budgets c.self.view_is

pub returns-clause-kinds : goal.returns-clause-kinds
returns-clause-kinds g c =
    let at = old_at g ((goal.at.returns-clause-kinds g c).After-relabel) in
    kinds_set c.self.inside.types.items c.args.index c.index_mut.result.now c.relabel.new.self at c.relabel.ensures.kind.0 c.relabel.ensures.kind.1 ∙ ap kinds c.self.view_is

pub returns-clause-others : goal.returns-clause-others
returns-clause-others g c = λ t away.
    type_elsewhere c.self.inside.types.items c.args.index c.relabel.new.self t away ∙ ap (λ (ts : Types _). type_of ts t) c.self.view_is
