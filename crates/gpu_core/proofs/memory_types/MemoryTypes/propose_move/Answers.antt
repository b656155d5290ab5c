use Rattle.std.proofs.Common.{◌≡◌, ◌<◌, Some, arith, slice_get, slice_set, subst, ap, ◌∙◌, length}
use Rattle.gpu_core.specs.Blocks.{total_capacity}
use Rattle.gpu_core.specs.Budgets.{budgets}
use Rattle.gpu_core.specs.TypeTake.{asked}
use Rattle.gpu_core.specs.Types.{slots_of, Types, type_of, kinds, MemoryTypesInvariant}
use Rattle.std.proofs.Common.{sym}
use Rattle.gpu_core.proofs.Changed.{element_at}
use Rattle.gpu_core.proofs.Moving.{proposed_at, none_at, refused_at}
use Rattle.gpu_core.proofs.Types.{invariant_set, sum_kept, kinds_set, budgets_set, share_below, type_elsewhere}
use Rattle.gpu_core.proofs.memory_types.MemoryTypes.propose_move.Goals as goal
use Rattle.gpu_core.proofs.memory_types.MemoryTypes.propose_move.Goals.{After-propose_move}

there : (g : _) (c : After-propose_move g) → c.args.index < length c.self.inside.types.items
there g c = subst (λ (ts : Types _). c.args.index < length ts) (sym c.self.view_is) c.requires.there

old_at : (g : _) (c : After-propose_move g) → slice_get c.self.inside.types.items c.args.index ≡ Some c.index_mut.result.now
old_at g c = element_at c.self.inside.types.items c.args.index c.index_mut.result.now (there g c) c.index_mut.ensures.value

kept_after : (g : _) (c : After-propose_move g) → MemoryTypesInvariant (slice_set c.self.inside.types.items c.args.index c.propose_move.new.self)
kept_after g c =
    let at = old_at g c in
    let sum = c.self.invariant.kept.sum in
    let share = share_below c.self.inside.types.items c.args.index c.index_mut.result.now at in
    invariant_set c.self.inside.types.items c.args.index c.index_mut.result.now c.propose_move.new.self at (there g c) c.self.invariant.kept c.propose_move.ensures.sound c.propose_move.ensures.empty
    (omega (arith, sum, share, c.propose_move.ensures.capacity))

sum_after : (g : _) (c : After-propose_move g) → c.self.inside.capacity ≡ total_capacity (slots_of (slice_set c.self.inside.types.items c.args.index c.propose_move.new.self))
sum_after g c =
    sum_kept c.self.inside.types.items c.args.index c.index_mut.result.now c.propose_move.new.self c.self.inside.capacity c.self.inside.capacity (old_at g c) (there g c) c.self.invariant.sum_is
    (omega (arith, c.propose_move.ensures.capacity))

pub invariant_of-self : goal.invariant_of-self
invariant_of-self g c =
    let after = (goal.at.invariant_of-self g c).After-propose_move in
    record { kept = kept_after g after; sum_is = sum_after g after }

pub returns-clause-kept : goal.returns-clause-kept
returns-clause-kept g c = kept_after g ((goal.at.returns-clause-kept g c).After-propose_move)

pub returns-clause-proposed : goal.returns-clause-proposed
returns-clause-proposed g c =
    let at = old_at g ((goal.at.returns-clause-proposed g c).After-propose_move) in
    rw (← c.self.view_is)
    (proposed_at c.self.inside.types.items c.args.index c.index_mut.result.now c.propose_move.new.self at (asked c.args.request.now) c.args.piece.now c.propose_move.result c.propose_move.ensures.proposed)

pub returns-clause-none : goal.returns-clause-none
returns-clause-none g c =
    let at = old_at g ((goal.at.returns-clause-none g c).After-propose_move) in
    rw (← c.self.view_is)
    (none_at c.self.inside.types.items c.args.index c.index_mut.result.now c.propose_move.new.self at (asked c.args.request.now) c.args.piece.now.slot c.propose_move.result c.propose_move.ensures.none)

pub returns-clause-refused : goal.returns-clause-refused
returns-clause-refused g c =
    let at = old_at g ((goal.at.returns-clause-refused g c).After-propose_move) in
    rw (← c.self.view_is)
    (refused_at c.self.inside.types.items c.args.index c.index_mut.result.now c.propose_move.new.self at c.propose_move.result c.propose_move.ensures.refused)

pub returns-clause-budgets : goal.returns-clause-budgets
returns-clause-budgets g c =
    let at = old_at g ((goal.at.returns-clause-budgets g c).After-propose_move) in
    budgets_set c.self.inside.types.items c.args.index c.index_mut.result.now c.propose_move.new.self at c.propose_move.ensures.budget ∙ ap budgets c.self.view_is

pub returns-clause-kinds : goal.returns-clause-kinds
returns-clause-kinds g c =
    let at = old_at g ((goal.at.returns-clause-kinds g c).After-propose_move) in
    kinds_set c.self.inside.types.items c.args.index c.index_mut.result.now c.propose_move.new.self at c.propose_move.ensures.kind.0 c.propose_move.ensures.kind.1 ∙ ap kinds c.self.view_is

pub returns-clause-others : goal.returns-clause-others
returns-clause-others g c = λ t away.
    type_elsewhere c.self.inside.types.items c.args.index c.propose_move.new.self t away ∙ ap (λ (ts : Types _). type_of ts t) c.self.view_is
