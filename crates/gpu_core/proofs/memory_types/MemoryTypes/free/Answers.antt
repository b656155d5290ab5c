use Rattle.std.proofs.Common.{◌≡◌, ◌-◌, Some, arith, slice_get, slice_set, ◌∙◌, ap}
use Rattle.gpu_core.specs.Budgets.{budgets}
use Rattle.gpu_core.specs.Types.{Types, type_of, kinds, MemoryTypesInvariant}
use Rattle.gpu_core.proofs.Changed.{element_at, released}
use Rattle.gpu_core.proofs.Types.{invariant_set, sum_kept, kinds_set, budgets_set, share_below, type_elsewhere}
use Rattle.gpu_core.proofs.memory_types.MemoryTypes.free.Goals as goal
use Rattle.gpu_core.proofs.memory_types.MemoryTypes.free.Goals.{After-free-freed}

old_at : (g : _) (c : After-free-freed g) → slice_get c.self.inside.types.items c.args.index ≡ Some c.index_mut-its_type.result.now
old_at g c = element_at c.self.inside.types.items c.args.index c.index_mut-its_type.result.now (omega (arith, c.if-index-len.false, c.len.ensures)) c.index_mut-its_type.ensures.value

kept_after : (g : _) (c : After-free-freed g) → MemoryTypesInvariant (slice_set c.self.inside.types.items c.args.index c.free-freed.new.self)
kept_after g c =
    let at = old_at g c in
    let sum = c.self.invariant.kept.sum in
    let share = share_below c.self.inside.types.items c.args.index c.index_mut-its_type.result.now at in
    invariant_set c.self.inside.types.items c.args.index c.index_mut-its_type.result.now c.free-freed.new.self at (omega (arith, c.if-index-len.false, c.len.ensures)) c.self.invariant.kept c.free-freed.ensures.sound c.free-freed.ensures.empty
    (omega (arith, sum, share, c.free-freed.ensures.capacity))

-- the sum of all has the bytes that went
pub overflow_sub-self-2 : goal.overflow_sub-self-2
overflow_sub-self-2 g c =
    let share = share_below c.self.inside.types.items c.args.index c.index_mut-its_type.result.now (old_at g ((goal.at.overflow_sub-self-2 g c).After-free-freed)) in
    omega (arith, share, c.self.invariant.sum_is, c.capacity-before.ensures)

pub invariant_of-self : goal.invariant_of-self
invariant_of-self g c =
    let after = (goal.at.invariant_of-self g c).After-free-freed in
    let at = old_at g after in
    let share = share_below c.self.inside.types.items c.args.index c.index_mut-its_type.result.now at in
    record {
      kept = kept_after g after;
      sum_is = sum_kept c.self.inside.types.items c.args.index c.index_mut-its_type.result.now c.free-freed.new.self c.self.inside.capacity
          (c.self.inside.capacity - (c.capacity-before.result - c.capacity-after.result)) at (omega (arith, c.if-index-len.false, c.len.ensures)) c.self.invariant.sum_is
          (omega (arith, share, c.self.invariant.sum_is, c.capacity-before.ensures, c.capacity-after.ensures, c.free-freed.ensures.capacity));
    }

pub returns-clause-kept : goal.returns-clause-kept
returns-clause-kept g c = kept_after g ((goal.at.returns-clause-kept g c).After-free-freed)

pub returns-clause-released : goal.returns-clause-released
returns-clause-released g c =
    let at = old_at g ((goal.at.returns-clause-released g c).After-free-freed) in
    rw (← c.self.view_is) (released c.self.inside.types.items c.args.index c.index_mut-its_type.result.now c.free-freed.new.self at c.args.piece.now c.free-freed.result c.free-freed.ensures.released)

pub returns-clause-budgets : goal.returns-clause-budgets
returns-clause-budgets g c =
    let at = old_at g ((goal.at.returns-clause-budgets g c).After-free-freed) in
    budgets_set c.self.inside.types.items c.args.index c.index_mut-its_type.result.now c.free-freed.new.self at c.free-freed.ensures.budget ∙ ap budgets c.self.view_is

pub returns-clause-kinds : goal.returns-clause-kinds
returns-clause-kinds g c =
    let at = old_at g ((goal.at.returns-clause-kinds g c).After-free-freed) in
    kinds_set c.self.inside.types.items c.args.index c.index_mut-its_type.result.now c.free-freed.new.self at c.free-freed.ensures.kind.0 c.free-freed.ensures.kind.1 ∙ ap kinds c.self.view_is

pub returns-clause-others : goal.returns-clause-others
returns-clause-others g c = λ t away.
    type_elsewhere c.self.inside.types.items c.args.index c.free-freed.new.self t away ∙ ap (λ (ts : Types _). type_of ts t) c.self.view_is
