use Rattle.std.proofs.Common.{◌≡◌, ◌∙◌, Some, sym, subst, ap, arith, length, slice_get, slice_set, ◌<◌, rules}
use Rattle.std.proofs.lemmas.List.{length-map, map-set}
use Rattle.std.proofs.lemmas.Grind.{common_steps}
use Rattle.gpu_core.specs.TypeState.{TypeState, capacity_of}
use Rattle.gpu_core.specs.Blocks.{total_capacity}
use Rattle.gpu_core.specs.Budgets.{budgets}
use Rattle.gpu_core.specs.Types.{slots_of, kinds, MemoryTypesInvariant}
use Rattle.gpu_core.proofs.Changed.{element_at, same_slots}
use Rattle.gpu_core.proofs.Types.{invariant_set, sum_kept, kinds_set, each_at, WellFormed, OneEmpty}
use Rattle.gpu_core.proofs.memory_types.MemoryTypes.set_budget.Goals.{After-set_budget}
use Rattle.gpu_core.proofs.memory_types.MemoryTypes.set_budget.Goals as goal

below : (g : _) (c : After-set_budget g) → c.args.index < length c.self.inside.types.items
below g c = omega (arith, c.if-index-len.false, c.len.ensures)

old_at : (g : _) (c : After-set_budget g) → slice_get c.self.inside.types.items c.args.index ≡ Some c.index_mut.result.now
old_at g c = element_at c.self.inside.types.items c.args.index c.index_mut.result.now (below g c) c.index_mut.ensures.value

slots_are : (g : _) (c : After-set_budget g) → c.set_budget.new.self.slots ≡ c.index_mut.result.now.slots
slots_are g c = ap (λ (t : TypeState _). t.slots) c.set_budget.ensures

kept_after : (g : _) (c : After-set_budget g) → MemoryTypesInvariant (slice_set c.self.inside.types.items c.args.index c.set_budget.new.self)
kept_after g c =
    let types = c.self.inside.types.items in
    let at = old_at g c in
    let was : WellFormed c.index_mut.result.now = each_at WellFormed types c.args.index c.index_mut.result.now c.self.invariant.kept.well_formed at in
    let sum = c.self.invariant.kept.sum in
    let same = ap (λ (t : TypeState _). capacity_of t.slots) c.set_budget.ensures in
    invariant_set types c.args.index c.index_mut.result.now c.set_budget.new.self at (below g c) c.self.invariant.kept
    (subst WellFormed (sym c.set_budget.ensures) was) (subst OneEmpty (sym c.set_budget.ensures) (each_at OneEmpty types c.args.index c.index_mut.result.now c.self.invariant.kept.empty at))
    (omega (arith, sum, same))

sum_after : (g : _) (c : After-set_budget g) → c.self.inside.capacity ≡ total_capacity (slots_of (slice_set c.self.inside.types.items c.args.index c.set_budget.new.self))
sum_after g c =
    sum_kept c.self.inside.types.items c.args.index c.index_mut.result.now c.set_budget.new.self c.self.inside.capacity c.self.inside.capacity (old_at g c) (below g c) c.self.invariant.sum_is
    (let same = ap (λ (t : TypeState _). capacity_of t.slots) c.set_budget.ensures in omega (arith, same))

pub invariant_of-self : goal.invariant_of-self
invariant_of-self g c =
    let after = (goal.at.invariant_of-self g c).After-set_budget in
    record { kept = kept_after g after; sum_is = sum_after g after }

pub returns-clause-kept : goal.returns-clause-kept
returns-clause-kept g c = kept_after g ((goal.at.returns-clause-kept g c).After-set_budget)

pub returns-clause-slots : goal.returns-clause-slots
returns-clause-slots g c =
    let after = (goal.at.returns-clause-slots g c).After-set_budget in
    same_slots c.self.inside.types.items c.args.index c.index_mut.result.now c.set_budget.new.self (old_at g after) (slots_are g after) ∙ ap slots_of c.self.view_is

pub returns-clause-kinds : goal.returns-clause-kinds
returns-clause-kinds g c =
    let at = old_at g ((goal.at.returns-clause-kinds g c).After-set_budget) in
    kinds_set c.self.inside.types.items c.args.index c.index_mut.result.now c.set_budget.new.self at
    (ap (λ (t : TypeState _). t.is_host) c.set_budget.ensures) (ap (λ (t : TypeState _). t.granularity) c.set_budget.ensures) ∙ ap kinds c.self.view_is

pub returns-clause-budgets : goal.returns-clause-budgets
returns-clause-budgets g c =
    let after = (goal.at.returns-clause-budgets g c).After-set_budget in
    let types = c.self.inside.types.items in
    let long = length-map types (λ (t : TypeState _). t.budget) in
    let there = below g after in
    rw (← c.self.view_is) (
      omega (arith, long, there),
      map-set (λ (t : TypeState _). t.budget) types c.args.index c.set_budget.new.self
          ∙ ap (λ (t : TypeState _). slice_set (budgets types) c.args.index t.budget) c.set_budget.ensures,
    )

pub returns-then-index-len-clause-budgets : goal.returns-then-index-len-clause-budgets
returns-then-index-len-clause-budgets g c = grind (arith, common_steps)

pub returns-then-index-len-clause-slots : goal.returns-then-index-len-clause-slots
returns-then-index-len-clause-slots g c = search rules

pub returns-then-index-len-clause-kinds : goal.returns-then-index-len-clause-kinds
returns-then-index-len-clause-kinds g c = search rules

pub returns-then-index-len-clause-refused : goal.returns-then-index-len-clause-refused
returns-then-index-len-clause-refused g c = search rules

pub returns-then-index-len-clause-kept : goal.returns-then-index-len-clause-kept
returns-then-index-len-clause-kept g c = search rules
