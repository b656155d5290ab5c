use Rattle.std.proofs.Common.{◌≡◌, ◌+◌, ◌<◌, ◌^◌, Some, sym, subst, arith, slice_get, slice_set, ap, ◌∙◌, length}
use Rattle.gpu_core.specs.Blocks.{total_capacity}
use Rattle.gpu_core.specs.Budgets.{budgets}
use Rattle.gpu_core.specs.Types.{Types, type_of, slots_of, kinds, MemoryTypesInvariant}
use Rattle.gpu_core.proofs.Changed.{element_at, installed}
use Rattle.gpu_core.proofs.Types.{invariant_set, sum_kept, kinds_set, budgets_set, share_below, type_elsewhere}
use Rattle.gpu_core.proofs.memory_types.MemoryTypes.install.Goals as goal
use Rattle.gpu_core.proofs.memory_types.MemoryTypes.install.Goals.{After-index_mut, After-install}

old_at : (g : _) (c : After-index_mut g) → slice_get c.self.inside.types.items c.args.index ≡ Some c.index_mut.result.now
old_at g c =
    let there : c.args.index < length c.self.inside.types.items = subst (λ (ts : Types _). c.args.index < length ts) (sym c.self.view_is) c.requires.there in
    element_at c.self.inside.types.items c.args.index c.index_mut.result.now (omega (arith, there)) c.index_mut.ensures.value

pub install-requires-clause-sum : goal.install-requires-clause-sum
install-requires-clause-sum g c =
    let at = old_at g ((goal.at.install-requires-clause-sum g c).After-index_mut) in
    let share = share_below c.self.inside.types.items c.args.index c.index_mut.result.now at in
    let sum : total_capacity (slots_of c.self.inside.types.items) + c.args.need.size < 2 ^ 64 = subst (λ (ts : Types _). total_capacity (slots_of ts) + c.args.need.size < 2 ^ 64) (sym c.self.view_is)
    c.requires.sum in
    omega (arith, share, sum)

kept_after : (g : _) (c : After-install g) → slice_get c.self.inside.types.items c.args.index ≡ Some c.index_mut.result.now → MemoryTypesInvariant
    (slice_set c.self.inside.types.items c.args.index c.install.new.self)
kept_after g c at =
    let there : c.args.index < length c.self.inside.types.items = subst (λ (ts : Types _). c.args.index < length ts) (sym c.self.view_is) c.requires.there in
    let sum : total_capacity (slots_of c.self.inside.types.items) + c.args.need.size < 2 ^ 64 = subst (λ (ts : Types _). total_capacity (slots_of ts) + c.args.need.size < 2 ^ 64) (sym c.self.view_is)
    c.requires.sum in
    invariant_set c.self.inside.types.items c.args.index c.index_mut.result.now c.install.new.self at (omega (arith, there)) c.self.invariant.kept c.install.ensures.sound c.install.ensures.empty
    (omega (arith, sum, c.install.ensures.capacity))

pub invariant_of-self : goal.invariant_of-self
invariant_of-self g c =
    let after = (goal.at.invariant_of-self g c).After-install in
    let at = old_at g ((goal.at.invariant_of-self g c).After-index_mut) in
    let there : c.args.index < length c.self.inside.types.items = subst (λ (ts : Types _). c.args.index < length ts) (sym c.self.view_is) c.requires.there in
    record {
      kept = kept_after g after at;
      sum_is = sum_kept c.self.inside.types.items c.args.index c.index_mut.result.now c.install.new.self c.self.inside.capacity (c.self.inside.capacity + c.args.need.size) at there c.self.invariant.sum_is
          (omega (arith, c.install.ensures.capacity));
    }

pub returns-clause-kept : goal.returns-clause-kept
returns-clause-kept g c = kept_after g ((goal.at.returns-clause-kept g c).After-install) (old_at g ((goal.at.returns-clause-kept g c).After-index_mut))

pub returns-clause-installed : goal.returns-clause-installed
returns-clause-installed g c =
    let at = old_at g ((goal.at.returns-clause-installed g c).After-index_mut) in
    rw (← c.self.view_is)
    (installed c.self.inside.types.items c.args.index c.index_mut.result.now c.install.new.self at c.args.need.dedicated c.args.need.room c.args.handle c.install.result c.install.ensures.installed)

pub returns-clause-budgets : goal.returns-clause-budgets
returns-clause-budgets g c =
    let at = old_at g ((goal.at.returns-clause-budgets g c).After-index_mut) in
    budgets_set c.self.inside.types.items c.args.index c.index_mut.result.now c.install.new.self at c.install.ensures.budget ∙ ap budgets c.self.view_is

pub returns-clause-kinds : goal.returns-clause-kinds
returns-clause-kinds g c =
    let at = old_at g ((goal.at.returns-clause-kinds g c).After-index_mut) in
    kinds_set c.self.inside.types.items c.args.index c.index_mut.result.now c.install.new.self at c.install.ensures.kind.0 c.install.ensures.kind.1 ∙ ap kinds c.self.view_is

pub returns-clause-others : goal.returns-clause-others
returns-clause-others g c = λ t away.
    type_elsewhere c.self.inside.types.items c.args.index c.install.new.self t away ∙ ap (λ (ts : Types _). type_of ts t) c.self.view_is
