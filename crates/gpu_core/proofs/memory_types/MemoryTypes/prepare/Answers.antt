use Rattle.std.proofs.Common.{◌≡◌, ◌<◌, Some, None, sym, subst, arith, slice_get, slice_set, ap, ◌∙◌, length, IfErr, OnOk}
use Rattle.gpu_values.specs.Refusal.{refusal_of}
use Rattle.gpu_core.specs.Blocks.{total_capacity}
use Rattle.gpu_core.specs.Budgets.{budgets}
use Rattle.gpu_core.specs.Requests.{refusal_of_need}
use Rattle.gpu_core.specs.Types.{Types, type_of, slots_of, kinds, MemoryTypesInvariant}
use Rattle.gpu_core.proofs.Changed.{element_at, prepared_at, same_slots, limits_refused, limits_cause}
use Rattle.gpu_core.proofs.Options.{on_any_error}
use Rattle.gpu_core.proofs.Types.{invariant_set, sum_kept, kinds_set, budgets_set, share_below, type_elsewhere}
use Rattle.gpu_core.proofs.memory_types.MemoryTypes.prepare.Goals as goal
use Rattle.gpu_core.proofs.memory_types.MemoryTypes.prepare.Goals.{After-prepare}

old_at : (g : _) (c : After-prepare g) → slice_get c.self.inside.types.items c.args.index ≡ Some c.index_mut-memory_type.result.now
old_at g c =
    let there : c.args.index < length c.self.inside.types.items = subst (λ (ts : Types _). c.args.index < length ts) (sym c.self.view_is) c.requires.there in
    element_at c.self.inside.types.items c.args.index c.index_mut-memory_type.result.now (omega (arith, there)) c.index_mut-memory_type.ensures.value

kept_after : (g : _) (c : After-prepare g) → MemoryTypesInvariant (slice_set c.self.inside.types.items c.args.index c.prepare.new.self)
kept_after g c =
    let at = old_at g c in
    let there : c.args.index < length c.self.inside.types.items = subst (λ (ts : Types _). c.args.index < length ts) (sym c.self.view_is) c.requires.there in
    let sum = c.self.invariant.kept.sum in
    let share = share_below c.self.inside.types.items c.args.index c.index_mut-memory_type.result.now at in
    invariant_set c.self.inside.types.items c.args.index c.index_mut-memory_type.result.now c.prepare.new.self at (omega (arith, there)) c.self.invariant.kept c.prepare.ensures.sound c.prepare.ensures.empty
    (omega (arith, sum, share, c.prepare.ensures.capacity))

sum_after : (g : _) (c : After-prepare g) → c.self.inside.capacity ≡ total_capacity (slots_of (slice_set c.self.inside.types.items c.args.index c.prepare.new.self))
sum_after g c =
    sum_kept c.self.inside.types.items c.args.index c.index_mut-memory_type.result.now c.prepare.new.self c.self.inside.capacity c.self.inside.capacity (old_at g c) (let there : c.args.index < length c.self.inside.types.items = subst (λ (ts : Types _). c.args.index < length ts) (sym c.self.view_is) c.requires.there in omega (arith, there)) c.self.invariant.sum_is
    (omega (arith, c.prepare.ensures.capacity))

pub invariant_of-self : goal.invariant_of-self
invariant_of-self g c =
    let after = (goal.at.invariant_of-self g c).After-prepare in
    record { kept = kept_after g after; sum_is = sum_after g after }

pub invariant_of-self-2 : goal.invariant_of-self-2
invariant_of-self-2 g c =
    let after = (goal.at.invariant_of-self-2 g c).After-prepare in
    record { kept = kept_after g after; sum_is = sum_after g after }

pub returns-in_err-prepared-clause-kept : goal.returns-in_err-prepared-clause-kept
returns-in_err-prepared-clause-kept g c = kept_after g ((goal.at.returns-in_err-prepared-clause-kept g c).After-prepare)

pub returns-clause-kept : goal.returns-clause-kept
returns-clause-kept g c = kept_after g ((goal.at.returns-clause-kept g c).After-prepare)

pub returns-in_err-prepared-clause-refused : goal.returns-in_err-prepared-clause-refused
returns-in_err-prepared-clause-refused g c =
    let at = old_at g ((goal.at.returns-in_err-prepared-clause-refused g c).After-prepare) in
    on_any_error c.from_residual.result _ (same_slots c.self.inside.types.items c.args.index c.index_mut-memory_type.result.now c.prepare.new.self at c.in_err-prepared.ensures.refused ∙ ap slots_of
    c.self.view_is)

pub returns-in_err-prepared-clause-budgets : goal.returns-in_err-prepared-clause-budgets
returns-in_err-prepared-clause-budgets g c =
    let at = old_at g ((goal.at.returns-in_err-prepared-clause-budgets g c).After-prepare) in
    budgets_set c.self.inside.types.items c.args.index c.index_mut-memory_type.result.now c.prepare.new.self at c.prepare.ensures.budget ∙ ap budgets c.self.view_is

pub returns-in_err-prepared-clause-kinds : goal.returns-in_err-prepared-clause-kinds
returns-in_err-prepared-clause-kinds g c =
    let at = old_at g ((goal.at.returns-in_err-prepared-clause-kinds g c).After-prepare) in
    kinds_set c.self.inside.types.items c.args.index c.index_mut-memory_type.result.now c.prepare.new.self at c.prepare.ensures.kind.0 c.prepare.ensures.kind.1 ∙ ap kinds c.self.view_is

pub returns-clause-budgets : goal.returns-clause-budgets
returns-clause-budgets g c =
    let at = old_at g ((goal.at.returns-clause-budgets g c).After-prepare) in
    budgets_set c.self.inside.types.items c.args.index c.index_mut-memory_type.result.now c.prepare.new.self at c.prepare.ensures.budget ∙ ap budgets c.self.view_is

pub returns-clause-kinds : goal.returns-clause-kinds
returns-clause-kinds g c =
    let at = old_at g ((goal.at.returns-clause-kinds g c).After-prepare) in
    kinds_set c.self.inside.types.items c.args.index c.index_mut-memory_type.result.now c.prepare.new.self at c.prepare.ensures.kind.0 c.prepare.ensures.kind.1 ∙ ap kinds c.self.view_is

used_is : (g : _) (c : After-prepare g) → c.capacity-used.result ≡ total_capacity (slots_of c.self.inside.types.items)
used_is g c = c.capacity-used.ensures.sum ∙ ap (λ (ts : Types _). total_capacity (slots_of ts)) (sym c.self.view_is)

pub returns-clause-prepared : goal.returns-clause-prepared
returns-clause-prepared g c =
    let after = (goal.at.returns-clause-prepared g c).After-prepare in
    let there : c.args.index < length c.self.inside.types.items = subst (λ (ts : Types _). c.args.index < length ts) (sym c.self.view_is) c.requires.there in
    rw (← c.self.view_is)
    (prepared_at c.self.inside.types.items c.args.index c.index_mut-memory_type.result.now c.prepare.new.self (old_at g after) c.prepare.ensures.budget c.prepare.ensures.capacity
    c.args.sizes.now c.args.request.now c.within_limits.result c.in_ok-prepared.prepared c.in_ok-prepared.ensures.prepared c.within_limits.ensures.same
    (subst (λ n. OnOk c.within_limits.result (refusal_of_need n c.prepare.new.self c.in_ok-prepared.prepared ≡ None)) (used_is g after) c.within_limits.ensures.fits) (omega (arith, there)))

pub returns-clause-cause : goal.returns-clause-cause
returns-clause-cause g c =
    let after = (goal.at.returns-clause-cause g c).After-prepare in
    rw (← c.self.view_is)
    (limits_cause c.self.inside.types.items c.args.index c.index_mut-memory_type.result.now c.prepare.new.self (old_at g after) c.prepare.ensures.budget c.prepare.ensures.capacity
    c.args.sizes.now c.args.request.now c.within_limits.result c.in_ok-prepared.prepared c.in_ok-prepared.ensures.prepared
    (subst (λ n. IfErr c.within_limits.result (λ e. refusal_of_need n c.prepare.new.self c.in_ok-prepared.prepared ≡ Some (refusal_of e))) (used_is g after) c.within_limits.ensures.cause))

pub returns-clause-refused : goal.returns-clause-refused
returns-clause-refused g c =
    let after = (goal.at.returns-clause-refused g c).After-prepare in
    rw (← c.self.view_is)
    (limits_refused c.self.inside.types.items c.args.index c.index_mut-memory_type.result.now c.prepare.new.self (old_at g after) c.args.sizes.now c.args.request.now
    c.capacity-used.result c.within_limits.result c.in_ok-prepared.prepared c.in_ok-prepared.ensures.prepared c.within_limits.ensures.cause)

pub returns-clause-others : goal.returns-clause-others
returns-clause-others g c = λ t away.
    type_elsewhere c.self.inside.types.items c.args.index c.prepare.new.self t away ∙ ap (λ (ts : Types _). type_of ts t) c.self.view_is

pub returns-in_err-prepared-clause-others : goal.returns-in_err-prepared-clause-others
returns-in_err-prepared-clause-others g c = λ t away.
    type_elsewhere c.self.inside.types.items c.args.index c.prepare.new.self t away ∙ ap (λ (ts : Types _). type_of ts t) c.self.view_is
