use Rattle.std.proofs.Common.{◌≡◌, ◌∙◌, ap, sym, subst, inl, inr, ℕ, get_or, arith}
use Rattle.std.proofs.lemmas.Bool.{cases_lt}
use Rattle.std.proofs.lemmas.List.{get_or_default}
use Rattle.gpu_plan.specs.declared.resource.Resource.{Resource}
use Rattle.gpu_plan.specs.Plan.{resource_at, no_resource}
use Rattle.gpu_plan.specs.Passes.{HasStart}
use Rattle.gpu_plan.proofs.passes.starts.Goals as goal

pub loop-r-preserved : goal.loop-r-preserved
loop-r-preserved c =
    let resources = c.args.resources.now in
    let i = c.loop-r.r-index in
    record {
      told = c.in_ok-add_start.ensures.told;
      each = λ k d lt. elim (cases_lt k i) [
        | inl low ↦ c.in_ok-add_start.ensures.kept (get_or resources k d).first (c.loop-r.invariant.each k d low)
        | inr last ↦
            let k_is : k ≡ i = omega arith in
            let same : get_or resources k d ≡ resource_at resources i = ap (λ (j : ℕ). get_or resources j d) k_is ∙ get_or_default resources i d no_resource (omega arith) in
            subst (λ (r : Resource). HasStart c.add_start.new.starts.items r.first) (sym same) (rw c.in_ok-add_start.was at c.add_start.ensures.added)
      ];
    }
