-- What C tells of resources, as plans know it.
use Rattle.std.proofs.Common.{ℕ, zero, suc, refl, false, ◌<◌, List, get_or, arith}
use Rattle.std.specs.Prelude.{All, IsTrue, map}
use Rattle.std.specs.Int.{is_power_of_two}
use Rattle.std.proofs.lemmas.List.Elements.{All-map}
use Rattle.std.proofs.lemmas.Bool.{both_ways}
use Rattle.gpu_plan.specs.Plan.{IsValid}
use Rattle.gpu_c.specs.declared.plan_values.PlanResource.{PlanResource}
use Rattle.gpu_c.specs.Plan.{IsPlannable, resource_told}

-- a power of two isn't 0
pub positive_power : (n : ℕ) → IsTrue (is_power_of_two n) → 0 < n
unfolding lib.Count.ones
positive_power zero power = absurd (both_ways false refl power)
positive_power (suc n) power = omega arith

pub told_valid : (resources : List PlanResource) → All IsPlannable resources → All IsValid (map resource_told resources)
told_valid resources each = All-map IsValid resource_told resources (λ k d lt.
    let r = each k d lt in
    (r.sized, positive_power (get_or resources k d).alignment r.aligned, r.lives))
