use Rattle.std.proofs.Common.{◌≡◌, ◌+◌, ◌<◌, true, length, arith}
use Rattle.gpu_vulkan.specs.Preference.{IsCheapestOf}
use Rattle.gpu_vulkan.proofs.Cheapest.{Costs, of_all, turn_taken, turn_passed}
use Rattle.gpu_vulkan.proofs.preference.cheapest_type.Goals.{then-serves+then-cost-least, else-serves, else-serves-via-then-serves+else-cost-least, else-serves-via-else-serves}
use Rattle.gpu_vulkan.proofs.preference.cheapest_type.Goals as goal

pub loop-info-preserved : goal.loop-info-preserved
loop-info-preserved c =
    let i = c.loop-info.invariant in
    let below : c.loop-info.info-index < length c.args.types.now = omega (arith, c.loop-info-test.true) in
    let taken = turn_taken c.args.types.now c.args.bits c.args.preference.now c.loop-info.info-index c.loop-info.index i.at _ below c.loop-info.cheapest c.loop-info.least i.least i.cheapest c.cost-cost.result
    c.cost-cost.ensures.costs c.serves.result c.serves.ensures in
    let passed = turn_passed c.args.types.now c.args.bits c.args.preference.now c.loop-info.info-index c.loop-info.index i.at _ below c.loop-info.cheapest c.loop-info.least i.least i.cheapest c.cost-cost.result
    c.cost-cost.ensures.costs c.serves.result c.serves.ensures c.cost-cost.ensures.most in
    let both : IsCheapestOf (c.loop-info.info-index + 1) c.args.types.now c.args.bits c.args.preference.now c.if-serves.cheapest
    × Costs (c.loop-info.info-index + 1) c.args.types.now c.args.preference.now c.if-serves.cheapest c.if-serves.least = elim c.if-serves.branch [
      | then-serves+then-cost-least w ↦ taken w.if-serves.true w.if-cost-least.true _ _ w.cheapest-is w.least-is
      | else-serves w ↦ elim w.else-serves.branch [
        | else-serves-via-then-serves+else-cost-least w' ↦ passed (λ _. w'.if-cost-least.false) _ _ w.cheapest-is w.least-is
        | else-serves-via-else-serves w' ↦ passed (λ (is : c.serves.result ≡ true). absurd (grind (arith, w'.if-serves.false, is))) _ _ w.cheapest-is w.least-is
      ]
    ] in
    record { at = omega (arith, i.at); cheapest = both.0; least = both.1 }

pub returns-clause-cheapest : goal.returns-clause-cheapest
returns-clause-cheapest c = of_all c.args.types.now c.args.bits c.args.preference.now c.loop-info.cheapest c.loop-info.info-index (omega (arith, c.loop-info-test.false)) c.loop-info.invariant.cheapest
