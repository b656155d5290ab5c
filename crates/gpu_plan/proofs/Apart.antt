-- Resources of a plan, by index: aligned, and no two meet.
use Rattle.std.proofs.Common.{◌≡◌, ◌∙◌, sym, ap, subst, ℕ, ◌%◌, inl, inr, List, length, get_or, map, arith}
use Rattle.std.proofs.lemmas.Bool.{cases_order}
use Rattle.std.proofs.lemmas.List.{length-map}
use Rattle.gpu_plan.specs.declared.resource.Resource.{Resource}
use Rattle.gpu_plan.specs.declared.resource.Placed.{Placed}
use Rattle.gpu_plan.specs.declared.order.Order.{Order}
use Rattle.gpu_plan.specs.Plan.{resource_at, Meets, AreApart}
use Rattle.gpu_plan.specs.OrderPlan.{placed_at, IsPlanBy}
use Rattle.gpu_plan.specs.Best.{AreAligned, NoneMeet}
use Rattle.gpu_plan.proofs.Planning.{plan_apart}
use Rattle.gpu_plan.proofs.OnePlan.{nothing, position, at_position}

meets_back : (page : ℕ) (p q : Placed) → Meets page p.resource p.offset q → Meets page q.resource q.offset p
meets_back page p q m = (
  (m.0.1, m.0.0),
  elim m.1 [
    | inl bytes ↦ inl (bytes.1, bytes.0)
    | inr pages ↦ inr (λ e. pages.0 (sym e), (pages.1.1, pages.1.0))
  ],
)

pub plan_aligned : (page : ℕ) (order : Order) (resources : List Resource) (offsets : List ℕ) → IsPlanBy page order resources offsets → AreAligned resources offsets
plan_aligned page order resources offsets plan i lt =
    let k = position (length resources) plan.indices i plan.ordered.permutation lt in
    let long = length-map plan.indices (placed_at resources offsets) in
    let here = k.1 in
    let p : Placed = get_or (map (placed_at resources offsets) plan.indices) k.0 nothing in
    let aligned : p.offset % p.resource.alignment ≡ 0 = (plan.planned.least k.0 nothing (omega arith)).free.aligned in
    let is : p ≡ placed_at resources offsets (get_or plan.indices k.0 0) = at_position resources offsets plan.indices k.0 nothing k.1 in
    let moved = subst (λ (q : Placed). q.offset % q.resource.alignment ≡ 0) is aligned in
    subst (λ (j : ℕ). (placed_at resources offsets j).offset % (placed_at resources offsets j).resource.alignment ≡ 0) k.2 moved

pub none_meet : (page : ℕ) (order : Order) (resources : List Resource) (offsets : List ℕ) → IsPlanBy page order resources offsets → NoneMeet page resources offsets
none_meet page order resources offsets plan i j i_lt j_lt differ meets =
    let n : ℕ = length resources in
    let placed : List Placed = map (placed_at resources offsets) plan.indices in
    let apart : AreApart page placed = plan_apart page (map (resource_at resources) plan.indices) placed plan.planned in
    let long : length placed ≡ length plan.indices = length-map plan.indices (placed_at resources offsets) in
    let a = position n plan.indices i plan.ordered.permutation i_lt in
    let b = position n plan.indices j plan.ordered.permutation j_lt in
    let a_lt = a.1 in
    let b_lt = b.1 in
    let at_a : get_or placed a.0 nothing ≡ placed_at resources offsets i = at_position resources offsets plan.indices a.0 nothing a.1 ∙ ap (placed_at resources offsets) a.2 in
    let at_b : get_or placed b.0 nothing ≡ placed_at resources offsets j = at_position resources offsets plan.indices b.0 nothing b.1 ∙ ap (placed_at resources offsets) b.2 in
    let first : Meets page (get_or placed a.0 nothing).resource (get_or placed a.0 nothing).offset (placed_at resources offsets j) =
    subst (λ (p : Placed). Meets page p.resource p.offset (placed_at resources offsets j)) (sym at_a) meets in
    let both : Meets page (get_or placed a.0 nothing).resource (get_or placed a.0 nothing).offset (get_or placed b.0 nothing) =
    subst (λ (q : Placed). Meets page (get_or placed a.0 nothing).resource (get_or placed a.0 nothing).offset q) (sym at_b) first in
    elim (cases_order a.0 b.0) [
      | inl same ↦ differ (sym a.2 ∙ (ap (λ (k : ℕ). get_or plan.indices k 0) same ∙ b.2))
      | inr other ↦ elim other [
        | inl before ↦ apart a.0 b.0 nothing before (omega arith) (meets_back page (get_or placed a.0 nothing) (get_or placed b.0 nothing) both)
        | inr after ↦ apart b.0 a.0 nothing after (omega arith) both
      ]
    ]
