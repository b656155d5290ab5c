-- The best of the orders, one by one.
use Rattle.std.proofs.Common.{◌≡◌, ◌∙◌, refl, sym, ap, subst, ℕ, zero, suc, ◌+◌, ◌^◌, ◌<◌, ◌≤◌, inl, inr, List, [], ◌∷◌, get_or, Option, Some, None, arith}
use Rattle.std.specs.Prelude.{IfSome, IfNone, MatchOption}
use Rattle.std.proofs.lemmas.Bool.{cases_lt, cases_order}
use Rattle.gpu_plan.specs.declared.resource.Resource.{Resource}
use Rattle.gpu_plan.specs.declared.order.Order.{Order}
use Rattle.gpu_plan.specs.declared.order.Order.TheVariants.{Size, Area, Alignment, Magnitude, Breadth}
use Rattle.gpu_plan.specs.declared.order_plan.OrderPlan.{OrderPlan}
use Rattle.gpu_plan.specs.OrderPlan.{IsPlanBy, IsHeap, IsBetter}
use Rattle.gpu_plan.specs.Best.{number_of, IsBestOf, NoneFits}
use Rattle.gpu_plan.proofs.OnePlan.{offsets_one, heap_le}

order_at : ℕ → Order
order_at zero = Size
order_at (suc zero) = Area
order_at (suc (suc zero)) = Alignment
order_at (suc (suc (suc zero))) = Magnitude
order_at (suc (suc (suc (suc n)))) = Breadth

at_number : (order : Order) → order_at (number_of order) ≡ order
unfolding order_at
at_number Size = refl
at_number Area = refl
at_number Alignment = refl
at_number Magnitude = refl
at_number Breadth = refl

pub number_one : (a b : Order) → number_of a ≡ number_of b → a ≡ b
number_one a b e = sym (at_number a) ∙ (ap order_at e ∙ at_number b)

pub number_below : (order : Order) → number_of order < 5
number_below Size = omega arith
number_below Area = omega arith
number_below Alignment = omega arith
number_below Magnitude = omega arith
number_below Breadth = omega arith

-- the best of the first orders, if one fits
abbrev pub BestSoFar : (page : ℕ) → List Resource → (orders : ℕ) → Option OrderPlan → Type 0
BestSoFar page resources k None = NoneFits page resources k
BestSoFar page resources k (Some p) = IsBestOf page resources k p.order p.offsets.items p.heap × (p.heap < 2 ^ 64)

-- what the plan of one order is
abbrev pub FoundBy : (page : ℕ) → List Resource → Order → Option OrderPlan → Type 0
FoundBy page resources order None = (offsets : List ℕ) (heap : ℕ) → IsPlanBy page order resources offsets → IsHeap resources offsets heap → 2 ^ 64 ≤ heap
FoundBy page resources order (Some p) = (p.order ≡ order) × IsPlanBy page order resources p.offsets.items × IsHeap resources p.offsets.items p.heap × (p.heap < 2 ^ 64)

-- two heaps of one order are as large
same_heap : (page : ℕ) (order : Order) (resources : List Resource) (xs ys : List ℕ) (h g : ℕ) → IsPlanBy page order resources xs → IsPlanBy page order resources ys → IsHeap resources xs h → IsHeap resources ys g → h ≤ g
same_heap page order resources xs ys h g a b hx hy =
    heap_le resources ys h g (subst (λ (l : List ℕ). IsHeap resources l h) (offsets_one page order resources xs ys a b) hx) hy

module _ (page : ℕ) (resources : List Resource) (k : ℕ) (order : Order) (numbered : number_of order ≡ k) where
  none_more : NoneFits page resources k → FoundBy page resources order None → NoneFits page resources (k + 1)
  none_more before large other offsets heap lt plan heaped = elim (cases_lt (number_of other) k) [
    | inl less ↦ before other offsets heap less plan heaped
    | inr high ↦
        let one : other ≡ order = number_one other order (omega arith) in
        large offsets heap (subst (λ (o : Order). IsPlanBy page o resources offsets) one plan) heaped
  ]

  first_one : (p : OrderPlan) → NoneFits page resources k → FoundBy page resources order (Some p) → IsBestOf page resources (k + 1) p.order p.offsets.items p.heap
  first_one p before found =
      let name : number_of p.order ≡ k = ap number_of found.0 ∙ numbered in
      let fits = found.3 in
      record {
        among = omega arith;
        planned = subst (λ (o : Order). IsPlanBy page o resources p.offsets.items) (sym found.0) found.1;
        heap_is = found.2;
        smallest = λ other at size lt plan heaped. elim (cases_lt (number_of other) k) [
          | inl less ↦ let large = before other at size less plan heaped in omega arith
          | inr high ↦
              let one : other ≡ order = number_one other order (omega arith) in
              same_heap page order resources p.offsets.items at p.heap size found.1 (subst (λ (o : Order). IsPlanBy page o resources at) one plan) found.2 heaped
        ];
        first = λ other at size lt plan heaped. let large = before other at size (omega arith) plan heaped in omega arith;
      }

  smaller_one : (b p : OrderPlan) → IsBestOf page resources k b.order b.offsets.items b.heap → FoundBy page resources order (Some p) → p.heap < b.heap → IsBestOf page resources (k + 1) p.order p.offsets.items p.heap
  smaller_one b p best found less =
      let name : number_of p.order ≡ k = ap number_of found.0 ∙ numbered in
      record {
        among = omega arith;
        planned = subst (λ (o : Order). IsPlanBy page o resources p.offsets.items) (sym found.0) found.1;
        heap_is = found.2;
        smallest = λ other at size lt plan heaped. elim (cases_lt (number_of other) k) [
          | inl low ↦ let more = best.smallest other at size low plan heaped in omega arith
          | inr high ↦
              let one : other ≡ order = number_one other order (omega arith) in
              same_heap page order resources p.offsets.items at p.heap size found.1 (subst (λ (o : Order). IsPlanBy page o resources at) one plan) found.2 heaped
        ];
        first = λ other at size lt plan heaped. let more = best.smallest other at size (omega arith) plan heaped in omega arith;
      }

  -- the best one stays where the heap of this order isn't smaller
  stays : (b : OrderPlan) → IsBestOf page resources k b.order b.offsets.items b.heap → ((at : List ℕ) (size : ℕ) → IsPlanBy page order resources at → IsHeap resources at size → b.heap ≤ size) → IsBestOf page resources (k + 1) b.order b.offsets.items b.heap
  stays b best more =
      let among = best.among in
      record {
        among = omega arith;
        planned = best.planned;
        heap_is = best.heap_is;
        smallest = λ other at size lt plan heaped. elim (cases_lt (number_of other) k) [
          | inl low ↦ best.smallest other at size low plan heaped
          | inr high ↦
              let one : other ≡ order = number_one other order (omega arith) in
              more at size (subst (λ (o : Order). IsPlanBy page o resources at) one plan) heaped
        ];
        first = best.first;
      }

  pub best_more : (best found next : Option OrderPlan) → BestSoFar page resources k best → FoundBy page resources order found → IsBetter best found next → BestSoFar page resources (k + 1) next
  best_more None None next before found better = subst (λ (o : Option OrderPlan). BestSoFar page resources (k + 1) o) (sym better) (none_more before found)
  best_more None (Some p) next before found better = subst (λ (o : Option OrderPlan). BestSoFar page resources (k + 1) o) (sym better) (first_one p before found, found.3)
  best_more (Some b) None next before found better =
      let fits = before.1 in
      subst (λ (o : Option OrderPlan). BestSoFar page resources (k + 1) o) (sym better) (stays b before.0 (λ at size plan heaped. let large = found at size plan heaped in omega arith), before.1)
  best_more (Some b) (Some p) next before found better = elim better [
    | inl old ↦
        let le = old.1 in
        let kept = stays b before.0 (λ at size plan heaped. let same = same_heap page order resources p.offsets.items at p.heap size found.1 plan found.2 heaped in omega arith) in
        subst (λ (o : Option OrderPlan). BestSoFar page resources (k + 1) o) (sym old.0) (kept, before.1)
    | inr new ↦ subst (λ (o : Option OrderPlan). BestSoFar page resources (k + 1) o) (sym new.0) (smaller_one b p before.0 found new.1, found.3)
  ]

-- what the clauses say of a plan that was looked for
pub found_by : (page : ℕ) (resources : List Resource) (order : Order) (found : Option OrderPlan) → IfSome found (λ p. p.order ≡ order) → IfSome found (λ p. IsPlanBy page order resources p.offsets.items)
    → IfSome found (λ p. IsHeap resources p.offsets.items p.heap) → IfSome found (λ p. p.heap < 2 ^ 64)
    → IfNone found ((offsets : List ℕ) (heap : ℕ) → IsPlanBy page order resources offsets → IsHeap resources offsets heap → 2 ^ 64 ≤ heap) → FoundBy page resources order found
found_by page resources order None name plan heap fits large = large
found_by page resources order (Some p) name plan heap fits large = (name, plan, heap, fits)

-- the orders stand by their numbers
pub all_numbered : (k : ℕ) (d : Order) → k < 5 → number_of (get_or (Size ∷ Area ∷ Alignment ∷ Magnitude ∷ Breadth ∷ []) k d) ≡ k
all_numbered zero d lt = refl
all_numbered (suc zero) d lt = refl
all_numbered (suc (suc zero)) d lt = refl
all_numbered (suc (suc (suc zero))) d lt = refl
all_numbered (suc (suc (suc (suc zero)))) d lt = refl
all_numbered (suc (suc (suc (suc (suc k))))) d lt = absurd (omega arith)

pub best_all : (page : ℕ) (resources : List Resource) (k : ℕ) (best : Option OrderPlan) → k ≡ 5 → BestSoFar page resources k best
    → MatchOption best (NoneFits page resources 5) (λ p. IsBestOf page resources 5 p.order p.offsets.items p.heap × (p.heap < 2 ^ 64))
best_all page resources k None all before = subst (λ (n : ℕ). NoneFits page resources n) all before
best_all page resources k (Some p) all before = (subst (λ (n : ℕ). IsBestOf page resources n p.order p.offsets.items p.heap) all before.0, before.1)

pub best_one : (page : ℕ) (resources : List Resource) (orders : ℕ) (a b : Order) (xs ys : List ℕ) (h g : ℕ) → IsBestOf page resources orders a xs h → IsBestOf page resources orders b ys g → (a ≡ b) × (xs ≡ ys) × (h ≡ g)
best_one page resources orders a b xs ys h g x y =
    let below = x.smallest b ys g y.among y.planned y.heap_is in
    let above = y.smallest a xs h x.among x.planned x.heap_is in
    let number : number_of a ≡ number_of b = elim (cases_order (number_of a) (number_of b)) [
      | inl same ↦ same
      | inr differ ↦ elim differ [
        | inl before ↦ let less = y.first a xs h before x.planned x.heap_is in absurd (omega arith)
        | inr after ↦ let less = x.first b ys g after y.planned y.heap_is in absurd (omega arith)
      ]
    ] in
    let one : a ≡ b = number_one a b number in
    (one, offsets_one page b resources xs ys (subst (λ (o : Order). IsPlanBy page o resources xs) one x.planned) y.planned, omega arith)
