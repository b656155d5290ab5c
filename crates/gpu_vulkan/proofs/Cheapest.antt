-- The cheapest memory type, found from the first on.
use Rattle.std.proofs.Common.{◌≡◌, ◌∙◌, refl, sym, ap, subst, inl, inr, ⊎_elim, ℕ, ◌+◌, ◌<◌, ◌≤◌, Bool, true, List, Option, Some, None, arith, length, get_or}
use Rattle.std.specs.Prelude.{slice_get}
use Rattle.std.proofs.lemmas.Bool.{cases_lt}
use Rattle.std.proofs.lemmas.Option.{slice_get_within, slice_get-get_or}
use Rattle.gpu_device.specs.declared.vulkan.types.MemoryTypeInfo.{MemoryTypeInfo}
use Rattle.gpu_vulkan.specs.Choice.{serves}
use Rattle.gpu_vulkan.specs.Preference.{cost, ServesAt, ComesBefore, IsCheapestOf, IsCheapest}
use Rattle.gpu_vulkan.specs.declared.preference.Preference.{Preference}

-- what the cheapest of the first `count` costs: more than any where there is none
abbrev pub Costs : (count : ℕ) → List MemoryTypeInfo → Preference → Option ℕ → (least : ℕ) → Type 0
Costs count types p None least = 64 < least
Costs count types p (Some t) least = (t < count) × ((info : MemoryTypeInfo) → slice_get types t ≡ Some info → cost p info ≡ least)

same_info : (a b : MemoryTypeInfo) → Some a ≡ Some b → a ≡ b
same_info a b same = grind (arith, same)

module _ (types : List MemoryTypeInfo) (bits : ℕ) (p : Preference) (n : ℕ) (info : MemoryTypeInfo) (at : slice_get types n ≡ Some info) where
  -- of those up to the n-th one, each comes before it, or is it
  up_to : (P : ℕ → MemoryTypeInfo → Type 0) → ((i : ℕ) (other : MemoryTypeInfo) → i < n → ServesAt types bits p i other → P i other) → (serves bits p.required.0 n info ≡ true → P n info)
      → (i : ℕ) (other : MemoryTypeInfo) → i < n + 1 → ServesAt types bits p i other → P i other
  up_to P before here i other below s =
      elim (cases_lt i n) [
        | inl less ↦ before i other less s
        | inr from ↦
            let same : n ≡ i = omega (arith, below, from) in
            let is : info ≡ other = same_info info other (sym at ∙ ap (slice_get types) same ∙ s.there) in
            subst (λ (k : ℕ). P k other) same (subst (λ (x : MemoryTypeInfo). P n x) is (here (subst (λ (x : MemoryTypeInfo). serves bits p.required.0 n x ≡ true) (sym is)
            (subst (λ (k : ℕ). serves bits p.required.0 k other ≡ true) (sym same) s.serves))))
      ]

  beats : (found : Option ℕ) (least : ℕ) → cost p info < least → Costs n types p found least → IsCheapestOf n types bits p found → (i : ℕ) (other : MemoryTypeInfo) → i < n → ServesAt types bits p i other
      → ComesBefore p n info i other
  beats None least less costs h i other below s = absurd (h i other below s)
  beats (Some t) least less costs h i other below s =
      let same : cost p h.0 ≡ least = costs.1 h.0 h.1.there in
      ⊎_elim (λ (lt : cost p h.0 < cost p other). inl (omega (arith, lt, same, less))) (λ (eq : (cost p h.0 ≡ cost p other) × (t ≤ i)). inl (omega (arith, eq.0, same, less))) (h.2 i other below s)

  -- it is the cheapest so far
  pub taken : (found : Option ℕ) (least : ℕ) → Costs n types p found least → IsCheapestOf n types bits p found → serves bits p.required.0 n info ≡ true → cost p info < least
      → IsCheapestOf (n + 1) types bits p (Some n) × Costs (n + 1) types p (Some n) (cost p info)
  taken found least costs h serves less = (
    (info, record { there = at; serves = serves }, up_to (λ i other. ComesBefore p n info i other) (beats found least less costs h) (λ _. inr (refl, omega arith))),
    (omega arith, λ other is. ap (cost p) (same_info other info (sym is ∙ at))),
  )

  -- another one stays the cheapest
  pub passed : (found : Option ℕ) (least : ℕ) → Costs n types p found least → IsCheapestOf n types bits p found → cost p info ≤ 64 → (serves bits p.required.0 n info ≡ true → least ≤ cost p info)
      → IsCheapestOf (n + 1) types bits p found × Costs (n + 1) types p found least
  passed None least costs h most dear = (
    λ i other below s. up_to (λ i other. ⊥) h (λ serves. let from = dear serves in absurd (omega (arith, from, costs, most))) i other below s,
    costs,
  )
  passed (Some t) least costs h most dear =
      let same : cost p h.0 ≡ least = costs.1 h.0 h.1.there in (
        (
          h.0,
          h.1,
          up_to (λ i other. ComesBefore p t h.0 i other) h.2 (λ serves.
              let from = dear serves in
              elim (cases_lt (cost p h.0) (cost p info)) [
                | inl less ↦ inl less
                | inr up ↦ inr (omega (arith, up, from, same), omega (arith, costs.0))
              ]),
        ),
        (omega (arith, costs.0), costs.1),
      )

-- the cheapest of all memory types is the cheapest
pub of_all : (types : List MemoryTypeInfo) (bits : ℕ) (p : Preference) (found : Option ℕ) (n : ℕ) → length types ≤ n → IsCheapestOf n types bits p found → IsCheapest types bits p found
of_all types bits p None n long h = λ count i info below s. h i info (let in_it = slice_get_within types i info s.there in omega (arith, in_it, long)) s
of_all types bits p (Some t) n long h = λ count. (h.0, h.1, λ i info below s. h.2 i info (let in_it = slice_get_within types i info s.there in omega (arith, in_it, long)) s)

-- ---- a turn of the loop: the memory type at `i` is taken, or passed

module _ (types : List MemoryTypeInfo) (bits : ℕ) (p : Preference) (n i : ℕ) (same : i ≡ n) (d : MemoryTypeInfo) (below : n < length types) (found : Option ℕ) (least : ℕ) (costs : Costs n types p found least)
    (h : IsCheapestOf n types bits p found) (price : ℕ) (priced : price ≡ cost p (get_or types n d)) (serving : Bool) (tells : serving ≡ serves bits p.required.0 i (get_or types n d)) where
  at : slice_get types n ≡ Some (get_or types n d)
  at = slice_get-get_or types n d below

  tells_true : serving ≡ true → serves bits p.required.0 n (get_or types n d) ≡ true
  tells_true is = subst (λ (k : ℕ). serves bits p.required.0 k (get_or types n d) ≡ true) same (sym tells ∙ is)

  pub turn_taken : serving ≡ true → price < least → (next : Option ℕ) (less : ℕ) → next ≡ Some i → less ≡ price → IsCheapestOf (n + 1) types bits p next × Costs (n + 1) types p next less
  turn_taken is lt next less next_is less_is =
      let end = taken types bits p n (get_or types n d) at found least costs h (tells_true is) (subst (λ (x : ℕ). x < least) priced lt) in
      subst (λ (o : Option ℕ). IsCheapestOf (n + 1) types bits p o × Costs (n + 1) types p o less) (sym (next_is ∙ ap (λ (k : ℕ). Some k) same))
      (subst (λ (x : ℕ). IsCheapestOf (n + 1) types bits p (Some n) × Costs (n + 1) types p (Some n) x) (sym (less_is ∙ priced)) end)

  pub turn_passed : price ≤ 64 → (serving ≡ true → least ≤ price) → (next : Option ℕ) (less : ℕ) → next ≡ found → less ≡ least → IsCheapestOf (n + 1) types bits p next × Costs (n + 1) types p next less
  turn_passed most dear next less next_is less_is =
      let end = passed types bits p n (get_or types n d) at found least costs h (subst (λ (x : ℕ). x ≤ 64) priced most)
      (λ is. subst (λ (x : ℕ). least ≤ x) priced (dear (tells ∙ subst (λ (k : ℕ). serves bits p.required.0 k (get_or types n d) ≡ true) (sym same) is))) in
      subst (λ (o : Option ℕ). IsCheapestOf (n + 1) types bits p o × Costs (n + 1) types p o less) (sym next_is)
      (subst (λ (x : ℕ). IsCheapestOf (n + 1) types bits p found × Costs (n + 1) types p found x) (sym less_is) end)
