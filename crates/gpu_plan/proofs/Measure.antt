-- Pieces that share no byte have no more bytes, together, than the heap that they lie in.
use Rattle.std.proofs.Common.{◌≡◌, ◌∙◌, refl, sym, ap, subst, ℕ, zero, suc, ◌+◌, ◌-◌, ◌<◌, ◌≤◌, inl, inr, ◌⊎◌, if◌then◌else◌, true, false, List, [], ◌∷◌, length, get_or, map, arith}
use Rattle.std.specs.Prelude.{All, sum_by}
use Rattle.std.specs.List.{range_with_len, AllByRecursion}
use Rattle.std.proofs.lemmas.Bool.{cases_lt, cases_Bool, both_ways}
use Rattle.std.proofs.lemmas.List.{length-map, get_or-map, get_or_default, same_lists}
use Rattle.std.proofs.lemmas.List.Elements.{recursion_from_All, All-head, All-tail}
use Rattle.std.proofs.lemmas.List.FromFn.{length-range_with_len, get_or-range_with_len}
use Rattle.std.proofs.lemmas.List.Sums.{sum_by-cons}
use Rattle.gpu_plan.specs.declared.resource.Resource.{Resource}
use Rattle.gpu_plan.specs.declared.resource.Placed.{Placed}
use Rattle.gpu_plan.specs.Plan.{no_resource, resource_at, ShareByte}
use Rattle.gpu_plan.specs.Passes.{is_alive, bytes_alive, IsPeak}
use Rattle.gpu_plan.specs.OrderPlan.{placed_at, IsHeap}
use Rattle.gpu_plan.specs.Best.{NoneMeet}
use Rattle.gpu_plan.proofs.Alive.{adds, adds_alive, adds_none, alive_from}
use Rattle.gpu_plan.proofs.OnePlan.{nothing, resource_in}

-- the bytes of a piece below a place
abbrev below : (h : ℕ) → Placed → ℕ
below h p = (h - p.offset) - (h - (p.offset + p.resource.size))

module _ (pass : ℕ) where
  -- the same of those that are alive in a pass, and 0 for others
  abbrev counts : (h : ℕ) → Placed → ℕ
  counts h p = if is_alive pass p.resource then below h p else 0

  counts_alive : (h : ℕ) (p : Placed) → is_alive pass p.resource ≡ true → counts h p ≡ below h p
  counts_alive h p e = rw e refl

  counts_none : (h : ℕ) (p : Placed) → is_alive pass p.resource ≡ false → counts h p ≡ 0
  counts_none h p e = rw e refl

  -- the piece is alive and has the byte at h
  pub record Has (h : ℕ) (p : Placed) : Type 0 where
    pub alive : is_alive pass p.resource ≡ true
    pub from : p.offset ≤ h
    pub to : h < p.offset + p.resource.size

  has_cases : (h : ℕ) (p : Placed) → Has h p ⊎ (Has h p → ⊥)
  has_cases h p = elim (cases_Bool (is_alive pass p.resource)) [
    | inr dead ↦ inr (λ x. both_ways (is_alive pass p.resource) dead x.alive)
    | inl alive ↦ elim (cases_lt h p.offset) [
      | inl before ↦ inr (λ x. let f = x.from in absurd (omega arith))
      | inr from ↦ elim (cases_lt h (p.offset + p.resource.size)) [
        | inl to ↦ inl (record { alive = alive; from = from; to = to })
        | inr past ↦ inr (λ x. let t = x.to in absurd (omega arith))
      ]
    ]
  ]

  step_has : (h : ℕ) (p : Placed) → Has h p → counts (h + 1) p ≡ counts h p + 1
  step_has h p x =
      let a = counts_alive (h + 1) p x.alive in
      let b = counts_alive h p x.alive in
      let f = x.from in
      let t = x.to in
      omega (arith, a, b, f, t)

  step_not : (h : ℕ) (p : Placed) → (Has h p → ⊥) → counts (h + 1) p ≡ counts h p
  step_not h p not = elim (cases_Bool (is_alive pass p.resource)) [
    | inr dead ↦ counts_none (h + 1) p dead ∙ sym (counts_none h p dead)
    | inl alive ↦
        let a = counts_alive (h + 1) p alive in
        let b = counts_alive h p alive in
        elim (cases_lt h p.offset) [
          | inl before ↦ omega (arith, a, b, before)
          | inr from ↦ elim (cases_lt h (p.offset + p.resource.size)) [
            | inl to ↦ absurd (not (record { alive = alive; from = from; to = to }))
            | inr past ↦ omega (arith, a, b, past)
          ]
        ]
  ]

  -- of two that are alive none has a byte of the other
  abbrev pub Apart : Placed → Placed → Type 0
  Apart p q = is_alive pass p.resource ≡ true → is_alive pass q.resource ≡ true → ShareByte p.offset p.resource.size q.offset q.resource.size → ⊥

  abbrev pub AllApart : List Placed → Type 0
  AllApart [] = Unit {0}
  AllApart (p ∷ ps) = AllByRecursion (Apart p) ps × AllApart ps

  none_has : (h : ℕ) (p : Placed) (ps : List Placed) → Has h p → AllByRecursion (Apart p) ps → sum_by (counts (h + 1)) ps ≡ sum_by (counts h) ps
  none_has h p [] x apart = refl
  none_has h p (q ∷ qs) x apart =
      let rest = none_has h p qs x apart.1 in
      let a = sum_by-cons (counts (h + 1)) q qs in
      let b = sum_by-cons (counts h) q qs in
      let not : Has h q → ⊥ = λ y. apart.0 x.alive y.alive (let xf = x.from in let xt = x.to in let yf = y.from in let yt = y.to in (omega arith, omega arith)) in
      let e = step_not h q not in
      omega (arith, rest, a, b, e)

  one_more : (h : ℕ) (ps : List Placed) → AllApart ps → sum_by (counts (h + 1)) ps ≤ sum_by (counts h) ps + 1
  one_more h [] apart = omega arith
  one_more h (p ∷ ps) apart =
      let a = sum_by-cons (counts (h + 1)) p ps in
      let b = sum_by-cons (counts h) p ps in
      elim (has_cases h p) [
        | inl has ↦ let e = step_has h p has in let rest = none_has h p ps has apart.0 in omega (arith, a, b, e, rest)
        | inr not ↦ let e = step_not h p not in let rest = one_more h ps apart.1 in omega (arith, a, b, e, rest)
      ]

  nothing_below : (ps : List Placed) → sum_by (counts 0) ps ≡ 0
  nothing_below [] = refl
  nothing_below (p ∷ ps) =
      let a = sum_by-cons (counts 0) p ps in
      let rest = nothing_below ps in
      elim (cases_Bool (is_alive pass p.resource)) [
        | inl alive ↦ let e = counts_alive 0 p alive in omega (arith, a, rest, e)
        | inr dead ↦ let e = counts_none 0 p dead in omega (arith, a, rest, e)
      ]

  total_below : (h : ℕ) (ps : List Placed) → AllApart ps → sum_by (counts h) ps ≤ h
  total_below zero ps apart = let e = nothing_below ps in omega (arith, e)
  total_below (suc h) ps apart =
      let rest = total_below h ps apart in
      let more = one_more h ps apart in
      let same : sum_by (counts (suc h)) ps ≡ sum_by (counts (h + 1)) ps = let e : suc h ≡ h + 1 = omega arith in ap (λ (n : ℕ). sum_by (counts n) ps) e in
      omega (arith, rest, more, same)

  whole : (h : ℕ) (ps : List Placed) → All (λ p. p.offset + p.resource.size ≤ h) ps → sum_by (counts h) ps ≡ bytes_alive (map resource_in ps) pass
  whole h [] within = refl
  whole h (p ∷ ps) within =
      let rest = whole h ps (All-tail (λ p. p.offset + p.resource.size ≤ h) p ps within) in
      let here = All-head (λ p. p.offset + p.resource.size ≤ h) p ps within in
      let a = sum_by-cons (counts h) p ps in
      let b = sum_by-cons (adds pass) p.resource (map resource_in ps) in
      elim (cases_Bool (is_alive pass p.resource)) [
        | inl alive ↦ let e = counts_alive h p alive in let f = adds_alive pass p.resource alive in omega (arith, a, b, rest, here, e, f)
        | inr dead ↦ let e = counts_none h p dead in let f = adds_none pass p.resource dead in omega (arith, a, b, rest, e, f)
      ]

  all_apart : (ps : List Placed) → ((i j : ℕ) → i < j → j < length ps → Apart (get_or ps i nothing) (get_or ps j nothing)) → AllApart ps
  all_apart [] h = tt
  all_apart (p ∷ ps) h = (
    recursion_from_All (Apart p) ps (λ k d lt.
        let first : Apart p (get_or (p ∷ ps) (suc k) nothing) = h 0 (suc k) (omega arith) (omega arith) in
        subst (λ (q : Placed). Apart p q) (get_or_default ps k nothing d lt) first),
    all_apart ps (λ i j lt in_list. h (suc i) (suc j) (omega arith) (omega arith)),
  )

-- ---- of a plan

-- the resources, by their indices
by_index : (resources : List Resource) (offsets : List ℕ) → map resource_in (map (placed_at resources offsets) (range_with_len 0 (length resources))) ≡ resources
by_index resources offsets =
    let n : ℕ = length resources in
    let placed : List Placed = map (placed_at resources offsets) (range_with_len 0 n) in
    let long : length placed ≡ length (range_with_len 0 n) = length-map (range_with_len 0 n) (placed_at resources offsets) in
    let count = length-range_with_len 0 n in
    let all = length-map placed resource_in in
    same_lists (map resource_in placed) resources (omega arith) (λ k d lt.
    let here : k < n = omega arith in
    let a : get_or (map resource_in placed) k d ≡ resource_in (get_or placed k nothing) = get_or-map resource_in placed k nothing d (omega arith) in
    let b : get_or placed k nothing ≡ placed_at resources offsets (get_or (range_with_len 0 n) k 0) = get_or-map (placed_at resources offsets) (range_with_len 0 n) k 0 nothing (omega arith) in
    let i : get_or (range_with_len 0 n) k 0 ≡ k = get_or-range_with_len 0 n k 0 here ∙ omega arith in
    let c : get_or placed k nothing ≡ placed_at resources offsets k = b ∙ ap (placed_at resources offsets) i in
    a ∙ (ap resource_in c ∙ get_or_default resources k no_resource d here))

pub alive_within : (page : ℕ) (resources : List Resource) (offsets : List ℕ) (heap : ℕ) → NoneMeet page resources offsets → IsHeap resources offsets heap → (pass : ℕ) → bytes_alive resources pass ≤ heap
alive_within page resources offsets heap apart heaped pass =
    let n : ℕ = length resources in
    let placed : List Placed = map (placed_at resources offsets) (range_with_len 0 n) in
    let long : length placed ≡ length (range_with_len 0 n) = length-map (range_with_len 0 n) (placed_at resources offsets) in
    let count = length-range_with_len 0 n in
    let at : (k : ℕ) (d : Placed) → k < n → get_or placed k d ≡ placed_at resources offsets k = λ k d lt.
    let i : get_or (range_with_len 0 n) k 0 ≡ k = get_or-range_with_len 0 n k 0 lt ∙ omega arith in
    get_or-map (placed_at resources offsets) (range_with_len 0 n) k 0 d (omega arith) ∙ ap (placed_at resources offsets) i in
    let within : All (λ p. p.offset + p.resource.size ≤ heap) placed = λ k d lt.
    let here : k < n = omega arith in
    subst (λ (p : Placed). p.offset + p.resource.size ≤ heap) (sym (at k d here)) (heaped.within k here) in
    let each : (i j : ℕ) → i < j → j < length placed → Apart pass (get_or placed i nothing) (get_or placed j nothing) = λ i j lt in_list.
    let i_lt : i < n = omega arith in
    let j_lt : j < n = omega arith in
    let both : Apart pass (placed_at resources offsets i) (placed_at resources offsets j) = λ a b share.
    let x = alive_from pass (resource_at resources i) a in
    let y = alive_from pass (resource_at resources j) b in
    apart i j i_lt j_lt (λ e. absurd (omega arith)) ((omega arith, omega arith), inl share) in
    let moved : Apart pass (get_or placed i nothing) (placed_at resources offsets j) = subst (λ (p : Placed). Apart pass p (placed_at resources offsets j)) (sym (at i nothing i_lt)) both in
    subst (λ (q : Placed). Apart pass (get_or placed i nothing) q) (sym (at j nothing j_lt)) moved in
    let total = total_below pass heap placed (all_apart pass placed each) in
    let bytes : sum_by (counts pass heap) placed ≡ bytes_alive resources pass = whole pass heap placed within ∙ ap (λ (l : List Resource). bytes_alive l pass) (by_index resources offsets) in
    omega (arith, total, bytes)

pub peak_within : (page : ℕ) (resources : List Resource) (offsets : List ℕ) (heap peak : ℕ) → NoneMeet page resources offsets → IsHeap resources offsets heap → IsPeak resources peak → peak ≤ heap
peak_within page resources offsets heap peak apart heaped is =
    let bytes = alive_within page resources offsets heap apart heaped is.pass in
    let e = is.met in
    omega arith
