-- The plan of an order is one: its placed resources, its offsets and its heap.
use Rattle.std.proofs.Common.{◌≡◌, ◌∙◌, refl, sym, ap, subst, ℕ, zero, suc, ◌+◌, ◌^◌, ◌<◌, ◌≤◌, inl, inr, List, [], ◌∷◌, ◌++◌, length, get_or, take, map, arith}
use Rattle.std.specs.Prelude.{All}
use Rattle.std.specs.List.{range_with_len}
use Rattle.std.specs.List.Sorted.{IsPermutation}
use Rattle.std.proofs.Math.ListN.{get_or-append}
use Rattle.std.proofs.Math.Seq.{get_or-append_seam}
use Rattle.std.proofs.lemmas.Grind.{same_number_lists}
use Rattle.std.proofs.lemmas.List.{length-map, length-append, get_or-map, get_or_default, take_more, take_all, same_lists}
use Rattle.std.proofs.lemmas.List.FromFn.{length-range_with_len, get_or-range_with_len}
use Rattle.std.proofs.lemmas.List.Sorted.{Contains-permutation}
use Rattle.gpu_plan.specs.declared.resource.Resource.{Resource}
use Rattle.gpu_plan.specs.declared.resource.Placed.{Placed}
use Rattle.gpu_plan.specs.declared.order.Order.{Order}
use Rattle.gpu_plan.specs.Plan.{no_resource, resource_at, IsLeast, IsPlan, IsRefused, IsSound, IsValid}
use Rattle.gpu_plan.specs.Order.{IsOrder}
use Rattle.gpu_plan.specs.OrderPlan.{placed_at, end_at, IsPlanBy, IsHeap}
use Rattle.gpu_plan.proofs.Ordering.{indices_below}
use Rattle.gpu_plan.proofs.OneOrder.{order_one}

abbrev pub nothing : Placed
nothing = record { resource = no_resource; offset = 0 }

placed_same : (p q : Placed) → p.resource ≡ q.resource → p.offset ≡ q.offset → p ≡ q
placed_same p q r o =
    let with_resource : Resource → Placed = λ x. record { resource = x; offset = p.offset } in
    let with_offset : ℕ → Placed = λ x. record { resource = q.resource; offset = x } in
    ap with_resource r ∙ ap with_offset o

least_one : (page : ℕ) (placed : List Placed) (r : Resource) (o q : ℕ) → IsLeast page placed r o → IsLeast page placed r q → o ≡ q
least_one page placed r o q a b =
    let below = a.least q b.free in
    let above = b.least o a.free in
    omega arith

-- each lies at the least offset after those before it
pub record Follows (page : ℕ) (placed : List Placed) : Type 0 where
  pub least : (k : ℕ) (d : Placed) → k < length placed → IsLeast page (take k placed) (get_or placed k d).resource (get_or placed k d).offset

-- two lists of the same resources are equal as far as the first reaches
pub front_one : (page : ℕ) (ps qs : List Placed) → length ps ≤ length qs → ((k : ℕ) → k < length ps → (get_or ps k nothing).resource ≡ (get_or qs k nothing).resource) → Follows page ps → Follows page qs → (k : ℕ) → k ≤ length ps
    → take k ps ≡ take k qs
front_one page ps qs long same a b zero le = refl
front_one page ps qs long same a b (suc k) le =
    let before : take k ps ≡ take k qs = front_one page ps qs long same a b k (omega arith) in
    let p : Placed = get_or ps k nothing in
    let q : Placed = get_or qs k nothing in
    let resources : p.resource ≡ q.resource = same k (omega arith) in
    let mine : IsLeast page (take k ps) p.resource p.offset = a.least k nothing (omega arith) in
    let theirs : IsLeast page (take k qs) q.resource q.offset = b.least k nothing (omega arith) in
    let moved : IsLeast page (take k ps) q.resource q.offset = subst (λ (l : List Placed). IsLeast page l q.resource q.offset) (sym before) theirs in
    let alike : IsLeast page (take k ps) p.resource q.offset = subst (λ (r : Resource). IsLeast page (take k ps) r q.offset) (sym resources) moved in
    let one : p ≡ q = placed_same p q resources (least_one page (take k ps) p.resource p.offset q.offset mine alike) in
    let count : suc k ≡ k + 1 = omega arith in
    let front_p : take (k + 1) ps ≡ take k ps ++ (p ∷ []) = take_more ps k nothing (omega arith) in
    let front_q : take (k + 1) qs ≡ take k qs ++ (q ∷ []) = take_more qs k nothing (omega arith) in
    let joined : take k ps ++ (p ∷ []) ≡ take k qs ++ (q ∷ []) = ap (λ (l : List Placed). l ++ (p ∷ [])) before ∙ ap (λ (x : Placed). take k qs ++ (x ∷ [])) one in
    ap (λ (m : ℕ). take m ps) count ∙ (front_p ∙ (joined ∙ (sym front_q ∙ ap (λ (m : ℕ). take m qs) (sym count))))

abbrev pub resource_in : Placed → Resource
resource_in p = p.resource

pub plan_one : (page : ℕ) (resources : List Resource) (ps qs : List Placed) → IsPlan page resources ps → IsPlan page resources qs → ps ≡ qs
plan_one page resources ps qs a b =
    let same : map resource_in ps ≡ map resource_in qs = a.each ∙ sym b.each in
    let long : length ps ≡ length qs = sym (length-map ps resource_in) ∙ (ap (λ (l : List Resource). length l) same ∙ length-map qs resource_in) in
    let each : (k : ℕ) → k < length ps → (get_or ps k nothing).resource ≡ (get_or qs k nothing).resource = λ k lt.
    sym (get_or-map resource_in ps k nothing no_resource lt) ∙ (ap (λ (l : List Resource). get_or l k no_resource) same ∙ get_or-map resource_in qs k nothing no_resource (omega arith)) in
    let fronts = front_one page ps qs (omega arith) each (record { least = a.least }) (record { least = b.least }) (length ps) (omega arith) in
    sym (take_all (length ps) ps (omega arith)) ∙ (fronts ∙ take_all (length ps) qs (omega arith))

-- ---- by index

-- where an index stands in an order
pub position : (n : ℕ) (indices : List ℕ) (i : ℕ) → IsPermutation (range_with_len 0 n) indices → i < n → (k : ℕ) × (k < length indices) × (get_or indices k 0 ≡ i)
position n indices i same lt =
    let long = length-range_with_len 0 n in
    let here : get_or (range_with_len 0 n) i i ≡ i = get_or-range_with_len 0 n i i lt ∙ omega arith in
    let there = Contains-permutation (range_with_len 0 n) indices i same (i, omega arith, here) in
    (there.0, there.1, get_or_default indices there.0 0 i there.1 ∙ there.2)

pub at_position : (resources : List Resource) (offsets indices : List ℕ) (k : ℕ) (d : Placed) → k < length indices → get_or (map (placed_at resources offsets) indices) k d ≡ placed_at resources offsets (get_or indices k 0)
at_position resources offsets indices k d lt = get_or-map (placed_at resources offsets) indices k 0 d lt

pub offsets_one : (page : ℕ) (order : Order) (resources : List Resource) (xs ys : List ℕ) → IsPlanBy page order resources xs → IsPlanBy page order resources ys → xs ≡ ys
offsets_one page order resources xs ys a b =
    let n : ℕ = length resources in
    let is : List ℕ = a.indices in
    let indices : b.indices ≡ is = order_one order resources b.indices is b.ordered a.ordered in
    let planned : IsPlan page (map (resource_at resources) is) (map (placed_at resources ys) is) = subst (λ (l : List ℕ). IsPlan page (map (resource_at resources) l) (map (placed_at resources ys) l)) indices b.planned in
    let same : map (placed_at resources xs) is ≡ map (placed_at resources ys) is = plan_one page (map (resource_at resources) is) (map (placed_at resources xs) is) (map (placed_at resources ys) is) a.planned planned in
    let long_x = a.each in
    let long_y = b.each in
    same_number_lists xs ys (omega arith) (λ i lt.
    let k = position n is i a.ordered.permutation (omega arith) in
    let x : (get_or (map (placed_at resources xs) is) k.0 nothing).offset ≡ get_or xs (get_or is k.0 0) 0 = ap (λ (p : Placed). p.offset) (at_position resources xs is k.0 nothing k.1) in
    let y : (get_or (map (placed_at resources ys) is) k.0 nothing).offset ≡ get_or ys (get_or is k.0 0) 0 = ap (λ (p : Placed). p.offset) (at_position resources ys is k.0 nothing k.1) in
    let both : get_or xs (get_or is k.0 0) 0 ≡ get_or ys (get_or is k.0 0) 0 = sym x ∙ (ap (λ (l : List Placed). (get_or l k.0 nothing).offset) same ∙ y) in
    ap (λ (j : ℕ). get_or xs j 0) (sym k.2) ∙ (both ∙ ap (λ (j : ℕ). get_or ys j 0) k.2))

pub heap_le : (resources : List Resource) (offsets : List ℕ) (h g : ℕ) → IsHeap resources offsets h → IsHeap resources offsets g → h ≤ g
heap_le resources offsets h g a b = elim a.reached [
  | inl none ↦ omega arith
  | inr one ↦ let up = b.within one.0 one.1 in let e = one.2 in omega arith
]

-- the offsets that were taken from what was placed in an order
pub made_is : (resources : List Resource) (indices : List ℕ) (placed : List Placed) (offsets : List ℕ) → map resource_in placed ≡ map (resource_at resources) indices
    → ((k : ℕ) (d : Placed) → k < length indices → get_or offsets (get_or indices k 0) 0 ≡ (get_or placed k d).offset) → map (placed_at resources offsets) indices ≡ placed
made_is resources indices placed offsets same at =
    let long : length placed ≡ length indices = sym (length-map placed resource_in) ∙ (ap (λ (l : List Resource). length l) same ∙ length-map indices (resource_at resources)) in
    let made = length-map indices (placed_at resources offsets) in
    same_lists (map (placed_at resources offsets) indices) placed (omega arith) (λ k d lt.
    let here : k < length indices = omega arith in
    let resource : resource_at resources (get_or indices k 0) ≡ (get_or placed k d).resource =
    sym (get_or-map (resource_at resources) indices k 0 no_resource here) ∙ (ap (λ (l : List Resource). get_or l k no_resource) (sym same) ∙ get_or-map resource_in placed k d no_resource (omega arith)) in
    at_position resources offsets indices k d here ∙ placed_same (placed_at resources offsets (get_or indices k 0)) (get_or placed k d) resource (at k d here))

pub ends_fit : (resources : List Resource) (indices : List ℕ) (placed : List Placed) (offsets : List ℕ) → IsPermutation (range_with_len 0 (length resources)) indices → map (placed_at resources offsets) indices ≡ placed → All IsSound placed → (i : ℕ)
    → i < length resources → end_at resources offsets i < 2 ^ 64
ends_fit resources indices placed offsets permuted made sound i lt =
    let k = position (length resources) indices i permuted lt in
    let long : length placed ≡ length indices = ap (λ (l : List Placed). length l) (sym made) ∙ length-map indices (placed_at resources offsets) in
    let k_lt = k.1 in
    let p : IsSound (get_or placed k.0 nothing) = sound k.0 nothing (omega arith) in
    let is : get_or placed k.0 nothing ≡ placed_at resources offsets (get_or indices k.0 0) = ap (λ (l : List Placed). get_or l k.0 nothing) (sym made) ∙ at_position resources offsets indices k.0 nothing k.1 in
    let moved : IsSound (placed_at resources offsets (get_or indices k.0 0)) = subst (λ (p : Placed). IsSound p) is p in
    let here : IsSound (placed_at resources offsets i) = subst (λ (j : ℕ). IsSound (placed_at resources offsets j)) k.2 moved in
    here.within

-- where a resource finds no place below 64 bits, the heap of the plan passes them
pub refused_large : (page : ℕ) (order : Order) (resources : List Resource) (indices : List ℕ) → IsOrder order resources indices → IsRefused page (map (resource_at resources) indices) → (offsets : List ℕ) (heap : ℕ) → IsPlanBy page order resources offsets
    → IsHeap resources offsets heap → 2 ^ 64 ≤ heap
refused_large page order resources indices ordered refused offsets heap plan heaped =
    let same : plan.indices ≡ indices = order_one order resources plan.indices indices plan.ordered ordered in
    let qs : List Placed = map (placed_at resources offsets) indices in
    let planned : IsPlan page (map (resource_at resources) indices) qs = subst (λ (l : List ℕ). IsPlan page (map (resource_at resources) l) (map (placed_at resources offsets) l)) same plan.planned in
    let ps : List Placed = refused.before in
    let m : ℕ = length ps in
    let lists : map resource_in qs ≡ map resource_in ps ++ (refused.next ∷ refused.planned.0) = planned.each ∙ sym refused.planned.1 in
    let count : length qs ≡ length (map resource_in ps ++ (refused.next ∷ refused.planned.0)) = sym (length-map qs resource_in) ∙ ap (λ (l : List Resource). length l) lists in
    let parts = length-append (map resource_in ps) (refused.next ∷ refused.planned.0) in
    let first = length-map ps resource_in in
    let longer : m < length qs = omega (arith, count, parts, first) in
    let each : (k : ℕ) → k < length ps → (get_or ps k nothing).resource ≡ (get_or qs k nothing).resource = λ k lt.
    let mine : get_or (map resource_in ps ++ (refused.next ∷ refused.planned.0)) k no_resource ≡ get_or (map resource_in ps) k no_resource = get_or-append (map resource_in ps) (refused.next ∷ refused.planned.0) no_resource k (omega arith) in
    let at : get_or (map resource_in ps) k no_resource ≡ (get_or ps k nothing).resource = get_or-map resource_in ps k nothing no_resource lt in
    let theirs : get_or (map resource_in qs) k no_resource ≡ (get_or qs k nothing).resource = get_or-map resource_in qs k nothing no_resource (omega arith) in
    sym at ∙ (sym mine ∙ (ap (λ (l : List Resource). get_or l k no_resource) (sym lists) ∙ theirs)) in
    let fronts : take m ps ≡ take m qs = front_one page ps qs (omega arith) each (record { least = refused.each }) (record { least = planned.least }) m (omega arith) in
    let front : take m qs ≡ ps = sym fronts ∙ take_all m ps (omega arith) in
    let q : Placed = get_or qs m nothing in
    let least : IsLeast page (take m qs) q.resource q.offset = planned.least m nothing longer in
    let seam : get_or (map resource_in ps ++ (refused.next ∷ refused.planned.0)) (length (map resource_in ps)) no_resource ≡ refused.next = get_or-append_seam (map resource_in ps) refused.next refused.planned.0 no_resource in
    let next : q.resource ≡ refused.next =
    sym (get_or-map resource_in qs m nothing no_resource longer) ∙ (ap (λ (l : List Resource). get_or l m no_resource) lists ∙ (ap (λ (j : ℕ). get_or (map resource_in ps ++ (refused.next ∷ refused.planned.0)) j no_resource) (sym first) ∙ seam)) in
    let moved : IsLeast page ps q.resource q.offset = subst (λ (l : List Placed). IsLeast page l q.resource q.offset) front least in
    let free : IsLeast page ps refused.next q.offset = subst (λ (r : Resource). IsLeast page ps r q.offset) next moved in
    let past = refused.none q.offset free.free in
    let size : q.resource.size ≡ refused.next.size = ap (λ (r : Resource). r.size) next in
    let long : length qs ≡ length indices = length-map indices (placed_at resources offsets) in
    let is : q ≡ placed_at resources offsets (get_or indices m 0) = at_position resources offsets indices m nothing (omega arith) in
    let end_is : q.offset + q.resource.size ≡ end_at resources offsets (get_or indices m 0) = ap (λ (p : Placed). p.offset + p.resource.size) is in
    let below = indices_below (length resources) indices ordered.permutation m 0 (omega arith) in
    let within = heaped.within (get_or indices m 0) below in
    omega (arith, past, size, end_is, within)

-- ---- what is chosen and made

pub asked_in : (resources : List Resource) (indices : List ℕ) → All IsValid resources → All (λ i. i < length resources) indices → All IsValid (map (resource_at resources) indices)
asked_in resources indices asked below k d lt =
    let long = length-map indices (resource_at resources) in
    let here : k < length indices = omega arith in
    rw (get_or-map (resource_at resources) indices k 0 d here) (asked (get_or indices k 0) no_resource (below k 0 here))
