-- Lists of heaps, as one is added or taken out.
use Rattle.std.proofs.Common.{◌≡◌, ◌≢◌, ◌∙◌, ◌<◌, ◌⊎◌, ◌||◌, refl, sym, ap, subst, ℕ, zero, suc, Bool, true, false, cond, if◌then◌else◌, nat_eq, not, List, [], ◌∷◌, ◌++◌, length, filter, Contains}
use Rattle.std.proofs.Common.{inl, inr, ⊎_elim, arith}
use Rattle.std.specs.List.{AllByRecursion, IsDistinct, list_any, slice_index_or}
use Rattle.gpu_block_pieces.proofs.Live.{here, there}
use Rattle.gpu_device.specs.Metal.{add_member, remove_member}
use Rattle.gpu_device.specs.declared.metal.types.MTLHeap.{MTLHeap}
use Rattle.gpu_metal.specs.Blocks.{is_same_heap}

pub same_heap : (x y : MTLHeap) → x.0 ≡ y.0 → x ≡ y
same_heap x y e = ap (λ n. record { 0 = n }) e

apart : (a b : ℕ) → a ≢ b → nat_eq a b ≡ false
apart a b ne = grind arith

alike : (a b : ℕ) → a ≡ b → nat_eq a b ≡ true
alike a b e = grind arith

false_true : false ≡ true → ⊥
false_true e = cc

-- ---- what is in a list

abbrev pub In : List MTLHeap → MTLHeap → Type 0
In [] x = ⊥
In (y ∷ ys) x = (y ≡ x) ⊎ In ys x

in_at : (xs : List MTLHeap) (x : MTLHeap) (k : ℕ) → k < length xs → slice_index_or xs k x ≡ x → In xs x
in_at [] x k below is = absurd (omega (arith, below))
in_at (y ∷ ys) x zero below is = inl is
in_at (y ∷ ys) x (suc k) below is = inr (in_at ys x k (omega (arith, below)) is)

pub in_of : (xs : List MTLHeap) (x : MTLHeap) → Contains xs x → In xs x
in_of xs x h = in_at xs x h.0 h.1 h.2

pub contains_of : (xs : List MTLHeap) (x : MTLHeap) → In xs x → Contains xs x
contains_of [] x h = absurd h
contains_of (y ∷ ys) x h =
    ⊎_elim
    (λ (e : y ≡ x). subst (λ z. Contains (y ∷ ys) z) e (here y ys))
    (λ later. there y x ys (contains_of ys x later))
    h

pub in_left : (xs ys : List MTLHeap) (x : MTLHeap) → In xs x → In (xs ++ ys) x
in_left [] ys x h = absurd h
in_left (z ∷ xs) ys x h = ⊎_elim (λ e. inl e) (λ later. inr (in_left xs ys x later)) h

pub in_right : (xs ys : List MTLHeap) (x : MTLHeap) → In ys x → In (xs ++ ys) x
in_right [] ys x h = h
in_right (z ∷ xs) ys x h = inr (in_right xs ys x h)

pub in_either : (xs ys : List MTLHeap) (x : MTLHeap) → In (xs ++ ys) x → In xs x ⊎ In ys x
in_either [] ys x h = inr h
in_either (z ∷ xs) ys x h =
    ⊎_elim
    (λ e. inl (inl e))
    (λ later. ⊎_elim (λ l. inl (inr l)) (λ r. inr r) (in_either xs ys x later))
    h

-- ---- one more

absent : (xs : List MTLHeap) (x : MTLHeap) → (In xs x → ⊥) → list_any (λ member. nat_eq member.0 x.0) xs ≡ false
absent [] x out = refl
absent (y ∷ ys) x out =
    ap (λ b. b || list_any (λ member. nat_eq member.0 x.0) ys) (apart y.0 x.0 (λ e. out (inl (same_heap y x e))))
    ∙ absent ys x (λ later. out (inr later))

pub added : (xs : List MTLHeap) (x : MTLHeap) → (In xs x → ⊥) → add_member xs x ≡ xs ++ x ∷ []
added xs x out = ap (λ b. if b then xs else xs ++ x ∷ []) (absent xs x out)

all_push : (P : MTLHeap → Type 0) (xs : List MTLHeap) (x : MTLHeap) → AllByRecursion P xs → P x → AllByRecursion P (xs ++ x ∷ [])
all_push P [] x all own = (own, tt)
all_push P (y ∷ ys) x all own = (all.0, all_push P ys x all.1 own)

pub distinct_push : (xs : List MTLHeap) (x : MTLHeap) → (In xs x → ⊥) → IsDistinct is_same_heap xs → IsDistinct is_same_heap (xs ++ x ∷ [])
unfolding IsDistinct
distinct_push [] x out d = (tt, tt)
distinct_push (y ∷ ys) x out d = (
  all_push (λ z. is_same_heap y z ≡ false) ys x d.0 (apart y.0 x.0 (λ e. out (inl (same_heap y x e)))),
  distinct_push ys x (λ later. out (inr later)) d.1,
)

-- ---- those that pass a test

filter_in : (b : Bool) (y x : MTLHeap) (zs : List MTLHeap) → ((y ≡ x) × (b ≡ true)) ⊎ In zs x → In (cond b (y ∷ zs) zs) x
filter_in true y x zs h = ⊎_elim (λ e. inl e.0) (λ later. inr later) h
filter_in false y x zs h = ⊎_elim (λ e. absurd (false_true e.1)) (λ later. later) h

of_filter_in : (b : Bool) (y x : MTLHeap) (zs : List MTLHeap) → In (cond b (y ∷ zs) zs) x → ((y ≡ x) × (b ≡ true)) ⊎ In zs x
of_filter_in true y x zs h = ⊎_elim (λ e. inl (e, refl)) (λ later. inr later) h
of_filter_in false y x zs h = inr h

in_filter : (p : MTLHeap → Bool) (xs : List MTLHeap) (x : MTLHeap) → In xs x → p x ≡ true → In (filter p xs) x
in_filter p [] x h passes = absurd h
in_filter p (y ∷ ys) x h passes =
    filter_in (p y) y x (filter p ys) (⊎_elim (λ e. inl (e, ap p e ∙ passes)) (λ later. inr (in_filter p ys x later passes)) h)

of_filter : (p : MTLHeap → Bool) (xs : List MTLHeap) (x : MTLHeap) → In (filter p xs) x → In xs x × (p x ≡ true)
of_filter p [] x h = absurd h
of_filter p (y ∷ ys) x h =
    ⊎_elim
    (λ e. (inl e.0, ap p (sym e.0) ∙ e.1))
    (λ later. let k = of_filter p ys x later in (inr k.0, k.1))
    (of_filter_in (p y) y x (filter p ys) h)

all_cond : (P : MTLHeap → Type 0) (b : Bool) (y : MTLHeap) (zs : List MTLHeap) → P y → AllByRecursion P zs → AllByRecursion P (cond b (y ∷ zs) zs)
all_cond P true y zs own all = (own, all)
all_cond P false y zs own all = all

all_filter : (P : MTLHeap → Type 0) (p : MTLHeap → Bool) (xs : List MTLHeap) → AllByRecursion P xs → AllByRecursion P (filter p xs)
all_filter P p [] all = tt
all_filter P p (y ∷ ys) all = all_cond P (p y) y (filter p ys) all.0 (all_filter P p ys all.1)

distinct_cond : (b : Bool) (y : MTLHeap) (zs : List MTLHeap) → AllByRecursion (λ z. is_same_heap y z ≡ false) zs → IsDistinct is_same_heap zs → IsDistinct is_same_heap (cond b (y ∷ zs) zs)
unfolding IsDistinct
distinct_cond true y zs own d = (own, d)
distinct_cond false y zs own d = d

distinct_filter : (p : MTLHeap → Bool) (xs : List MTLHeap) → IsDistinct is_same_heap xs → IsDistinct is_same_heap (filter p xs)
unfolding IsDistinct
distinct_filter p [] d = tt
distinct_filter p (y ∷ ys) d = distinct_cond (p y) y (filter p ys) (all_filter (λ z. is_same_heap y z ≡ false) p ys d.0) (distinct_filter p ys d.1)

-- ---- one less

abbrev others : MTLHeap → MTLHeap → Bool
others heap member = not (nat_eq member.0 heap.0)

pub in_remaining : (xs : List MTLHeap) (heap x : MTLHeap) → In xs x → x.0 ≢ heap.0 → In (remove_member xs heap) x
in_remaining xs heap x h ne = in_filter (others heap) xs x h (ap not (apart x.0 heap.0 ne))

pub of_remaining : (xs : List MTLHeap) (heap x : MTLHeap) → In (remove_member xs heap) x → In xs x × (x.0 ≢ heap.0)
of_remaining xs heap x h =
    let k = of_filter (others heap) xs x h in
    (k.0, λ e. false_true (sym (ap not (alike x.0 heap.0 e)) ∙ k.1))

pub distinct_remaining : (xs : List MTLHeap) (heap : MTLHeap) → IsDistinct is_same_heap xs → IsDistinct is_same_heap (remove_member xs heap)
distinct_remaining xs heap d = distinct_filter (others heap) xs d
