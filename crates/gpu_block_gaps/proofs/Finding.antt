-- Where a number stands among the keys of all trees.
use Rattle.std.proofs.Common.{◌≡◌, ◌≢◌, ℕ, ◌+◌, ◌-◌, ◌*◌, ◌/◌, ◌^◌, ◌<◌, ◌≤◌, List, [], ◌∷◌, ◌++◌, length, get_or, Option, Some, None, ◌⊎◌, inl, inr, refl, sym, ap, subst, ◌∙◌, arith}
use Rattle.std.specs.List.{AllPairs}
use Rattle.std.proofs.lemmas.Bool.{cases_lt, cases_eq}
use Rattle.std.proofs.lemmas.Option.{same_Some}
use Rattle.std.proofs.lemmas.List.{length-append, get_or_append_left, get_or-append_right, get_or_at}
use Rattle.gpu_block_gaps.specs.declared.class.Scale.{Scale}
use Rattle.gpu_block_gaps.specs.Class.{IsFew}
use Rattle.gpu_block_gaps.specs.Tree.{Tree, tip, fork, HasLeaf, Sorted, leaves_of, first_leaf, IsBefore, IsAfter}
use Rattle.gpu_block_gaps.specs.Forest.{class_in, tree_at, IsFirstLater}
use Rattle.gpu_block_gaps.specs.Order.{IsIn, HasIn, AreInOrder, IsFirstUp, IsLastDown, AllDown}
use Rattle.gpu_block_gaps.proofs.Bits.{quotient_le, below_by_part}
use Rattle.gpu_block_gaps.proofs.Classes.{on_rises}
use Rattle.gpu_block_gaps.proofs.Shapes.{first_has, agree_at}
use Rattle.gpu_block_gaps.proofs.Positions.{in_append_left, in_append_right, all_pairs_append}

-- ---- the leaves of one tree

pub leaf_in : (t : Tree) (l : ℕ) → HasLeaf l t → IsIn l (leaves_of t)
leaf_in (tip leaf) l has = (0, omega arith, sym has)
leaf_in (fork slot bit x y) l (inl has) = in_append_left l (leaves_of x) (leaves_of y) (leaf_in x l has)
leaf_in (fork slot bit x y) l (inr has) = in_append_right l (leaves_of x) (leaves_of y) (leaf_in y l has)

pub at_leaf : (t : Tree) (k d : ℕ) → k < length (leaves_of t) → HasLeaf (get_or (leaves_of t) k d) t
at_leaf (tip leaf) k d lt = let e : k ≡ 0 = omega arith in ap (λ j. get_or (leaf ∷ []) j d) e
at_leaf (fork slot bit x y) k d lt = by_order (at_leaf x k d) (at_leaf y (k - length (leaves_of x)) d) (cases_lt k (length (leaves_of x)))
  where
    by_order : (k < length (leaves_of x) → HasLeaf (get_or (leaves_of x) k d) x) → (k - length (leaves_of x) < length (leaves_of y) → HasLeaf (get_or (leaves_of y) (k - length (leaves_of x)) d) y)
        → (k < length (leaves_of x)) ⊎ (length (leaves_of x) ≤ k) → HasLeaf (get_or (leaves_of x ++ leaves_of y) k d) x ⊎ HasLeaf (get_or (leaves_of x ++ leaves_of y) k d) y
    by_order left right (inl h) = inl (subst (λ l. HasLeaf l x) (sym (get_or_append_left (leaves_of x) (leaves_of y) d k h)) (left h))
    by_order left right (inr h) =
        let long = length-append (leaves_of x) (leaves_of y) in
        inr (subst (λ l. HasLeaf l y) (sym (get_or-append_right (leaves_of x) (leaves_of y) (length (leaves_of x)) k d refl h)) (right (omega arith)))

-- along a fork's branches
across : (key : ℕ → ℕ) (slot bit : ℕ) (x y : Tree) → Sorted key (fork slot bit x y) → (l m : ℕ) → HasLeaf l x → HasLeaf m y → key l < key m
across key slot bit x y sorted l m in_x in_y =
    let even = agree_at key bit (2 * sorted.0) x l sorted.1 in_x in
    let odd = agree_at key bit (2 * sorted.0 + 1) y m sorted.2 in_y in
    below_by_part (key l) (key m) bit (omega arith)

pub leaves_sorted : (key : ℕ → ℕ) (t : Tree) → Sorted key t → AllPairs (λ a b. key a < key b) (leaves_of t)
leaves_sorted key (tip leaf) sorted = λ i j d lt within. absurd (omega arith)
leaves_sorted key (fork slot bit x y) sorted =
    all_pairs_append (λ a b. key a < key b) (leaves_of x) (leaves_of y) (leaves_sorted key x sorted.3) (leaves_sorted key y sorted.4)
    (λ i j d in_x in_y. across key slot bit x y sorted (get_or (leaves_of x) i d) (get_or (leaves_of y) j d) (at_leaf x i d in_x) (at_leaf y j d in_y))

pub first_least : (key : ℕ → ℕ) (t : Tree) (l : ℕ) → Sorted key t → HasLeaf l t → key (first_leaf t) ≤ key l
first_least key (tip leaf) l sorted has = let e : key l ≡ key leaf = ap key has in omega arith
first_least key (fork slot bit x y) l sorted (inl has) = first_least key x l sorted.3 has
first_least key (fork slot bit x y) l sorted (inr has) = let less = across key slot bit x y sorted (first_leaf x) l (first_has x) has in omega arith

module _ (key : ℕ → ℕ) (t : Tree) (sorted : Sorted key t) (n l : ℕ) where
  pub before_least : IsBefore key n (leaves_of t) l → HasLeaf l t × (n < key l) × ((x : ℕ) → HasLeaf x t → n ≤ key x → key l ≤ key x)
  before_least b = (
    subst (λ m. HasLeaf m t) at (at_leaf t p 0 within),
    b.greater 0 0 (omega arith),
    λ x has up. from x (leaf_in t x has) up,
  )
    where
      p : ℕ
      p = length b.front

      long : length (leaves_of t) ≡ length b.front + length (l ∷ b.back)
      long = ap length b.was ∙ length-append b.front (l ∷ b.back)

      within : p < length (leaves_of t)
      within = let h = long in omega arith

      at : get_or (leaves_of t) p 0 ≡ l
      at = ap (λ (xs : List ℕ). get_or xs p 0) b.was ∙ get_or_at b.front l b.back 0 p refl

      from : (x : ℕ) → IsIn x (leaves_of t) → n ≤ key x → key l ≤ key x
      from x is up = by_order (cases_lt is.0 p) (cases_lt p is.0)
        where
          here : key (get_or (leaves_of t) is.0 0) ≡ key x
          here = ap key is.2

          by_order : (is.0 < p) ⊎ (p ≤ is.0) → (p < is.0) ⊎ (is.0 ≤ p) → key l ≤ key x
          by_order (inl lt) other = absurd (
              let less = b.lesser is.0 0 lt in
              let same : key (get_or (leaves_of t) is.0 0) ≡ key (get_or b.front is.0 0) = ap key (ap (λ (xs : List ℕ). get_or xs is.0 0) b.was ∙ get_or_append_left b.front (l ∷ b.back) 0 is.0 lt) in
              omega (arith, here))
          by_order (inr ge) (inl gt) = let less = leaves_sorted key t sorted p is.0 0 gt is.1 in let same = ap key at in omega (arith, here)
          by_order (inr ge) (inr le) = let e : is.0 ≡ p = omega arith in let same : key x ≡ key l = ap key (sym is.2 ∙ ap (λ j. get_or (leaves_of t) j 0) e ∙ at) in omega arith

  pub after_greatest : IsAfter key n (leaves_of t) l → HasLeaf l t × (key l < n) × ((x : ℕ) → HasLeaf x t → key x < n → key x ≤ key l)
  after_greatest a = (
    subst (λ m. HasLeaf m t) at (at_leaf t p 0 within),
    subst (λ m. key m < n) first_at (a.lesser p 0 (omega (arith, first_long))),
    λ x has down. upto x (leaf_in t x has) down,
  )
    where
      p : ℕ
      p = length a.front

      first_long : length (a.front ++ l ∷ []) ≡ length a.front + 1
      first_long = length-append a.front (l ∷ [])

      first_at : get_or (a.front ++ l ∷ []) p 0 ≡ l
      first_at = get_or_at a.front l [] 0 p refl

      long : length (leaves_of t) ≡ length (a.front ++ l ∷ []) + length a.back
      long = ap length a.was ∙ length-append (a.front ++ l ∷ []) a.back

      within : p < length (leaves_of t)
      within = omega (arith, long, first_long)

      at : get_or (leaves_of t) p 0 ≡ l
      at = ap (λ (xs : List ℕ). get_or xs p 0) a.was ∙ get_or_append_left (a.front ++ l ∷ []) a.back 0 p (omega (arith, first_long)) ∙ first_at

      upto : (x : ℕ) → IsIn x (leaves_of t) → key x < n → key x ≤ key l
      upto x is down = by_order (cases_lt is.0 p) (cases_lt p is.0)
        where
          here : key (get_or (leaves_of t) is.0 0) ≡ key x
          here = ap key is.2

          by_order : (is.0 < p) ⊎ (p ≤ is.0) → (p < is.0) ⊎ (is.0 ≤ p) → key x ≤ key l
          by_order (inl lt) other = let less = leaves_sorted key t sorted is.0 p 0 lt within in let same = ap key at in omega (arith, here)
          by_order (inr ge) (inl gt) = absurd (
              let more = a.greater (is.0 - length (a.front ++ l ∷ [])) 0 (let h = is.1 in omega (arith, long, first_long)) in
              let same : key (get_or (leaves_of t) is.0 0) ≡ key (get_or a.back (is.0 - length (a.front ++ l ∷ [])) 0) =
              ap key (ap (λ (xs : List ℕ). get_or xs is.0 0) a.was ∙ get_or-append_right (a.front ++ l ∷ []) a.back (length (a.front ++ l ∷ [])) is.0 0 refl (omega (arith, first_long))) in
              omega (arith, here))
          by_order (inr ge) (inr le) = let e : is.0 ≡ p = omega arith in let same : key x ≡ key l = ap key (sym is.2 ∙ ap (λ j. get_or (leaves_of t) j 0) e ∙ at) in omega arith

-- ---- the leaves of all trees

pub length_fits : (n : ℕ) → n < 2 ^ 128 → n / 2 ^ 64 < 2 ^ 64
length_fits n fits = omega arith

-- a lesser key is of no later class
pub class_falls : (scale : Scale) (m n : ℕ) → IsFew scale → m < 2 ^ 128 → n < 2 ^ 128 → m ≤ n → class_in scale m ≤ class_in scale n
class_falls scale m n few fits_m fits_n le = on_rises scale (m / 2 ^ 64) (n / 2 ^ 64) few (length_fits m fits_m) (length_fits n fits_n) (quotient_le m n 64 le)

pub less_by_class : (scale : Scale) (m n : ℕ) → IsFew scale → m < 2 ^ 128 → n < 2 ^ 128 → class_in scale m < class_in scale n → m < n
less_by_class scale m n few fits_m fits_n less = by_order (cases_lt m n)
  where
    by_order : (m < n) ⊎ (n ≤ m) → m < n
    by_order (inl lt) = lt
    by_order (inr le) = absurd (let falls = class_falls scale n m few fits_n fits_m le in omega arith)

module _ (key : ℕ → ℕ) (scale : Scale) (trees : List (Option Tree)) (order : List ℕ) (few : IsFew scale) (are : AreInOrder key scale trees order) (n : ℕ) (fits : n < 2 ^ 128)
    (kept : (c l : ℕ) → HasIn trees c l → class_in scale (key l) ≡ c) (in_order : (c : ℕ) (t : Tree) → tree_at trees c ≡ Some t → Sorted key t) where
  -- a leaf of another class than the number's
  one_tree : (c l : ℕ) (t : Tree) → tree_at trees c ≡ Some t → HasIn trees c l → HasLeaf l t
  one_tree c l t is has = subst (λ (u : Tree). HasLeaf l u) (same_Some _ _ (sym has.is ∙ is)) has.has

  pub up_here : (t : Tree) (l : ℕ) → tree_at trees (class_in scale n) ≡ Some t → IsBefore key n (leaves_of t) l → IsFirstUp key order n l
  up_here t l is before = record {
    here = here;
    up = (let h = b.1 in omega arith);
    least = λ x has up. least x has up (cases_lt (class_in scale n) (class_in scale (key x)));
  }
    where
      b : HasLeaf l t × (n < key l) × ((x : ℕ) → HasLeaf x t → n ≤ key x → key l ≤ key x)
      b = before_least key t (in_order (class_in scale n) t is) n l before

      inside : HasIn trees (class_in scale n) l
      inside = record { tree = t; is = is; has = b.0 }

      here : IsIn l order
      here = are.held (class_in scale n) l inside

      least : (x : ℕ) → IsIn x order → n ≤ key x → (class_in scale n < class_in scale (key x)) ⊎ (class_in scale (key x) ≤ class_in scale n) → key l ≤ key x
      least x has up (inl later) =
          let class = kept (class_in scale n) l inside in
          let less = less_by_class scale (key l) (key x) few (are.fits l here) (are.fits x has) (omega arith) in
          omega arith
      least x has up (inr no_later) =
          let falls = class_falls scale n (key x) few fits (are.fits x has) up in
          let same : class_in scale (key x) ≡ class_in scale n = omega arith in
          b.2 x (one_tree (class_in scale n) x t is (subst (λ c. HasIn trees c x) same (are.holds x has))) up

  pub down_here : (t : Tree) (l : ℕ) → tree_at trees (class_in scale n) ≡ Some t → IsAfter key n (leaves_of t) l → IsLastDown key order n l
  down_here t l is after = record {
    here = here;
    down = a.1;
    greatest = λ x has down. greatest x has down (cases_lt (class_in scale (key x)) (class_in scale n));
  }
    where
      a : HasLeaf l t × (key l < n) × ((x : ℕ) → HasLeaf x t → key x < n → key x ≤ key l)
      a = after_greatest key t (in_order (class_in scale n) t is) n l after

      inside : HasIn trees (class_in scale n) l
      inside = record { tree = t; is = is; has = a.0 }

      here : IsIn l order
      here = are.held (class_in scale n) l inside

      greatest : (x : ℕ) → IsIn x order → key x < n → (class_in scale (key x) < class_in scale n) ⊎ (class_in scale n ≤ class_in scale (key x)) → key x ≤ key l
      greatest x has down (inl earlier) =
          let class = kept (class_in scale n) l inside in
          let less = less_by_class scale (key x) (key l) few (are.fits x has) (are.fits l here) (omega arith) in
          omega arith
      greatest x has down (inr no_earlier) =
          let falls = class_falls scale (key x) n few (are.fits x has) fits (omega arith) in
          let same : class_in scale (key x) ≡ class_in scale n = omega arith in
          a.2 x (one_tree (class_in scale n) x t is (subst (λ c. HasIn trees c x) same (are.holds x has))) down

  pub same_here : (t : Tree) (l : ℕ) → tree_at trees (class_in scale n) ≡ Some t → HasLeaf l t → key l ≡ n → IsFirstUp key order n l
  same_here t l is has same = record {
    here = are.held (class_in scale n) l (record { tree = t; is = is; has = has });
    up = omega arith;
    least = λ x there up. omega arith;
  }

  none_below : (x : ℕ) → IsIn x order → tree_at trees (class_in scale n) ≡ None → n ≤ key x → class_in scale n < class_in scale (key x)
  none_below x has none up = by_order (cases_eq (class_in scale n) (class_in scale (key x)))
    where
      falls : class_in scale n ≤ class_in scale (key x)
      falls = class_falls scale n (key x) few fits (are.fits x has) up

      by_order : (class_in scale n ≡ class_in scale (key x)) ⊎ (class_in scale n ≢ class_in scale (key x)) → class_in scale n < class_in scale (key x)
      by_order (inl same) = absurd (let there = (are.holds x has).is in let no_tree : tree_at trees (class_in scale (key x)) ≡ None = ap (tree_at trees) (sym same) ∙ none in cc)
      by_order (inr other) = omega (arith, falls)

  pub up_later : (l : ℕ) → tree_at trees (class_in scale n) ≡ None → IsFirstLater trees (class_in scale n) l → IsFirstUp key order n l
  up_later l none later = record {
    here = here;
    up = (let less = less_by_class scale n (key l) few fits (are.fits l here) (let a = class in let b = later.later in omega arith) in omega arith);
    least = λ x has up. least x has up (cases_lt later.next (class_in scale (key x))) (cases_lt (class_in scale (key x)) later.next);
  }
    where
      inside : HasIn trees later.next l
      inside = record { tree = later.tree; is = later.is; has = subst (λ m. HasLeaf m later.tree) (sym later.first) (first_has later.tree) }

      here : IsIn l order
      here = are.held later.next l inside

      class : class_in scale (key l) ≡ later.next
      class = kept later.next l inside

      least : (x : ℕ) → IsIn x order → n ≤ key x → (later.next < class_in scale (key x)) ⊎ (class_in scale (key x) ≤ later.next)
          → (class_in scale (key x) < later.next) ⊎ (later.next ≤ class_in scale (key x)) → key l ≤ key x
      least x has up (inl behind) other =
          let less = less_by_class scale (key l) (key x) few (are.fits l here) (are.fits x has) (let a = class in omega arith) in
          omega arith
      least x has up (inr le) (inl between) = absurd (
          let more = none_below x has none up in
          let there = (are.holds x has).is in
          let no_tree = later.none (class_in scale (key x)) more between in
          cc)
      least x has up (inr le) (inr ge) =
          let same : class_in scale (key x) ≡ later.next = omega arith in
          let inside_x = one_tree later.next x later.tree later.is (subst (λ c. HasIn trees c x) same (are.holds x has)) in
          let first = first_least key later.tree x (in_order later.next later.tree later.is) inside_x in
          let e : key l ≡ key (first_leaf later.tree) = ap key later.first in
          omega arith

  pub none_later : tree_at trees (class_in scale n) ≡ None → ((c : ℕ) → class_in scale n < c → tree_at trees c ≡ None) → AllDown key order n
  none_later none behind x has = by_order (cases_lt (key x) n)
    where
      by_order : (key x < n) ⊎ (n ≤ key x) → key x < n
      by_order (inl lt) = lt
      by_order (inr up) = absurd (
          let more = none_below x has none up in
          let there = (are.holds x has).is in
          let no_tree = behind (class_in scale (key x)) more in
          cc)
