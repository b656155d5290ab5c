-- The place of a key among the leaves of a tree.
use Rattle.std.proofs.Common.{◌≡◌, ℕ, ◌+◌, ◌*◌, ◌/◌, ◌%◌, ◌^◌, ◌<◌, ◌≤◌, List, [], ◌∷◌, ◌++◌, All, ◌⊎◌, inl, inr, Bool, true, false, cond, refl, sym, ap, subst, ◌∙◌, arith}
use Rattle.std.proofs.lemmas.List.{append-nil, append_assoc}
use Rattle.std.proofs.lemmas.List.Elements.{All-nil, All-append}
use Rattle.gpu_block_gaps.specs.declared.tree.Place.{Place}
use Rattle.gpu_block_gaps.specs.declared.tree.Place.TheVariants.{Before, After}
use Rattle.gpu_block_gaps.specs.Key.{bit_of}
use Rattle.gpu_block_gaps.specs.Tree.{Tree, tip, fork, leaves_of, first_leaf, last_leaf, near, IsSplit, IsPlace, IsBefore, IsAfter}
use Rattle.gpu_block_gaps.proofs.Bits.{same_higher, below_by_part}
use Rattle.gpu_block_gaps.proofs.Shapes.{bit_cases, near_has, agree_at}
use Rattle.gpu_block_gaps.proofs.Grown.{all_leaves, StandsBeside, beside_tip, beside_fork, keys_below, keys_above}

-- ---- the ends of the leaves

pub record Ends (xs : List ℕ) (first last : ℕ) : Type 0 where
  pub rest : List ℕ
  pub init : List ℕ
  pub from_first : xs ≡ first ∷ rest
  pub to_last : xs ≡ init ++ last ∷ []

pub ends : (t : Tree) → Ends (leaves_of t) (first_leaf t) (last_leaf t)
ends (tip leaf) = record { rest = []; init = []; from_first = refl; to_last = refl }
ends (fork slot bit x y) =
    let left = ends x in
    let right = ends y in
    record {
      rest = left.rest ++ leaves_of y;
      init = leaves_of x ++ right.init;
      from_first = ap (λ l. l ++ leaves_of y) left.from_first;
      to_last = ap (λ l. leaves_of x ++ l) right.to_last ∙ sym (append_assoc (leaves_of x) right.init (last_leaf y ∷ []));
    }

-- ---- where the key stands beside the whole tree

pub place_beside : (key : ℕ → ℕ) (t : Tree) (n bit : ℕ) → StandsBeside key t n bit → (c : Bool) → bit_of n bit ≡ c → IsPlace key n (leaves_of t) (cond c (After (last_leaf t)) (Before (first_leaf t)))
place_beside key t n bit beside true set = by_bit (bit_cases n bit)
  where
    by_bit : ((bit_of n bit ≡ true) × (n / 2 ^ bit % 2 ≡ 1)) ⊎ ((bit_of n bit ≡ false) × (n / 2 ^ bit % 2 ≡ 0)) → IsAfter key n (leaves_of t) (last_leaf t)
    by_bit (inl one) = record {
      front = (ends t).init;
      back = [];
      was = (ends t).to_last ∙ sym (append-nil ((ends t).init ++ last_leaf t ∷ []));
      lesser = subst (All (λ l. key l < n)) (ends t).to_last (keys_below key t n bit beside one.1);
      greater = All-nil (λ l. n < key l);
    }
    by_bit (inr zero) = absurd (let a = zero.0 in cc)
place_beside key t n bit beside false unset = by_bit (bit_cases n bit)
  where
    by_bit : ((bit_of n bit ≡ true) × (n / 2 ^ bit % 2 ≡ 1)) ⊎ ((bit_of n bit ≡ false) × (n / 2 ^ bit % 2 ≡ 0)) → IsBefore key n (leaves_of t) (first_leaf t)
    by_bit (inl one) = absurd (let a = one.0 in cc)
    by_bit (inr zero) = record {
      front = [];
      back = (ends t).rest;
      was = (ends t).from_first;
      lesser = All-nil (λ l. key l < n);
      greater = subst (All (λ l. n < key l)) (ends t).from_first (keys_above key t n bit beside zero.1);
    }

-- ---- where it stands in a branch, it stands in the tree

right_place : (key : ℕ → ℕ) (n : ℕ) (xs ys : List ℕ) (place : Place) → All (λ l. key l < n) xs → IsPlace key n ys place → IsPlace key n (xs ++ ys) place
right_place key n xs ys (Before leaf) less is = record {
  front = xs ++ is.front;
  back = is.back;
  was = ap (λ l. xs ++ l) is.was ∙ sym (append_assoc xs is.front (leaf ∷ is.back));
  lesser = All-append (λ l. key l < n) xs is.front less is.lesser;
  greater = is.greater;
}
right_place key n xs ys (After leaf) less is =
    let through : xs ++ (is.front ++ leaf ∷ []) ≡ (xs ++ is.front) ++ leaf ∷ [] = sym (append_assoc xs is.front (leaf ∷ [])) in
    record {
      front = xs ++ is.front;
      back = is.back;
      was = ap (λ l. xs ++ l) is.was ∙ sym (append_assoc xs (is.front ++ leaf ∷ []) is.back) ∙ ap (λ l. l ++ is.back) through;
      lesser = subst (All (λ l. key l < n)) through (All-append (λ l. key l < n) xs (is.front ++ leaf ∷ []) less is.lesser);
      greater = is.greater;
    }

left_place : (key : ℕ → ℕ) (n : ℕ) (xs ys : List ℕ) (place : Place) → All (λ l. n < key l) ys → IsPlace key n xs place → IsPlace key n (xs ++ ys) place
left_place key n xs ys (Before leaf) more is = record {
  front = is.front;
  back = is.back ++ ys;
  was = ap (λ l. l ++ ys) is.was ∙ append_assoc is.front (leaf ∷ is.back) ys;
  lesser = is.lesser;
  greater = All-append (λ l. n < key l) (leaf ∷ is.back) ys is.greater more;
}
left_place key n xs ys (After leaf) more is = record {
  front = is.front;
  back = is.back ++ ys;
  was = ap (λ l. l ++ ys) is.was ∙ append_assoc (is.front ++ leaf ∷ []) is.back ys;
  lesser = is.lesser;
  greater = All-append (λ l. n < key l) is.back ys is.greater more;
}

-- what a branch has of the split
pub split_branch : (key : ℕ → ℕ) (at b : ℕ) (x y : Tree) (n bit : ℕ) → IsSplit key (fork at b x y) n bit → (c : Bool) → bit_of n b ≡ c → IsSplit key (cond c y x) n bit
split_branch key at b x y n bit split true set =
    let way = ap (λ z. cond z (near n y) (near n x)) set in
    record { sorted = (split.sorted).4; above = split.above ∙ ap (λ l. key l / 2 ^ (bit + 1)) way; differs = λ same. split.differs (same ∙ sym (ap (λ l. key l / 2 ^ bit) way)) }
split_branch key at b x y n bit split false unset =
    let way = ap (λ z. cond z (near n y) (near n x)) unset in
    record { sorted = (split.sorted).3; above = split.above ∙ ap (λ l. key l / 2 ^ (bit + 1)) way; differs = λ same. split.differs (same ∙ sym (ap (λ l. key l / 2 ^ bit) way)) }

pub place_branch : (key : ℕ → ℕ) (at b : ℕ) (x y : Tree) (n bit : ℕ) (place : Place) → IsSplit key (fork at b x y) n bit → bit < b → (c : Bool) → bit_of n b ≡ c
    → IsPlace key n (leaves_of (cond c y x)) place → IsPlace key n (leaves_of (fork at b x y)) place
place_branch key at b x y n bit place split lt true set is =
    let part = split_branch key at b x y n bit split true set in
    let sorted = split.sorted in
    let whole : n / 2 ^ b ≡ 2 * sorted.0 + 1 = same_higher n (key (near n y)) (bit + 1) b part.above (omega arith) ∙ agree_at key b (2 * sorted.0 + 1) y (near n y) sorted.2 (near_has n y) in
    right_place key n (leaves_of x) (leaves_of y) place
    (all_leaves (λ l. key l < n) x (λ l has. let low = agree_at key b (2 * sorted.0) x l sorted.1 has in below_by_part (key l) n b (omega arith))) is
place_branch key at b x y n bit place split lt false unset is =
    let part = split_branch key at b x y n bit split false unset in
    let sorted = split.sorted in
    let whole : n / 2 ^ b ≡ 2 * sorted.0 = same_higher n (key (near n x)) (bit + 1) b part.above (omega arith) ∙ agree_at key b (2 * sorted.0) x (near n x) sorted.1 (near_has n x) in
    left_place key n (leaves_of x) (leaves_of y) place
    (all_leaves (λ l. n < key l) y (λ l has. let high = agree_at key b (2 * sorted.0 + 1) y l sorted.2 has in below_by_part n (key l) b (omega arith))) is

-- beside a tree without so high a bit
pub place_tip : (key : ℕ → ℕ) (leaf n bit : ℕ) → IsSplit key (tip leaf) n bit → (c : Bool) → bit_of n bit ≡ c → IsPlace key n (leaf ∷ []) (cond c (After leaf) (Before leaf))
place_tip key leaf n bit split c is = place_beside key (tip leaf) n bit (beside_tip key leaf n bit split.above split.differs) c is

pub place_stop : (key : ℕ → ℕ) (at b : ℕ) (x y : Tree) (n bit : ℕ) → IsSplit key (fork at b x y) n bit → b ≤ bit → (c : Bool) → bit_of n bit ≡ c
    → IsPlace key n (leaves_of (fork at b x y)) (cond c (After (last_leaf (fork at b x y))) (Before (first_leaf (fork at b x y))))
place_stop key at b x y n bit split le c is = place_beside key (fork at b x y) n bit (beside_fork key at b x y n bit split.sorted split.above split.differs le) c is
