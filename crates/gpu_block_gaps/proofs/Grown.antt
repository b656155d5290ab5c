-- A tree with one leaf more is in order.
use Rattle.std.proofs.Common.{◌≡◌, ◌≢◌, ℕ, ◌+◌, ◌*◌, ◌/◌, ◌%◌, ◌^◌, ◌<◌, ◌≤◌, List, [], ◌∷◌, ◌++◌, All, ◌⊎◌, inl, inr, true, false, cond, refl, sym, ap, subst, ◌∙◌, arith}
use Rattle.std.proofs.lemmas.Bool.{cases_lt}
use Rattle.std.proofs.lemmas.List.{append-nil, append_assoc}
use Rattle.std.proofs.lemmas.List.Elements.{All-nil, All-cons, All-append}
use Rattle.gpu_block_gaps.specs.Key.{bit_of}
use Rattle.gpu_block_gaps.specs.Tree.{Tree, tip, fork, HasLeaf, Agree, Sorted, leaves_of, near, joined, grown, IsInserted}
use Rattle.gpu_block_gaps.proofs.Bits.{same_higher, below_by_part}
use Rattle.gpu_block_gaps.proofs.Shapes.{bit_cases, near_has, agree_at, agree_all}
use Rattle.gpu_block_gaps.proofs.Growing.{other_below, other_above, falls_short, agree_low, grown_one, grown_zero, grown_stop, leaf_grown}

-- what holds of each leaf
pub all_leaves : (P : ℕ → Type 0) (t : Tree) → ((leaf : ℕ) → HasLeaf leaf t → P leaf) → All P (leaves_of t)
all_leaves P (tip leaf) each = All-cons P leaf [] (each leaf refl) (All-nil P)
all_leaves P (fork slot bit x y) each =
    All-append P (leaves_of x) (leaves_of y) (all_leaves P x (λ leaf has. each leaf (inl has))) (all_leaves P y (λ leaf has. each leaf (inr has)))

-- the number's place is beside the tree: all its keys differ from the number in that bit, and in none above it
pub record StandsBeside (key : ℕ → ℕ) (t : Tree) (n bit : ℕ) : Type 0 where
  pub other : ℕ
  pub above : n / 2 ^ (bit + 1) ≡ other / 2 ^ (bit + 1)
  pub differs : n / 2 ^ bit ≢ other / 2 ^ bit
  pub each : (leaf : ℕ) → HasLeaf leaf t → key leaf / 2 ^ bit ≡ other / 2 ^ bit

pub beside_tip : (key : ℕ → ℕ) (leaf n bit : ℕ) → n / 2 ^ (bit + 1) ≡ key leaf / 2 ^ (bit + 1) → n / 2 ^ bit ≢ key leaf / 2 ^ bit → StandsBeside key (tip leaf) n bit
beside_tip key leaf n bit above differs = record {
  other = key leaf;
  above = above;
  differs = differs;
  each = λ l is. ap (λ m. key m / 2 ^ bit) is;
}

pub beside_fork : (key : ℕ → ℕ) (slot b : ℕ) (x y : Tree) (n bit : ℕ) → Sorted key (fork slot b x y) → n / 2 ^ (bit + 1) ≡ key (near n (fork slot b x y)) / 2 ^ (bit + 1)
    → n / 2 ^ bit ≢ key (near n (fork slot b x y)) / 2 ^ bit → b ≤ bit → StandsBeside key (fork slot b x y) n bit
beside_fork key slot b x y n bit sorted above differs le = record {
  other = key (near n (fork slot b x y));
  above = above;
  differs = differs;
  each = agree_low key slot b x y n bit sorted (falls_short key slot b x y n bit sorted above differs le);
}

-- a number with that bit is above all the keys, and one without it below
pub keys_below : (key : ℕ → ℕ) (t : Tree) (n bit : ℕ) → StandsBeside key t n bit → n / 2 ^ bit % 2 ≡ 1 → All (λ l. key l < n) (leaves_of t)
keys_below key t n bit beside set =
    let sides = other_below n beside.other bit beside.above beside.differs set in
    all_leaves (λ l. key l < n) t (λ leaf has. let same = beside.each leaf has in below_by_part (key leaf) n bit (omega arith))

pub keys_above : (key : ℕ → ℕ) (t : Tree) (n bit : ℕ) → StandsBeside key t n bit → n / 2 ^ bit % 2 ≡ 0 → All (λ l. n < key l) (leaves_of t)
keys_above key t n bit beside unset =
    let sides = other_above n beside.other bit beside.above beside.differs unset in
    all_leaves (λ l. n < key l) t (λ leaf has. let same = beside.each leaf has in below_by_part n (key leaf) bit (omega arith))

-- the leaf beside such a tree
sorted_joined : (key : ℕ → ℕ) (t : Tree) (n bit leaf slot : ℕ) → Sorted key t → StandsBeside key t n bit → key leaf ≡ n → Sorted key (joined n bit leaf slot t)
sorted_joined key t n bit leaf slot sorted beside is = by_bit (bit_cases n bit)
  where
    by_bit : ((bit_of n bit ≡ true) × (n / 2 ^ bit % 2 ≡ 1)) ⊎ ((bit_of n bit ≡ false) × (n / 2 ^ bit % 2 ≡ 0)) → Sorted key (joined n bit leaf slot t)
    by_bit (inl set) =
        let sides = other_below n beside.other bit beside.above beside.differs set.1 in
        let whole : Sorted key (fork slot bit t (tip leaf)) = (
          n / 2 ^ (bit + 1),
          agree_all key bit _ t (λ l has. beside.each l has ∙ sides.0),
          ap (λ m. m / 2 ^ bit) is ∙ sides.1,
          sorted,
          tt,
        ) in
        subst (λ b. Sorted key (cond b (fork slot bit t (tip leaf)) (fork slot bit (tip leaf) t))) (sym set.0) whole
    by_bit (inr unset) =
        let sides = other_above n beside.other bit beside.above beside.differs unset.1 in
        let whole : Sorted key (fork slot bit (tip leaf) t) = (
          n / 2 ^ (bit + 1),
          ap (λ m. m / 2 ^ bit) is ∙ sides.1,
          agree_all key bit _ t (λ l has. beside.each l has ∙ sides.0),
          tt,
          sorted,
        ) in
        subst (λ b. Sorted key (cond b (fork slot bit t (tip leaf)) (fork slot bit (tip leaf) t))) (sym unset.0) whole

-- the keys above a fork's bit, with the leaf's
agree_grown : (key : ℕ → ℕ) (b q : ℕ) (t : Tree) (n bit leaf slot : ℕ) → Agree key b q t → n / 2 ^ (bit + 1) ≡ key (near n t) / 2 ^ (bit + 1) → bit < b → key leaf ≡ n
    → Agree key b q (grown n bit leaf slot t)
agree_grown key b q t n bit leaf slot agree above lt is = agree_all key b q (grown n bit leaf slot t) (λ l has. by_leaf l (leaf_grown n bit leaf slot t l has))
  where
    by_leaf : (l : ℕ) → HasLeaf l t ⊎ (l ≡ leaf) → key l / 2 ^ b ≡ q
    by_leaf l (inl has) = agree_at key b q t l agree has
    by_leaf l (inr same) =
        ap (λ m. key m / 2 ^ b) same ∙ ap (λ m. m / 2 ^ b) is ∙ same_higher n (key (near n t)) (bit + 1) b above (omega arith) ∙ agree_at key b q t (near n t) agree (near_has n t)

pub sorted_grown : (key : ℕ → ℕ) (t : Tree) (n bit leaf slot : ℕ) → Sorted key t → n / 2 ^ (bit + 1) ≡ key (near n t) / 2 ^ (bit + 1) → n / 2 ^ bit ≢ key (near n t) / 2 ^ bit → key leaf ≡ n
    → Sorted key (grown n bit leaf slot t)
sorted_grown key (tip other) n bit leaf slot sorted above differs is = sorted_joined key (tip other) n bit leaf slot tt (beside_tip key other n bit above differs) is
sorted_grown key (fork at b x y) n bit leaf slot sorted above differs is =
    by_order (cases_lt bit b) (bit_cases n b)
    (λ above' differs'. sorted_grown key x n bit leaf slot sorted.3 above' differs' is)
    (λ above' differs'. sorted_grown key y n bit leaf slot sorted.4 above' differs' is)
  where
    by_order : (bit < b) ⊎ (b ≤ bit) → ((bit_of n b ≡ true) × (n / 2 ^ b % 2 ≡ 1)) ⊎ ((bit_of n b ≡ false) × (n / 2 ^ b % 2 ≡ 0))
        → (n / 2 ^ (bit + 1) ≡ key (near n x) / 2 ^ (bit + 1) → n / 2 ^ bit ≢ key (near n x) / 2 ^ bit → Sorted key (grown n bit leaf slot x))
        → (n / 2 ^ (bit + 1) ≡ key (near n y) / 2 ^ (bit + 1) → n / 2 ^ bit ≢ key (near n y) / 2 ^ bit → Sorted key (grown n bit leaf slot y))
        → Sorted key (grown n bit leaf slot (fork at b x y))
    by_order (inr le) bits left right =
        subst (Sorted key) (sym (grown_stop n bit leaf slot at b x y le))
        (sorted_joined key (fork at b x y) n bit leaf slot sorted (beside_fork key at b x y n bit sorted above differs le) is)
    by_order (inl lt) (inl set) left right =
        let way = ap (λ z. cond z (near n y) (near n x)) set.0 in
        let above' = above ∙ ap (λ l. key l / 2 ^ (bit + 1)) way in
        let whole : Sorted key (fork at b x (grown n bit leaf slot y)) = (
          sorted.0,
          sorted.1,
          agree_grown key b (2 * sorted.0 + 1) y n bit leaf slot sorted.2 above' lt is,
          sorted.3,
          right above' (λ same. differs (same ∙ sym (ap (λ l. key l / 2 ^ bit) way))),
        ) in
        subst (Sorted key) (sym (grown_one n bit leaf slot at b x y lt set.0)) whole
    by_order (inl lt) (inr unset) left right =
        let way = ap (λ z. cond z (near n y) (near n x)) unset.0 in
        let above' = above ∙ ap (λ l. key l / 2 ^ (bit + 1)) way in
        let whole : Sorted key (fork at b (grown n bit leaf slot x) y) = (
          sorted.0,
          agree_grown key b (2 * sorted.0) x n bit leaf slot sorted.1 above' lt is,
          sorted.2,
          left above' (λ same. differs (same ∙ sym (ap (λ l. key l / 2 ^ bit) way))),
          sorted.4,
        ) in
        subst (Sorted key) (sym (grown_zero n bit leaf slot at b x y lt unset.0)) whole

-- ---- the leaf's place among the leaves

inserted_joined : (key : ℕ → ℕ) (t : Tree) (n bit leaf slot : ℕ) → StandsBeside key t n bit → IsInserted key n leaf (leaves_of t) (leaves_of (joined n bit leaf slot t))
inserted_joined key t n bit leaf slot beside = by_bit (bit_cases n bit)
  where
    by_bit : ((bit_of n bit ≡ true) × (n / 2 ^ bit % 2 ≡ 1)) ⊎ ((bit_of n bit ≡ false) × (n / 2 ^ bit % 2 ≡ 0)) → IsInserted key n leaf (leaves_of t) (leaves_of (joined n bit leaf slot t))
    by_bit (inl set) = record {
      front = leaves_of t;
      back = [];
      was = sym (append-nil (leaves_of t));
      is = ap (λ b. leaves_of (cond b (fork slot bit t (tip leaf)) (fork slot bit (tip leaf) t))) set.0;
      lesser = keys_below key t n bit beside set.1;
      greater = All-nil (λ l. n < key l);
    }
    by_bit (inr unset) = record {
      front = [];
      back = leaves_of t;
      was = refl;
      is = ap (λ b. leaves_of (cond b (fork slot bit t (tip leaf)) (fork slot bit (tip leaf) t))) unset.0;
      lesser = All-nil (λ l. key l < n);
      greater = keys_above key t n bit beside unset.1;
    }

-- beside a branch whose keys are all less, or all greater
inserted_right : (key : ℕ → ℕ) (n leaf : ℕ) (xs ys zs : List ℕ) → All (λ l. key l < n) xs → IsInserted key n leaf ys zs → IsInserted key n leaf (xs ++ ys) (xs ++ zs)
inserted_right key n leaf xs ys zs less in_right = record {
  front = xs ++ in_right.front;
  back = in_right.back;
  was = ap (λ l. xs ++ l) in_right.was ∙ sym (append_assoc xs in_right.front in_right.back);
  is = ap (λ l. xs ++ l) in_right.is ∙ sym (append_assoc xs in_right.front (leaf ∷ in_right.back));
  lesser = All-append (λ l. key l < n) xs in_right.front less in_right.lesser;
  greater = in_right.greater;
}

inserted_left : (key : ℕ → ℕ) (n leaf : ℕ) (xs ys zs : List ℕ) → All (λ l. n < key l) ys → IsInserted key n leaf xs zs → IsInserted key n leaf (xs ++ ys) (zs ++ ys)
inserted_left key n leaf xs ys zs more in_left = record {
  front = in_left.front;
  back = in_left.back ++ ys;
  was = ap (λ l. l ++ ys) in_left.was ∙ append_assoc in_left.front in_left.back ys;
  is = ap (λ l. l ++ ys) in_left.is ∙ append_assoc in_left.front (leaf ∷ in_left.back) ys;
  lesser = in_left.lesser;
  greater = All-append (λ l. n < key l) in_left.back ys in_left.greater more;
}

pub inserted_grown : (key : ℕ → ℕ) (t : Tree) (n bit leaf slot : ℕ) → Sorted key t → n / 2 ^ (bit + 1) ≡ key (near n t) / 2 ^ (bit + 1) → n / 2 ^ bit ≢ key (near n t) / 2 ^ bit
    → IsInserted key n leaf (leaves_of t) (leaves_of (grown n bit leaf slot t))
inserted_grown key (tip other) n bit leaf slot sorted above differs = inserted_joined key (tip other) n bit leaf slot (beside_tip key other n bit above differs)
inserted_grown key (fork at b x y) n bit leaf slot sorted above differs =
    by_order (cases_lt bit b) (bit_cases n b)
    (λ above' differs'. inserted_grown key x n bit leaf slot sorted.3 above' differs')
    (λ above' differs'. inserted_grown key y n bit leaf slot sorted.4 above' differs')
  where
    by_order : (bit < b) ⊎ (b ≤ bit) → ((bit_of n b ≡ true) × (n / 2 ^ b % 2 ≡ 1)) ⊎ ((bit_of n b ≡ false) × (n / 2 ^ b % 2 ≡ 0))
        → (n / 2 ^ (bit + 1) ≡ key (near n x) / 2 ^ (bit + 1) → n / 2 ^ bit ≢ key (near n x) / 2 ^ bit → IsInserted key n leaf (leaves_of x) (leaves_of (grown n bit leaf slot x)))
        → (n / 2 ^ (bit + 1) ≡ key (near n y) / 2 ^ (bit + 1) → n / 2 ^ bit ≢ key (near n y) / 2 ^ bit → IsInserted key n leaf (leaves_of y) (leaves_of (grown n bit leaf slot y)))
        → IsInserted key n leaf (leaves_of x ++ leaves_of y) (leaves_of (grown n bit leaf slot (fork at b x y)))
    by_order (inr le) bits left right =
        subst (λ z. IsInserted key n leaf (leaves_of x ++ leaves_of y) (leaves_of z)) (sym (grown_stop n bit leaf slot at b x y le))
        (inserted_joined key (fork at b x y) n bit leaf slot (beside_fork key at b x y n bit sorted above differs le))
    by_order (inl lt) (inl set) left right =
        let way = ap (λ z. cond z (near n y) (near n x)) set.0 in
        let above' = above ∙ ap (λ l. key l / 2 ^ (bit + 1)) way in
        let whole : n / 2 ^ b ≡ 2 * sorted.0 + 1 = same_higher n (key (near n y)) (bit + 1) b above' (omega arith) ∙ agree_at key b (2 * sorted.0 + 1) y (near n y) sorted.2 (near_has n y) in
        let less = all_leaves (λ l. key l < n) x (λ l has. let low = agree_at key b (2 * sorted.0) x l sorted.1 has in below_by_part (key l) n b (omega arith)) in
        subst (λ z. IsInserted key n leaf (leaves_of x ++ leaves_of y) (leaves_of z)) (sym (grown_one n bit leaf slot at b x y lt set.0))
        (inserted_right key n leaf (leaves_of x) (leaves_of y) _ less (right above' (λ same. differs (same ∙ sym (ap (λ l. key l / 2 ^ bit) way)))))
    by_order (inl lt) (inr unset) left right =
        let way = ap (λ z. cond z (near n y) (near n x)) unset.0 in
        let above' = above ∙ ap (λ l. key l / 2 ^ (bit + 1)) way in
        let whole : n / 2 ^ b ≡ 2 * sorted.0 = same_higher n (key (near n x)) (bit + 1) b above' (omega arith) ∙ agree_at key b (2 * sorted.0) x (near n x) sorted.1 (near_has n x) in
        let more = all_leaves (λ l. n < key l) y (λ l has. let high = agree_at key b (2 * sorted.0 + 1) y l sorted.2 has in below_by_part n (key l) b (omega arith)) in
        subst (λ z. IsInserted key n leaf (leaves_of x ++ leaves_of y) (leaves_of z)) (sym (grown_zero n bit leaf slot at b x y lt unset.0))
        (inserted_left key n leaf (leaves_of x) (leaves_of y) _ more (left above' (λ same. differs (same ∙ sym (ap (λ l. key l / 2 ^ bit) way)))))
