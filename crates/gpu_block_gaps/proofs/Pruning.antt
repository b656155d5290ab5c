-- A tree without one of its leaves.
use Rattle.std.proofs.Common.{◌≡◌, ◌≢◌, ℕ, ◌+◌, ◌*◌, ◌/◌, ◌%◌, ◌^◌, ◌<◌, List, [], ◌∷◌, ◌++◌, Some, ◌⊎◌, inl, inr, Bool, true, false, cond, refl, sym, ap, subst, ◌∙◌, arith}
use Rattle.std.proofs.lemmas.List.{append-nil, append_assoc}
use Rattle.gpu_block_gaps.specs.declared.tree.Node.{Node}
use Rattle.gpu_block_gaps.specs.declared.tree.Node.TheVariants.{Branch}
use Rattle.gpu_block_gaps.specs.Key.{bit_of}
use Rattle.gpu_block_gaps.specs.Tree.{Tree, tip, fork, Slots, Lays, HasLeaf, HasFork, Agree, Sorted, leaves_of, near, is_tip, pruned, freed, HasPruned, IsTaken}
use Rattle.gpu_block_gaps.proofs.Trees.{lays_under}
use Rattle.gpu_block_gaps.proofs.Shapes.{bit_cases, agree_at, agree_all, apart, own_left, own_right, lays_kept, fork_of}

module _ (n at b : ℕ) (x y : Tree) where
  pub pruned_one : bit_of n b ≡ true → is_tip y ≡ false → pruned n (fork at b x y) ≡ fork at b x (pruned n y)
  pruned_one set more =
      ap (λ c. cond c (cond (is_tip y) x (fork at b x (pruned n y))) (cond (is_tip x) y (fork at b (pruned n x) y))) set ∙ ap (λ c. cond c x (fork at b x (pruned n y))) more

  pub pruned_one_tip : bit_of n b ≡ true → is_tip y ≡ true → pruned n (fork at b x y) ≡ x
  pruned_one_tip set last =
      ap (λ c. cond c (cond (is_tip y) x (fork at b x (pruned n y))) (cond (is_tip x) y (fork at b (pruned n x) y))) set ∙ ap (λ c. cond c x (fork at b x (pruned n y))) last

  pub pruned_zero : bit_of n b ≡ false → is_tip x ≡ false → pruned n (fork at b x y) ≡ fork at b (pruned n x) y
  pruned_zero unset more =
      ap (λ c. cond c (cond (is_tip y) x (fork at b x (pruned n y))) (cond (is_tip x) y (fork at b (pruned n x) y))) unset ∙ ap (λ c. cond c y (fork at b (pruned n x) y)) more

  pub pruned_zero_tip : bit_of n b ≡ false → is_tip x ≡ true → pruned n (fork at b x y) ≡ y
  pruned_zero_tip unset last =
      ap (λ c. cond c (cond (is_tip y) x (fork at b x (pruned n y))) (cond (is_tip x) y (fork at b (pruned n x) y))) unset ∙ ap (λ c. cond c y (fork at b (pruned n x) y)) last

  pub freed_one : bit_of n b ≡ true → is_tip y ≡ false → freed n (fork at b x y) ≡ freed n y
  freed_one set more = ap (λ c. cond c (cond (is_tip y) at (freed n y)) (cond (is_tip x) at (freed n x))) set ∙ ap (λ c. cond c at (freed n y)) more

  pub freed_one_tip : bit_of n b ≡ true → is_tip y ≡ true → freed n (fork at b x y) ≡ at
  freed_one_tip set last = ap (λ c. cond c (cond (is_tip y) at (freed n y)) (cond (is_tip x) at (freed n x))) set ∙ ap (λ c. cond c at (freed n y)) last

  pub freed_zero : bit_of n b ≡ false → is_tip x ≡ false → freed n (fork at b x y) ≡ freed n x
  freed_zero unset more = ap (λ c. cond c (cond (is_tip y) at (freed n y)) (cond (is_tip x) at (freed n x))) unset ∙ ap (λ c. cond c at (freed n x)) more

  pub freed_zero_tip : bit_of n b ≡ false → is_tip x ≡ true → freed n (fork at b x y) ≡ at
  freed_zero_tip unset last = ap (λ c. cond c (cond (is_tip y) at (freed n y)) (cond (is_tip x) at (freed n x))) unset ∙ ap (λ c. cond c at (freed n x)) last

-- ---- what is left of it

pub leaf_pruned : (n : ℕ) (t : Tree) (l : ℕ) → HasLeaf l (pruned n t) → HasLeaf l t
leaf_pruned n (tip leaf) l has = has
leaf_pruned n (fork at b x y) l has = by_test (bit_of n b) (is_tip x) (is_tip y) (pruned n x) (pruned n y) (leaf_pruned n x l) (leaf_pruned n y l) has
  where
    by_test : (c d e : Bool) (v w : Tree) → (HasLeaf l v → HasLeaf l x) → (HasLeaf l w → HasLeaf l y)
        → HasLeaf l (cond c (cond e x (fork at b x w)) (cond d y (fork at b v y))) → HasLeaf l x ⊎ HasLeaf l y
    by_test true d true v w left right has = inl has
    by_test true d false v w left right (inl has) = inl has
    by_test true d false v w left right (inr has) = inr (right has)
    by_test false true e v w left right has = inr has
    by_test false false e v w left right (inl has) = inl (left has)
    by_test false false e v w left right (inr has) = inr has

pub fork_pruned : (n : ℕ) (t : Tree) (k : ℕ) → HasFork k (pruned n t) → HasFork k t
fork_pruned n (tip leaf) k has = has
fork_pruned n (fork at b x y) k has = by_test (bit_of n b) (is_tip x) (is_tip y) (pruned n x) (pruned n y) (fork_pruned n x k) (fork_pruned n y k) has
  where
    by_test : (c d e : Bool) (v w : Tree) → (HasFork k v → HasFork k x) → (HasFork k w → HasFork k y)
        → HasFork k (cond c (cond e x (fork at b x w)) (cond d y (fork at b v y))) → HasFork k (fork at b x y)
    by_test true d true v w left right has = inr (inl has)
    by_test true d false v w left right (inl is) = inl is
    by_test true d false v w left right (inr (inl has)) = inr (inl has)
    by_test true d false v w left right (inr (inr has)) = inr (inr (right has))
    by_test false true e v w left right has = inr (inr has)
    by_test false false e v w left right (inl is) = inl is
    by_test false false e v w left right (inr (inl has)) = inr (inl (left has))
    by_test false false e v w left right (inr (inr has)) = inr (inr has)

pub sorted_pruned : (key : ℕ → ℕ) (n : ℕ) (t : Tree) → Sorted key t → Sorted key (pruned n t)
sorted_pruned key n (tip leaf) sorted = tt
sorted_pruned key n (fork at b x y) sorted =
    by_test (bit_of n b) (is_tip x) (is_tip y) (pruned n x) (pruned n y)
    (agree_all key b (2 * sorted.0) (pruned n x) (λ l has. agree_at key b (2 * sorted.0) x l sorted.1 (leaf_pruned n x l has)))
    (agree_all key b (2 * sorted.0 + 1) (pruned n y) (λ l has. agree_at key b (2 * sorted.0 + 1) y l sorted.2 (leaf_pruned n y l has)))
    (sorted_pruned key n x sorted.3) (sorted_pruned key n y sorted.4)
  where
    by_test : (c d e : Bool) (v w : Tree) → Agree key b (2 * sorted.0) v → Agree key b (2 * sorted.0 + 1) w → Sorted key v → Sorted key w
        → Sorted key (cond c (cond e x (fork at b x w)) (cond d y (fork at b v y)))
    by_test true d true v w zero one left right = sorted.3
    by_test true d false v w zero one left right = (sorted.0, sorted.1, one, sorted.3, right)
    by_test false true e v w zero one left right = sorted.4
    by_test false false e v w zero one left right = (sorted.0, zero, sorted.2, left, sorted.4)

-- the bits of a leaf's key lead to it
pub near_finds : (key : ℕ → ℕ) (t : Tree) (leaf : ℕ) → Sorted key t → HasLeaf leaf t → near (key leaf) t ≡ leaf
near_finds key (tip other) leaf sorted has = sym has
near_finds key (fork at b x y) leaf sorted (inl has) = by_bit (bit_cases (key leaf) b) (near_finds key x leaf sorted.3 has)
  where
    by_bit : ((bit_of (key leaf) b ≡ true) × (key leaf / 2 ^ b % 2 ≡ 1)) ⊎ ((bit_of (key leaf) b ≡ false) × (key leaf / 2 ^ b % 2 ≡ 0)) → near (key leaf) x ≡ leaf
        → near (key leaf) (fork at b x y) ≡ leaf
    by_bit (inl one) found = absurd (let low = agree_at key b (2 * sorted.0) x leaf sorted.1 has in let odd = one.1 in omega arith)
    by_bit (inr zero) found = ap (λ z. cond z (near (key leaf) y) (near (key leaf) x)) zero.0 ∙ found
near_finds key (fork at b x y) leaf sorted (inr has) = by_bit (bit_cases (key leaf) b) (near_finds key y leaf sorted.4 has)
  where
    by_bit : ((bit_of (key leaf) b ≡ true) × (key leaf / 2 ^ b % 2 ≡ 1)) ⊎ ((bit_of (key leaf) b ≡ false) × (key leaf / 2 ^ b % 2 ≡ 0)) → near (key leaf) y ≡ leaf
        → near (key leaf) (fork at b x y) ≡ leaf
    by_bit (inl one) found = ap (λ z. cond z (near (key leaf) y) (near (key leaf) x)) one.0 ∙ found
    by_bit (inr zero) found = absurd (let high = agree_at key b (2 * sorted.0 + 1) y leaf sorted.2 has in let even = zero.1 in omega arith)

-- ---- the fork above the leaf

tip_of : (t : Tree) → is_tip t ≡ true → (leaf : ℕ) × (t ≡ tip leaf)
tip_of (tip leaf) is = (leaf, refl)
tip_of (fork at b x y) is = absurd (cc)

-- the slot that is given back is one of the tree's forks
pub freed_has : (n : ℕ) (t : Tree) → is_tip t ≡ false → HasFork (freed n t) t
freed_has n (tip leaf) more = absurd (cc)
freed_has n (fork at b x y) more = by_test (bit_of n b) (is_tip x) (is_tip y) refl refl (freed_has n x) (freed_has n y)
  where
    by_test : (c d e : Bool) → is_tip x ≡ d → is_tip y ≡ e → (is_tip x ≡ false → HasFork (freed n x) x) → (is_tip y ≡ false → HasFork (freed n y) y)
        → HasFork (cond c (cond e at (freed n y)) (cond d at (freed n x))) (fork at b x y)
    by_test true d true is_x is_y left right = inl refl
    by_test true d false is_x is_y left right = inr (inr (right is_y))
    by_test false true e is_x is_y left right = inl refl
    by_test false false e is_x is_y left right = inr (inl (left is_x))

-- and not one of those that are left
pub freed_gone : (key : ℕ → ℕ) (slots : Slots) (top : ℕ) (node : Node) (n : ℕ) (t : Tree) → Lays slots top node t → Sorted key t → HasFork (freed n t) (pruned n t) → ⊥
freed_gone key slots top node n (tip leaf) laid sorted has = has
freed_gone key slots top node n (fork at b x y) laid sorted has =
    by_test (bit_of n b) (is_tip x) (is_tip y) refl refl
    (λ h. freed_gone key slots b laid.2 n x laid.5 sorted.3 h) (λ h. freed_gone key slots b laid.3 n y laid.6 sorted.4 h) has
  where
    own_x : HasFork at x → ⊥
    own_x = own_left key slots top node at b x y laid sorted

    own_y : HasFork at y → ⊥
    own_y = own_right key slots top node at b x y laid sorted

    divided : (k : ℕ) → HasFork k x → HasFork k y → ⊥
    divided k in_x in_y = apart key slots b sorted.0 laid.2 laid.3 x y k laid.5 laid.6 sorted.1 sorted.2 in_x in_y

    by_test : (c d e : Bool) → is_tip x ≡ d → is_tip y ≡ e → (HasFork (freed n x) (pruned n x) → ⊥) → (HasFork (freed n y) (pruned n y) → ⊥)
        → HasFork (cond c (cond e at (freed n y)) (cond d at (freed n x))) (cond c (cond e x (fork at b x (pruned n y))) (cond d y (fork at b (pruned n x) y))) → ⊥
    by_test true d true is_x is_y left right h = own_x h
    by_test true d false is_x is_y left right (inl same) = own_y (subst (λ j. HasFork j y) same (freed_has n y is_y))
    by_test true d false is_x is_y left right (inr (inl h)) = divided (freed n y) h (freed_has n y is_y)
    by_test true d false is_x is_y left right (inr (inr h)) = right h
    by_test false true e is_x is_y left right h = own_y h
    by_test false false e is_x is_y left right (inl same) = own_x (subst (λ j. HasFork j x) same (freed_has n x is_x))
    by_test false false e is_x is_y left right (inr (inl h)) = left h
    by_test false false e is_x is_y left right (inr (inr h)) = divided (freed n x) (freed_has n x is_x) h

-- ---- the leaves that are left

taken_right : (leaf : ℕ) (xs ys zs : List ℕ) → IsTaken leaf ys zs → IsTaken leaf (xs ++ ys) (xs ++ zs)
taken_right leaf xs ys zs taken = record {
  front = xs ++ taken.front;
  back = taken.back;
  was = ap (λ l. xs ++ l) taken.was ∙ sym (append_assoc xs taken.front (leaf ∷ taken.back));
  is = ap (λ l. xs ++ l) taken.is ∙ sym (append_assoc xs taken.front taken.back);
}

taken_left : (leaf : ℕ) (xs ys zs : List ℕ) → IsTaken leaf xs zs → IsTaken leaf (xs ++ ys) (zs ++ ys)
taken_left leaf xs ys zs taken = record {
  front = taken.front;
  back = taken.back ++ ys;
  was = ap (λ l. l ++ ys) taken.was ∙ append_assoc taken.front (leaf ∷ taken.back) ys;
  is = ap (λ l. l ++ ys) taken.is ∙ append_assoc taken.front taken.back ys;
}

pub leaves_pruned : (n : ℕ) (t : Tree) → is_tip t ≡ false → IsTaken (near n t) (leaves_of t) (leaves_of (pruned n t))
leaves_pruned n (tip leaf) more = absurd (cc)
leaves_pruned n (fork at b x y) more = by_test (bit_of n b) (is_tip x) (is_tip y) refl refl (leaves_pruned n x) (leaves_pruned n y)
  where
    by_test : (c d e : Bool) → is_tip x ≡ d → is_tip y ≡ e → (is_tip x ≡ false → IsTaken (near n x) (leaves_of x) (leaves_of (pruned n x)))
        → (is_tip y ≡ false → IsTaken (near n y) (leaves_of y) (leaves_of (pruned n y)))
        → IsTaken (cond c (near n y) (near n x)) (leaves_of x ++ leaves_of y) (leaves_of (cond c (cond e x (fork at b x (pruned n y))) (cond d y (fork at b (pruned n x) y))))
    by_test true d true is_x is_y left right =
        let last = tip_of y is_y in
        record {
          front = leaves_of x;
          back = [];
          was = ap (λ (t : Tree). leaves_of x ++ leaves_of t) last.1 ∙ ap (λ (t : Tree). leaves_of x ++ near n t ∷ []) (sym last.1);
          is = sym (append-nil (leaves_of x));
        }
    by_test true d false is_x is_y left right = taken_right (near n y) (leaves_of x) (leaves_of y) (leaves_of (pruned n y)) (right is_y)
    by_test false true e is_x is_y left right =
        let last = tip_of x is_x in
        record {
          front = [];
          back = leaves_of y;
          was = ap (λ (t : Tree). leaves_of t ++ leaves_of y) last.1 ∙ ap (λ (t : Tree). near n t ∷ leaves_of y) (sym last.1);
          is = refl;
        }
    by_test false false e is_x is_y left right = taken_left (near n x) (leaves_of x) (leaves_of y) (leaves_of (pruned n x)) (left is_x)

-- ---- how it lies in the slots

pub pruned_tip : (key : ℕ → ℕ) (slots : Slots) (top at b : ℕ) (zero one : Node) (x y : Tree) (n : ℕ) → Lays slots b zero x → Lays slots b one y → b < top
    → (c : Bool) → bit_of n b ≡ c → is_tip (cond c y x) ≡ true → HasPruned slots slots top (cond c zero one) (fork at b x y) n at
pruned_tip key slots top at b zero one x y n left right below true set last = record {
  laid = subst (λ z. Lays slots top zero z) (sym (pruned_one_tip n at b x y set last)) (lays_under slots b top zero x left (omega arith));
  unused = sym (freed_one_tip n at b x y set last);
  others = λ k out. refl;
}
pruned_tip key slots top at b zero one x y n left right below false unset last = record {
  laid = subst (λ z. Lays slots top one z) (sym (pruned_zero_tip n at b x y unset last)) (lays_under slots b top one y right (omega arith));
  unused = sym (freed_zero_tip n at b x y unset last);
  others = λ k out. refl;
}

pub pruned_branch : (key : ℕ → ℕ) (old mid new : Slots) (top at b : ℕ) (zero one branch : Node) (x y : Tree) (n slot : ℕ)
    → Lays old top (Branch at) (fork at b x y) → Sorted key (fork at b x y) → Lays old b zero x → Lays old b one y → (c : Bool) → bit_of n b ≡ c → is_tip (cond c y x) ≡ false
    → HasPruned old mid b branch (cond c y x) n slot → new at ≡ Some (cond c (fork_of zero branch b) (fork_of branch one b)) → ((k : ℕ) → k ≢ at → new k ≡ mid k)
    → HasPruned old new top (Branch at) (fork at b x y) n slot
pruned_branch key old mid new top at b zero one branch x y n slot laid sorted left right c is more cut put others = by_bit c is more cut put
  where
    own_x : HasFork at x → ⊥
    own_x = own_left key old top (Branch at) at b x y laid sorted

    own_y : HasFork at y → ⊥
    own_y = own_right key old top (Branch at) at b x y laid sorted

    divided : (k : ℕ) → HasFork k x → HasFork k y → ⊥
    divided k in_x in_y = apart key old b sorted.0 zero one x y k left right sorted.1 sorted.2 in_x in_y

    by_bit : (c : Bool) → bit_of n b ≡ c → is_tip (cond c y x) ≡ false → HasPruned old mid b branch (cond c y x) n slot
        → new at ≡ Some (cond c (fork_of zero branch b) (fork_of branch one b)) → HasPruned old new top (Branch at) (fork at b x y) n slot
    by_bit true set more' cut' put' =
        let kept = lays_kept old new b zero x (λ k has. others k (λ same. own_x (subst (λ j. HasFork j x) same has)) ∙ cut'.others k (λ in_y. divided k has in_y)) left in
        let moved = lays_kept mid new b branch (pruned n y) (λ k has. others k (λ same. own_y (subst (λ j. HasFork j y) same (fork_pruned n y k has)))) cut'.laid in
        let whole : Lays new top (Branch at) (fork at b x (pruned n y)) = (refl, laid.1, zero, branch, put', kept, moved) in
        record {
          laid = subst (Lays new top (Branch at)) (sym (pruned_one n at b x y set more')) whole;
          unused = cut'.unused ∙ sym (freed_one n at b x y set more');
          others = λ k out. others k (λ same. out (inl same)) ∙ cut'.others k (λ has. out (inr (inr has)));
        }
    by_bit false unset more' cut' put' =
        let kept = lays_kept old new b one y (λ k has. others k (λ same. own_y (subst (λ j. HasFork j y) same has)) ∙ cut'.others k (λ in_x. divided k in_x has)) right in
        let moved = lays_kept mid new b branch (pruned n x) (λ k has. others k (λ same. own_x (subst (λ j. HasFork j x) same (fork_pruned n x k has)))) cut'.laid in
        let whole : Lays new top (Branch at) (fork at b (pruned n x) y) = (refl, laid.1, branch, one, put', moved, kept) in
        record {
          laid = subst (Lays new top (Branch at)) (sym (pruned_zero n at b x y unset more')) whole;
          unused = cut'.unused ∙ sym (freed_zero n at b x y unset more');
          others = λ k out. others k (λ same. out (inl same)) ∙ cut'.others k (λ has. out (inr (inl has)));
        }
