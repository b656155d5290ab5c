-- A tree with one leaf more.
use Rattle.std.proofs.Common.{◌≡◌, ◌≢◌, ℕ, ◌+◌, ◌*◌, ◌/◌, ◌%◌, ◌^◌, ◌<◌, ◌≤◌, ◌⊎◌, inl, inr, Bool, true, false, cond, nat_lt, sym, ap, subst, ◌∙◌, arith}
use Rattle.std.proofs.lemmas.Bool.{cases_lt, lt-ltb, le-ltb}
use Rattle.gpu_block_gaps.specs.Key.{bit_of}
use Rattle.gpu_block_gaps.specs.Tree.{Tree, tip, fork, HasLeaf, HasFork, Sorted, near, joined, grown}
use Rattle.gpu_block_gaps.proofs.Bits.{halves, same_higher}
use Rattle.gpu_block_gaps.proofs.Shapes.{bit_cases, near_has, agree_at}

-- ---- numbers that differ in one bit, and in none above it

same_bit : (m n k : ℕ) → m / 2 ^ (k + 1) ≡ n / 2 ^ (k + 1) → m / 2 ^ k % 2 ≡ n / 2 ^ k % 2 → m / 2 ^ k ≡ n / 2 ^ k
same_bit m n k above bit =
    let a = halves m k in
    let b = halves n k in
    omega arith

-- the two numbers stand on either side of the next bit
pub other_below : (n h k : ℕ) → n / 2 ^ (k + 1) ≡ h / 2 ^ (k + 1) → n / 2 ^ k ≢ h / 2 ^ k → n / 2 ^ k % 2 ≡ 1 → (h / 2 ^ k ≡ 2 * (n / 2 ^ (k + 1))) × (n / 2 ^ k ≡ 2 * (n / 2 ^ (k + 1)) + 1)
other_below n h k above differs set =
    let a = halves n k in
    let b = halves h k in
    ((omega arith), (omega arith))

pub other_above : (n h k : ℕ) → n / 2 ^ (k + 1) ≡ h / 2 ^ (k + 1) → n / 2 ^ k ≢ h / 2 ^ k → n / 2 ^ k % 2 ≡ 0 → (h / 2 ^ k ≡ 2 * (n / 2 ^ (k + 1)) + 1) × (n / 2 ^ k ≡ 2 * (n / 2 ^ (k + 1)))
other_above n h k above differs unset =
    let a = halves n k in
    let b = halves h k in
    ((omega arith), (omega arith))

-- above a fork's bit all keys below it are one
pub upper : (key : ℕ → ℕ) (slot bit : ℕ) (x y : Tree) (sorted : Sorted key (fork slot bit x y)) (leaf : ℕ) → HasLeaf leaf (fork slot bit x y) → key leaf / 2 ^ (bit + 1) ≡ sorted.0
upper key slot bit x y sorted leaf (inl has) =
    let low = agree_at key bit (2 * sorted.0) x leaf sorted.1 has in
    let half = halves (key leaf) bit in
    omega arith
upper key slot bit x y sorted leaf (inr has) =
    let low = agree_at key bit (2 * sorted.0 + 1) y leaf sorted.2 has in
    let half = halves (key leaf) bit in
    omega arith

-- a fork with the very bit in which the number differs is not on its way
pub falls_short : (key : ℕ → ℕ) (slot b : ℕ) (x y : Tree) (n bit : ℕ) → Sorted key (fork slot b x y) → n / 2 ^ (bit + 1) ≡ key (near n (fork slot b x y)) / 2 ^ (bit + 1)
    → n / 2 ^ bit ≢ key (near n (fork slot b x y)) / 2 ^ bit → b ≤ bit → b < bit
falls_short key slot b x y n bit sorted above differs le = by_order (cases_lt b bit)
  where
    at_bit : (b ≡ bit) → ((bit_of n b ≡ true) × (n / 2 ^ b % 2 ≡ 1)) ⊎ ((bit_of n b ≡ false) × (n / 2 ^ b % 2 ≡ 0)) → ⊥
    at_bit same (inl set) =
        let way = ap (λ z. cond z (near n y) (near n x)) set.0 in
        let high = subst (λ k. n / 2 ^ (k + 1) ≡ key (near n (fork slot b x y)) / 2 ^ (k + 1)) (sym same) above ∙ ap (λ l. key l / 2 ^ (b + 1)) way in
        let low = agree_at key b (2 * sorted.0 + 1) y (near n y) sorted.2 (near_has n y) in
        let one = set.1 in
        let whole = same_bit n (key (near n y)) b high (omega arith) in
        differs (subst (λ k. n / 2 ^ k ≡ key (near n (fork slot b x y)) / 2 ^ k) same (whole ∙ sym (ap (λ l. key l / 2 ^ b) way)))
    at_bit same (inr unset) =
        let way = ap (λ z. cond z (near n y) (near n x)) unset.0 in
        let high = subst (λ k. n / 2 ^ (k + 1) ≡ key (near n (fork slot b x y)) / 2 ^ (k + 1)) (sym same) above ∙ ap (λ l. key l / 2 ^ (b + 1)) way in
        let low = agree_at key b (2 * sorted.0) x (near n x) sorted.1 (near_has n x) in
        let zero = unset.1 in
        let whole = same_bit n (key (near n x)) b high (omega arith) in
        differs (subst (λ k. n / 2 ^ k ≡ key (near n (fork slot b x y)) / 2 ^ k) same (whole ∙ sym (ap (λ l. key l / 2 ^ b) way)))

    by_order : (b < bit) ⊎ (bit ≤ b) → b < bit
    by_order (inl lt) = lt
    by_order (inr ge) = absurd (at_bit (omega arith) (bit_cases n b))

-- from that bit on, the keys of such a fork's leaves are that of the leaf that the number's bits lead to
pub agree_low : (key : ℕ → ℕ) (slot b : ℕ) (x y : Tree) (n bit : ℕ) → Sorted key (fork slot b x y) → b < bit → (leaf : ℕ) → HasLeaf leaf (fork slot b x y)
    → key leaf / 2 ^ bit ≡ key (near n (fork slot b x y)) / 2 ^ bit
agree_low key slot b x y n bit sorted lt leaf has =
    let here = upper key slot b x y sorted leaf has in
    let there = upper key slot b x y sorted (near n (fork slot b x y)) (near_has n (fork slot b x y)) in
    same_higher (key leaf) (key (near n (fork slot b x y))) (b + 1) bit (here ∙ sym there) (omega arith)

-- ---- the tree with the leaf

module _ (n bit leaf slot : ℕ) where
  pub grown_one : (at b : ℕ) (x y : Tree) → bit < b → bit_of n b ≡ true → grown n bit leaf slot (fork at b x y) ≡ fork at b x (grown n bit leaf slot y)
  grown_one at b x y lt set =
      ap (λ c. cond c (cond (bit_of n b) (fork at b x (grown n bit leaf slot y)) (fork at b (grown n bit leaf slot x) y)) (joined n bit leaf slot (fork at b x y))) (lt-ltb bit b lt)
      ∙ ap (λ c. cond c (fork at b x (grown n bit leaf slot y)) (fork at b (grown n bit leaf slot x) y)) set

  pub grown_zero : (at b : ℕ) (x y : Tree) → bit < b → bit_of n b ≡ false → grown n bit leaf slot (fork at b x y) ≡ fork at b (grown n bit leaf slot x) y
  grown_zero at b x y lt unset =
      ap (λ c. cond c (cond (bit_of n b) (fork at b x (grown n bit leaf slot y)) (fork at b (grown n bit leaf slot x) y)) (joined n bit leaf slot (fork at b x y))) (lt-ltb bit b lt)
      ∙ ap (λ c. cond c (fork at b x (grown n bit leaf slot y)) (fork at b (grown n bit leaf slot x) y)) unset

  pub grown_stop : (at b : ℕ) (x y : Tree) → b ≤ bit → grown n bit leaf slot (fork at b x y) ≡ joined n bit leaf slot (fork at b x y)
  grown_stop at b x y le =
      ap (λ c. cond c (cond (bit_of n b) (fork at b x (grown n bit leaf slot y)) (fork at b (grown n bit leaf slot x) y)) (joined n bit leaf slot (fork at b x y))) (le-ltb bit b le)

  leaf_joined : (t : Tree) (l : ℕ) → HasLeaf l (joined n bit leaf slot t) → HasLeaf l t ⊎ (l ≡ leaf)
  leaf_joined t l = by_bit (bit_of n bit)
    where
      by_bit : (b : Bool) → HasLeaf l (cond b (fork slot bit t (tip leaf)) (fork slot bit (tip leaf) t)) → HasLeaf l t ⊎ (l ≡ leaf)
      by_bit true (inl has) = inl has
      by_bit true (inr is) = inr is
      by_bit false (inl is) = inr is
      by_bit false (inr has) = inl has

  fork_joined : (t : Tree) (k : ℕ) → HasFork k (joined n bit leaf slot t) → HasFork k t ⊎ (k ≡ slot)
  fork_joined t k = by_bit (bit_of n bit)
    where
      by_bit : (b : Bool) → HasFork k (cond b (fork slot bit t (tip leaf)) (fork slot bit (tip leaf) t)) → HasFork k t ⊎ (k ≡ slot)
      by_bit true (inl is) = inr is
      by_bit true (inr (inl has)) = inl has
      by_bit true (inr (inr none)) = absurd none
      by_bit false (inl is) = inr is
      by_bit false (inr (inl none)) = absurd none
      by_bit false (inr (inr has)) = inl has

  pub leaf_grown : (t : Tree) (l : ℕ) → HasLeaf l (grown n bit leaf slot t) → HasLeaf l t ⊎ (l ≡ leaf)
  leaf_grown (tip other) l has = leaf_joined (tip other) l has
  leaf_grown (fork at b x y) l has = by_test (nat_lt bit b) (bit_of n b) (grown n bit leaf slot x) (grown n bit leaf slot y) (leaf_grown x l) (leaf_grown y l) has
    where
      by_test : (c d : Bool) (v w : Tree) → (HasLeaf l v → HasLeaf l x ⊎ (l ≡ leaf)) → (HasLeaf l w → HasLeaf l y ⊎ (l ≡ leaf))
          → HasLeaf l (cond c (cond d (fork at b x w) (fork at b v y)) (joined n bit leaf slot (fork at b x y))) → (HasLeaf l x ⊎ HasLeaf l y) ⊎ (l ≡ leaf)
      by_test false d v w left right has = leaf_joined (fork at b x y) l has
      by_test true true v w left right (inl has) = inl (inl has)
      by_test true true v w left right (inr has) = elim (right has) as (λ _. (HasLeaf l x ⊎ HasLeaf l y) ⊎ (l ≡ leaf)) [ inl h ↦ inl (inr h) | inr e ↦ inr e ]
      by_test true false v w left right (inl has) = elim (left has) as (λ _. (HasLeaf l x ⊎ HasLeaf l y) ⊎ (l ≡ leaf)) [ inl h ↦ inl (inl h) | inr e ↦ inr e ]
      by_test true false v w left right (inr has) = inl (inr has)

  pub fork_grown : (t : Tree) (k : ℕ) → HasFork k (grown n bit leaf slot t) → HasFork k t ⊎ (k ≡ slot)
  fork_grown (tip other) k has = fork_joined (tip other) k has
  fork_grown (fork at b x y) k has = by_test (nat_lt bit b) (bit_of n b) (grown n bit leaf slot x) (grown n bit leaf slot y) (fork_grown x k) (fork_grown y k) has
    where
      by_test : (c d : Bool) (v w : Tree) → (HasFork k v → HasFork k x ⊎ (k ≡ slot)) → (HasFork k w → HasFork k y ⊎ (k ≡ slot))
          → HasFork k (cond c (cond d (fork at b x w) (fork at b v y)) (joined n bit leaf slot (fork at b x y))) → HasFork k (fork at b x y) ⊎ (k ≡ slot)
      by_test false d v w left right has = fork_joined (fork at b x y) k has
      by_test true true v w left right (inl is) = inl (inl is)
      by_test true true v w left right (inr (inl has)) = inl (inr (inl has))
      by_test true true v w left right (inr (inr has)) = elim (right has) as (λ _. HasFork k (fork at b x y) ⊎ (k ≡ slot)) [ inl h ↦ inl (inr (inr h)) | inr e ↦ inr e ]
      by_test true false v w left right (inl is) = inl (inl is)
      by_test true false v w left right (inr (inl has)) = elim (left has) as (λ _. HasFork k (fork at b x y) ⊎ (k ≡ slot)) [ inl h ↦ inl (inr (inl h)) | inr e ↦ inr e ]
      by_test true false v w left right (inr (inr has)) = inl (inr (inr has))
