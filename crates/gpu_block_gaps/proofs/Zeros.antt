-- Numbers whose lower bits are 0: those lead to the first leaf that is not less.
use Rattle.std.proofs.Common.{◌≡◌, ℕ, ◌+◌, ◌*◌, ◌^◌, ◌<◌, ◌≤◌, ◌⊎◌, inl, inr, Bool, true, false, cond, nat_eq, refl, sym, ap, subst, ◌∙◌, arith}
use Rattle.std.proofs.lemmas.Bool.{cases_lt}
use Rattle.std.proofs.lemmas.Nat.Bits.{bit_at_cat_low, bit_at-zero}
use Rattle.gpu_block_gaps.specs.declared.tree.Node.{Node}
use Rattle.gpu_block_gaps.specs.declared.tree.Place.TheVariants.{Before}
use Rattle.gpu_block_gaps.specs.Key.{bit_of}
use Rattle.gpu_block_gaps.specs.Tree.{Tree, tip, fork, Slots, Lays, leaves_of, first_leaf, near, IsSplit, IsPlace}
use Rattle.gpu_block_gaps.proofs.Places.{split_branch, place_branch, place_tip, place_stop}

-- the bits of a start of 0
pub start_zero : (length bit : ℕ) → bit < 64 → bit_of (length * 2 ^ 64 + 0) bit ≡ false
start_zero length bit low = ap (λ m. nat_eq m 1) (bit_at_cat_low length 64 0 bit low ∙ bit_at-zero bit)

-- along forks whose bits are 0
first_of_zeros : (slots : Slots) (top : ℕ) (node : Node) (t : Tree) (n : ℕ) → Lays slots top node t → ((b : ℕ) → b < top → bit_of n b ≡ false) → near n t ≡ first_leaf t
first_of_zeros slots top node (tip leaf) n laid zeros = refl
first_of_zeros slots top node (fork at b x y) n laid zeros =
    ap (λ c. cond c (near n y) (near n x)) (zeros b laid.1) ∙ first_of_zeros slots b laid.2 x n laid.5 (λ d lt. zeros d (let a = laid.1 in omega arith))

-- the leaf to which the number's bits lead is the first of those with greater keys
pub near_stands : (key : ℕ → ℕ) (slots : Slots) (top : ℕ) (node : Node) (t : Tree) (n bit : ℕ) → Lays slots top node t → ((b : ℕ) → b ≤ bit → bit_of n b ≡ false) → IsSplit key t n bit
    → IsPlace key n (leaves_of t) (Before (near n t))
near_stands key slots top node (tip leaf) n bit laid zeros split = place_tip key leaf n bit split false (zeros bit (omega arith))
near_stands key slots top node (fork at b x y) n bit laid zeros split =
    by_order (near_stands key slots b laid.2 x n bit laid.5 zeros) (near_stands key slots b laid.3 y n bit laid.6 zeros) (cases_lt bit b)
  where
    by_bit : (IsSplit key x n bit → IsPlace key n (leaves_of x) (Before (near n x))) → (IsSplit key y n bit → IsPlace key n (leaves_of y) (Before (near n y)))
        → bit < b → (c : Bool) → bit_of n b ≡ c → IsPlace key n (leaves_of (fork at b x y)) (Before (cond c (near n y) (near n x)))
    by_bit left right lt true is = place_branch key at b x y n bit (Before (near n y)) split lt true is (right (split_branch key at b x y n bit split true is))
    by_bit left right lt false is = place_branch key at b x y n bit (Before (near n x)) split lt false is (left (split_branch key at b x y n bit split false is))

    by_order : (IsSplit key x n bit → IsPlace key n (leaves_of x) (Before (near n x))) → (IsSplit key y n bit → IsPlace key n (leaves_of y) (Before (near n y)))
        → (bit < b) ⊎ (b ≤ bit) → IsPlace key n (leaves_of (fork at b x y)) (Before (near n (fork at b x y)))
    by_order left right (inl lt) = by_bit left right lt (bit_of n b) refl
    by_order left right (inr le) =
        let low : Lays slots (b + 1) node (fork at b x y) = (laid.0, omega arith, laid.2, laid.3, laid.4, laid.5, laid.6) in
        subst (λ l. IsPlace key n (leaves_of (fork at b x y)) (Before l)) (sym (first_of_zeros slots (b + 1) node (fork at b x y) n low (λ d lt. zeros d (omega arith))))
        (place_stop key at b x y n bit split le false (zeros bit (omega arith)))
