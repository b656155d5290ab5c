-- Numbers by their bits: quotients by powers of two.
use Rattle.std.proofs.Common.{◌≡◌, ◌≢◌, ℕ, suc, ◌+◌, ◌-◌, ◌*◌, ◌/◌, ◌%◌, ◌^◌, ◌<◌, ◌≤◌, sym, ap, subst, ◌∙◌, arith}
use Rattle.std.specs.Int.{bit_at}
use Rattle.std.specs.Int.RustNames.{bit_xor}
use Rattle.std.specs.Int.Bits.{xor_self}
use Rattle.std.proofs.Math.Nat.{mul-add-div_right, mul_assoc, div-eq_of_lt, div-mul-le_self}
use Rattle.std.proofs.lemmas.Nat.{leading_top, xor_lt, xor_shr, shr-shr, shr_high, pow_pos, pow-add, le-div}
use Rattle.std.proofs.lemmas.Nat.Bits.{bit_at_xor, bit_at-zero, bit_at-lt, same_from_bits}
use lib.Count.{count_leading_zeros}
use Rattle.std.proofs.Common.{◌⊎◌, inl, inr}
use Rattle.std.proofs.lemmas.Bool.{cases_lt}

pub quotient_le : (a b k : ℕ) → a ≤ b → a / 2 ^ k ≤ b / 2 ^ k
quotient_le a b k le = let whole = div-mul-le_self a (2 ^ k) in le-div (a / 2 ^ k) b (2 ^ k) (pow_pos k) (omega arith)

-- numbers in which no bit differs
pub xor_none : (a b : ℕ) → bit_xor a b ≡ 0 → a ≡ b
xor_none a b none = same_from_bits a b (λ i. same i)
  where
    same : (i : ℕ) → bit_at a i ≡ bit_at b i
    same i =
        let x = bit_at-lt a i in
        let y = bit_at-lt b i in
        let both : (bit_at a i + bit_at b i) % 2 ≡ 0 = sym (bit_at_xor a b i) ∙ ap (λ n. bit_at n i) none ∙ bit_at-zero i in
        omega arith

-- the highest bit in which two numbers differ
pub record Differ (w a b : ℕ) : Type 0 where
  pub bit : ℕ
  pub counted : count_leading_zeros w (bit_xor a b) + suc bit ≡ w
  pub above : a / 2 ^ (bit + 1) ≡ b / 2 ^ (bit + 1)
  pub apart : a / 2 ^ bit ≢ b / 2 ^ bit

pub differ : (w a b : ℕ) → a < 2 ^ w → b < 2 ^ w → a ≢ b → Differ w a b
differ w a b below_a below_b other =
    let some : bit_xor a b ≢ 0 = λ none. other (xor_none a b none) in
    let top = leading_top w (bit_xor a b) (omega arith) (xor_lt w a b below_a below_b) in
    let j = top.0 in
    let low = top.2 in
    let high : bit_xor a b < 2 ^ (j + 1) = subst (λ n. bit_xor a b < 2 ^ n) (omega arith) top.3 in
    let none : bit_xor (a / 2 ^ (j + 1)) (b / 2 ^ (j + 1)) ≡ 0 = sym (xor_shr a b (j + 1)) ∙ div-eq_of_lt high in
    let one_at_least : 2 ^ j / 2 ^ j ≤ bit_xor a b / 2 ^ j = quotient_le _ _ j low in
    let is_one : (1 * 2 ^ j + 0) / 2 ^ j ≡ 1 = shr_high 1 j 0 (pow_pos j) in
    record {
      bit = j;
      counted = top.1;
      above = xor_none _ _ none;
      apart = λ same.
          let zero : bit_xor a b / 2 ^ j ≡ 0 = xor_shr a b j ∙ ap (λ n. bit_xor n (b / 2 ^ j)) same ∙ xor_self (b / 2 ^ j) in
          let simpler : 2 ^ j / 2 ^ j ≡ 1 = subst (λ n. n / 2 ^ j ≡ 1) (omega arith) is_one in
          omega arith;
    }

-- a number in two parts, by a power of two as high as the lower part, or higher
pub high_part : (hi k lo m : ℕ) → lo < 2 ^ k → (hi * 2 ^ k + lo) / 2 ^ (k + m) ≡ hi / 2 ^ m
high_part hi k lo m below = sym (shr-shr (hi * 2 ^ k + lo) k m) ∙ ap (λ n. n / 2 ^ m) (shr_high hi k lo below)

-- by one within the lower part
pub low_part : (hi m k lo : ℕ) → (hi * 2 ^ (m + k) + lo) / 2 ^ k ≡ hi * 2 ^ m + lo / 2 ^ k
low_part hi m k lo =
    let split : hi * 2 ^ (m + k) ≡ hi * 2 ^ m * 2 ^ k = ap (λ n. hi * n) (pow-add 2 m k) ∙ sym (mul_assoc hi (2 ^ m) (2 ^ k)) in
    ap (λ n. (n + lo) / 2 ^ k) split ∙ mul-add-div_right (pow_pos k) (hi * 2 ^ m) lo

-- what agrees from a bit on agrees from each higher one on
pub same_higher : (a b j k : ℕ) → a / 2 ^ j ≡ b / 2 ^ j → j ≤ k → a / 2 ^ k ≡ b / 2 ^ k
same_higher a b j k same le =
    let at : (n : ℕ) → n / 2 ^ k ≡ n / 2 ^ j / 2 ^ (k - j) = λ n. ap (λ m. n / 2 ^ m) (let e : k ≡ j + (k - j) = omega arith in e) ∙ sym (shr-shr n j (k - j)) in
    at a ∙ ap (λ n. n / 2 ^ (k - j)) same ∙ sym (at b)

-- a number is below one with a greater quotient
pub below_by_part : (a b k : ℕ) → a / 2 ^ k < b / 2 ^ k → a < b
below_by_part a b k less = by_order (cases_lt a b)
  where
    by_order : (a < b) ⊎ (b ≤ a) → a < b
    by_order (inl lt) = lt
    by_order (inr le) = absurd (let more : b / 2 ^ k ≤ a / 2 ^ k = quotient_le b a k le in omega arith)

-- a quotient is twice the next one, and its own last bit
pub halves : (n k : ℕ) → n / 2 ^ k ≡ 2 * (n / 2 ^ (k + 1)) + n / 2 ^ k % 2
halves n k =
    let next : n / 2 ^ k / 2 ^ 1 ≡ n / 2 ^ (k + 1) = shr-shr n k 1 in
    let next' : n / 2 ^ k / 2 ≡ n / 2 ^ (k + 1) = next in
    omega arith

-- two numbers differ in a bit, and in none above it
abbrev pub DifferAt : ℕ → ℕ → ℕ → Type 0
DifferAt m n bit = (bit < 128) × (m / 2 ^ (bit + 1) ≡ n / 2 ^ (bit + 1)) × (m / 2 ^ bit ≢ n / 2 ^ bit)

-- lengths that differ
pub high_differ : (l m s t : ℕ) → l < 2 ^ 64 → m < 2 ^ 64 → s < 2 ^ 64 → t < 2 ^ 64 → l ≢ m
    → DifferAt (l * 2 ^ 64 + s) (m * 2 ^ 64 + t) (127 - count_leading_zeros 64 (bit_xor l m))
high_differ l m s t fits_l fits_m fits_s fits_t other =
    let d = differ 64 l m fits_l fits_m other in
    let count = d.counted in
    let bit : 127 - count_leading_zeros 64 (bit_xor l m) ≡ 64 + d.bit = omega arith in
    let next = λ (n : ℕ). ap (λ k. n / 2 ^ k) (let e : 64 + d.bit + 1 ≡ 64 + (d.bit + 1) = omega arith in e) in
    subst (DifferAt (l * 2 ^ 64 + s) (m * 2 ^ 64 + t)) (sym bit) (
      (omega arith),
      next (l * 2 ^ 64 + s) ∙ high_part l 64 s (d.bit + 1) fits_s ∙ d.above ∙ sym (next (m * 2 ^ 64 + t) ∙ high_part m 64 t (d.bit + 1) fits_t),
      λ same. d.apart (sym (high_part l 64 s d.bit fits_s) ∙ same ∙ high_part m 64 t d.bit fits_t),
    )

-- starts that differ, beside one length
pub low_differ : (l m s t : ℕ) → s < 2 ^ 64 → t < 2 ^ 64 → l ≡ m → s ≢ t → DifferAt (l * 2 ^ 64 + s) (m * 2 ^ 64 + t) (63 - count_leading_zeros 64 (bit_xor s t))
low_differ l m s t fits_s fits_t one other =
    let d = differ 64 s t fits_s fits_t other in
    let count = d.counted in
    let bit : 63 - count_leading_zeros 64 (bit_xor s t) ≡ d.bit = omega arith in
    let split = λ (n lo k : ℕ) (h : k ≤ 64). ap (λ e. (n * 2 ^ e + lo) / 2 ^ k) (let e : 64 ≡ (64 - k) + k = omega arith in e) ∙ low_part n (64 - k) k lo in
    let lengths : (k : ℕ) → l * 2 ^ (64 - k) ≡ m * 2 ^ (64 - k) = λ k. ap (λ n. n * 2 ^ (64 - k)) one in
    subst (DifferAt (l * 2 ^ 64 + s) (m * 2 ^ 64 + t)) (sym bit) (
      (omega arith),
      (let a = split l s (d.bit + 1) (omega arith) in let b = split m t (d.bit + 1) (omega arith) in let e = lengths (d.bit + 1) in let f = d.above in omega arith),
      λ same. d.apart (let a = split l s d.bit (omega arith) in let b = split m t d.bit (omega arith) in let e = lengths d.bit in omega arith),
    )
