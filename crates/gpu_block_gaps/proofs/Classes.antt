-- Classes of lengths are in the order of the lengths.
use Rattle.std.proofs.Common.{◌≡◌, ℕ, min, ◌+◌, ◌-◌, ◌*◌, ◌/◌, ◌%◌, ◌^◌, ◌<◌, ◌≤◌, ◌⊎◌, inl, inr, sym, ap, subst, ◌∙◌, arith}
use Rattle.std.proofs.Math.Nat.{pow-le-pow_right, mul-le-mul_right, min-le_left, min-le_right, min-eq_left, min-eq_right}
use Rattle.std.proofs.lemmas.Nat.{leading_length, shr_below, le-div, pow_pos, shl_whole, pow-add}
use Rattle.std.proofs.lemmas.Bool.{cases_lt}
use Rattle.gpu_block_gaps.specs.declared.class.Scale.{Scale}
use Rattle.gpu_block_gaps.specs.Class.{untold, class_number, class_count, class_on, IsFew}
use Rattle.gpu_block_gaps.proofs.Bits.{quotient_le}

-- a length has as many digits as its class tells, and those that it doesn't tell
pub record Digits (digits length : ℕ) : Type 0 where
  pub few : untold digits length + digits ≤ 63
  pub below : length < 2 ^ (untold digits length + digits + 1)
  pub above : (untold digits length ≡ 0) ⊎ (2 ^ (untold digits length + digits) ≤ length)

power_le : (i j : ℕ) → i ≤ j → 2 ^ i ≤ 2 ^ j
power_le i j le = pow-le-pow_right (omega arith) le

pub digits_of : (d n : ℕ) → d < 32 → n < 2 ^ 64 → Digits d n
digits_of d n few fits =
    let m = leading_length 64 n fits in
    let count = m.1 in
    let lower = m.2 in
    let upper = m.3 in
    let e : untold d n ≡ m.0 - (d + 1) = omega arith in
    record {
      few = omega arith;
      below = (let higher = power_le m.0 (untold d n + d + 1) (omega arith) in omega arith);
      above = by_size m.0 e upper (cases_lt 0 (untold d n));
    }
  where
    by_size : (m : ℕ) → untold d n ≡ m - (d + 1) → 2 ^ m ≤ 2 * n + 1 → (0 < untold d n) ⊎ (untold d n ≤ 0) → (untold d n ≡ 0) ⊎ (2 ^ (untold d n + d) ≤ n)
    by_size m e upper (inr none) = inl (omega arith)
    by_size m e upper (inl some) = inr (
        let twice : 2 ^ m ≡ 2 ^ (untold d n + d) * 2 = ap (λ k. 2 ^ k) (let whole : m ≡ untold d n + d + 1 = omega arith in whole) ∙ pow-add 2 (untold d n + d) 1 in
        omega arith)

pub told_below : (d n : ℕ) → d < 32 → n < 2 ^ 64 → n / 2 ^ untold d n < 2 * 2 ^ d
told_below d n few fits =
    let digits = digits_of d n few fits in
    let e = untold d n in
    let sized : n < 2 ^ (d + 1 + e) = subst (λ k. n < 2 ^ k) (omega arith) digits.below in
    let short = shr_below n (d + 1) e sized in
    let twice : 2 ^ (d + 1) ≡ 2 ^ d * 2 = pow-add 2 d 1 in
    omega arith

pub class_within : (d n : ℕ) → d < 32 → n < 2 ^ 64 → class_number d n < class_count d
class_within d n few fits =
    let digits = digits_of d n few fits in
    let told = told_below d n few fits in
    let e = untold d n in
    let many : (e + 2) * 2 ^ d ≤ (65 - d) * 2 ^ d = mul-le-mul_right (2 ^ d) (let h = digits.few in omega arith) in
    omega arith

pub class_count_small : (d : ℕ) → d < 32 → class_count d < 2 ^ 40
class_count_small d few =
    let power = power_le d 31 (omega arith) in
    let many : (65 - d) * 2 ^ d ≤ 65 * 2 ^ d = mul-le-mul_right (2 ^ d) (omega arith) in
    omega arith

-- with few digits the class is a number of 32 bits, and so is the next one
pub class_few : (d n : ℕ) → d < 24 → n < 2 ^ 64 → class_number d n + 1 < 2 ^ 32
class_few d n few fits =
    let power = power_le d 23 (omega arith) in
    let many : (65 - d) * 2 ^ d ≤ 65 * 2 ^ d = mul-le-mul_right (2 ^ d) (omega arith) in
    let within = class_within d n (omega arith) fits in
    omega arith

pub shift_whole : (d n : ℕ) → d < 32 → n < 2 ^ 64 → (untold d n * 2 ^ d) % 2 ^ 64 ≡ untold d n * 2 ^ d
shift_whole d n few fits =
    let digits = digits_of d n few fits in
    shl_whole (untold d n) 6 d 64 (let h = digits.few in omega arith) (omega arith)

power_split : (d e : ℕ) → 2 ^ (e + d) ≡ 2 ^ d * 2 ^ e
power_split d e = ap (λ k. 2 ^ k) (let turned : e + d ≡ d + e = omega arith in turned) ∙ pow-add 2 d e

-- a longer gap has no fewer digits that its class doesn't tell
untold_rises : (d m n : ℕ) → m < 2 ^ 64 → n < 2 ^ 64 → m ≤ n → untold d m ≤ untold d n
untold_rises d m n fits_m fits_n le =
    let a = leading_length 64 m fits_m in
    let b = leading_length 64 n fits_n in
    let count_a = a.1 in
    let count_b = b.1 in
    let is_a : untold d m ≡ a.0 - (d + 1) = omega arith in
    let is_b : untold d n ≡ b.0 - (d + 1) = omega arith in
    by_power a.0 b.0 is_a is_b b.2 a.3 (cases_lt b.0 a.0)
  where
    by_power : (a b : ℕ) → untold d m ≡ a - (d + 1) → untold d n ≡ b - (d + 1) → n < 2 ^ b → 2 ^ a ≤ 2 * m + 1 → (b < a) ⊎ (a ≤ b) → untold d m ≤ untold d n
    by_power a b is_a is_b lower upper (inr fewer) = omega arith
    by_power a b is_a is_b lower upper (inl more) =
        absurd (let power = power_le (b + 1) a (omega arith) in let twice : 2 ^ (b + 1) ≡ 2 ^ b * 2 = pow-add 2 b 1 in omega arith)

-- a longer gap is of no earlier class
class_rises : (d m n : ℕ) → d < 32 → m < 2 ^ 64 → n < 2 ^ 64 → m ≤ n → class_number d m ≤ class_number d n
class_rises d m n few fits_m fits_n le = by_order (cases_lt (untold d m) (untold d n)) (digits_of d n few fits_n).above
  where
    by_order : (untold d m < untold d n) ⊎ (untold d n ≤ untold d m) → (untold d n ≡ 0) ⊎ (2 ^ (untold d n + d) ≤ n) → class_number d m ≤ class_number d n
    by_order (inr ge) above =
        let rises = untold_rises d m n fits_m fits_n le in
        let same : untold d m ≡ untold d n = omega arith in
        let part : m / 2 ^ untold d n ≤ n / 2 ^ untold d n = quotient_le m n (untold d n) le in
        subst (λ e. e * 2 ^ d + m / 2 ^ e ≤ class_number d n) (sym same) (omega arith)
    by_order (inl lt) (inl none) = absurd (omega arith)
    by_order (inl lt) (inr long) =
        let e = untold d n in
        let high : 2 ^ d * 2 ^ e ≤ n = subst (λ k. k ≤ n) (power_split d e) long in
        let part : 2 ^ d ≤ n / 2 ^ e = le-div (2 ^ d) n (2 ^ e) (pow_pos e) high in
        let told = told_below d m few fits_m in
        let many : (untold d m + 1) * 2 ^ d ≤ e * 2 ^ d = mul-le-mul_right (2 ^ d) (omega arith) in
        omega arith

-- the lesser one of two numbers rises with the first
min_rises : (a b l : ℕ) → a ≤ b → min a l ≤ min b l
min_rises a b l le = by_order (cases_lt b l)
  where
    by_order : (b < l) ⊎ (l ≤ b) → min a l ≤ min b l
    by_order (inl lt) = let first : min b l ≡ b = min-eq_left (omega arith) in let less = min-le_left a l in omega arith
    by_order (inr ge) = let last : min b l ≡ l = min-eq_right ge in let less = min-le_right a l in omega arith

-- a longer gap is of no earlier class, also where the last one is shared
pub on_rises : (scale : Scale) (m n : ℕ) → IsFew scale → m < 2 ^ 64 → n < 2 ^ 64 → m ≤ n → class_on scale m ≤ class_on scale n
on_rises scale m n few fits_m fits_n le =
    min_rises (class_number scale.digits m) (class_number scale.digits n) scale.last (class_rises scale.digits m n (let h = few.0 in omega arith) fits_m fits_n le)
