-- Bytes that hexadecimal digits spell.
use Rattle.std.proofs.Common.{◌≡◌, ◌∙◌, ℕ, zero, suc, ◌+◌, ◌*◌, ◌<◌, List, [], ◌∷◌, ◌++◌, length, take, get_or, refl, ap, arith, append_assoc}
use Rattle.std.proofs.lemmas.List.{take_more}
use Rattle.std.proofs.lemmas.Bool.Decides.{nat_tests}
use Rattle.std.specs.Prelude.{◌/◌, ◌%◌}
use Rattle.gpu_trace_text.specs.Hex.{hex_digit, hex, AreBytes}

pub hex_length : (bs : List ℕ) → length (hex bs) ≡ 2 * length bs
hex_length [] = refl
hex_length (b ∷ bs) = omega (arith, hex_length bs)

pub hex_push : (bs : List ℕ) (b : ℕ) → hex (bs ++ b ∷ []) ≡ hex bs ++ hex (b ∷ [])
hex_push [] b = refl
hex_push (c ∷ bs) b = ap (λ xs. hex_digit (c / 16) ∷ hex_digit (c % 16) ∷ xs) (hex_push bs b)

-- the digits of the byte at a place
pub hex_at : (bs : List ℕ) (i : ℕ) → i < length bs → (get_or (hex bs) (2 * i) 0 ≡ hex_digit (get_or bs i 0 / 16)) × (get_or (hex bs) (2 * i + 1) 0 ≡ hex_digit (get_or bs i 0 % 16))
hex_at [] i lt = absurd (omega arith)
hex_at (b ∷ bs) zero lt = (refl, refl)
hex_at (b ∷ bs) (suc i) lt =
    let deeper = hex_at bs i (omega arith) in
    let even : 2 * suc i ≡ suc (suc (2 * i)) = omega arith in
    let odd : 2 * suc i + 1 ≡ suc (suc (2 * i + 1)) = omega arith in
    (ap (λ k. get_or (hex (b ∷ bs)) k 0) even ∙ deeper.0, ap (λ k. get_or (hex (b ∷ bs)) k 0) odd ∙ deeper.1)

-- two more of a list
pub take_two : (xs : List ℕ) (n : ℕ) → n + 1 < length xs → take (n + 2) xs ≡ take n xs ++ get_or xs n 0 ∷ get_or xs (n + 1) 0 ∷ []
take_two xs n lt =
    let two : n + 2 ≡ (n + 1) + 1 = omega arith in
    ap (λ k. take k xs) two ∙ (take_more xs (n + 1) 0 lt ∙
    (ap (λ ys. ys ++ get_or xs (n + 1) 0 ∷ []) (take_more xs n 0 (omega (arith, lt))) ∙ append_assoc (take n xs) (get_or xs n 0 ∷ []) (get_or xs (n + 1) 0 ∷ [])))

digit_same : (a b : ℕ) → a < 16 → b < 16 → hex_digit a ≡ hex_digit b → a ≡ b
digit_same a b h k e = grind (arith, nat_tests, h, k, e)

byte_parts : (b : ℕ) → b ≡ 16 * (b / 16) + b % 16
byte_parts b = omega arith

heads : {A : Type 0} (x y z w : A) (xs ys : List A) → x ∷ y ∷ xs ≡ z ∷ w ∷ ys → (x ≡ z) × (y ≡ w) × (xs ≡ ys)
heads x y z w xs ys e = (cc, cc, cc)

-- digits spell one list of bytes
pub one_spelling : (xs ys : List ℕ) → AreBytes xs → AreBytes ys → hex xs ≡ hex ys → xs ≡ ys
one_spelling [] [] h k e = refl
one_spelling [] (y ∷ ys) h k e = cc
one_spelling (x ∷ xs) [] h k e = cc
one_spelling (x ∷ xs) (y ∷ ys) h k e =
    let parts = heads (hex_digit (x / 16)) (hex_digit (x % 16)) (hex_digit (y / 16)) (hex_digit (y % 16)) (hex xs) (hex ys) e in
    let x_small : x < 256 = h 0 0 (omega arith) in
    let y_small : y < 256 = k 0 0 (omega arith) in
    let high : x / 16 ≡ y / 16 = digit_same (x / 16) (y / 16) (omega (arith, x_small)) (omega (arith, y_small)) parts.0 in
    let low : x % 16 ≡ y % 16 = digit_same (x % 16) (y % 16) (omega arith) (omega arith) parts.1 in
    let same : x ≡ y = omega (arith, high, low) in
    let tails = one_spelling xs ys (λ i d lt. h (suc i) d (omega arith)) (λ i d lt. k (suc i) d (omega arith)) parts.2 in
    λ i. same i ∷ tails i
