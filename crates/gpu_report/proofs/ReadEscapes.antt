-- A string is quoted as the kit's JSON quotes it.
use Rattle.std.proofs.Common.{◌≡◌, ℕ, ◌/◌, ◌%◌, ◌<◌, Bool, true, false, cond, List, [], ◌∷◌, ◌++◌, refl, sym, ap, ap₂, arith}
use Rattle.std.specs.Prelude.{nat_lt}
use Rattle.std.specs.Char.{digit_char}
use Rattle.std.specs.Fmt.{digits}
use Rattle.std.proofs.lemmas.Fmt.{hex_one_digit}
use Rattle.std.proofs.lemmas.Bool.Decides.{nat_tests}
use Rattle.json.specs.Print.{escape_byte, escape}
use Rattle.json.specs.Print.{quoted as json_quoted}
use Rattle.gpu_report.specs.declared.escape.Escaping.TheVariants.{Json}
use Rattle.gpu_report.specs.Escape.{json_letter, json_byte, escaped, quoted}

two-digits : (b : ℕ) → b < 32 → digits 16 false (b / 16) ++ digits 16 false (b % 16) ≡ digit_char (b / 16) ∷ digit_char (b % 16) ∷ []
two-digits b low =
    ap₂ (λ (xs ys : List ℕ). xs ++ ys) (hex_one_digit false (b / 16) (omega arith)) (hex_one_digit false (b % 16) (omega arith))

by-letter : (short low : Bool) (b : ℕ) → (low ≡ true → b < 32)
    → cond short (92 ∷ json_letter b ∷ []) (cond low (92 ∷ 117 ∷ 48 ∷ 48 ∷ (digits 16 false (b / 16) ++ digits 16 false (b % 16))) (b ∷ []))
    ≡ cond short (92 ∷ json_letter b ∷ []) (cond low (92 ∷ 117 ∷ 48 ∷ 48 ∷ digit_char (b / 16) ∷ digit_char (b % 16) ∷ []) (b ∷ []))
by-letter true low b h = refl
by-letter false true b h = ap (λ (xs : List ℕ). 92 ∷ 117 ∷ 48 ∷ 48 ∷ xs) (two-digits b (h refl))
by-letter false false b h = refl

same-byte : (b : ℕ) → json_byte b ≡ escape_byte b
unfolding json_byte escape_byte
same-byte b = by-letter (nat_lt 0 (json_letter b)) (nat_lt b 32) b (λ e. grind (arith, nat_tests))

same-escapes : (text : List ℕ) → escaped Json text ≡ escape text
same-escapes [] = refl
same-escapes (b ∷ bs) = ap₂ (λ (xs ys : List ℕ). xs ++ ys) (same-byte b) (same-escapes bs)

pub same-quoted : (text : List ℕ) → json_quoted text ≡ quoted text
unfolding quoted
same-quoted text = ap (λ (xs : List ℕ). 34 ∷ (xs ++ 34 ∷ [])) (sym (same-escapes text))
