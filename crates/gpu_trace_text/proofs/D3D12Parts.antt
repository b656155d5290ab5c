-- A word of several numbers, and the parts between its separators.
use Rattle.std.proofs.Common.{◌≡◌, ◌≢◌, ℕ, ◌<◌, ◌^◌, ◌==◌, false, List, [], ◌∷◌, ◌≤◌, length, map, take, take_all, get_or, refl, sym, ap, ◌∙◌, subst, arith}
use Rattle.std.specs.Borrow.{Bor}
use Rattle.std.specs.Fmt.{decimal}
use Rattle.std.specs.Int.{IsInRange}
use Rattle.std.specs.List.{All, join_with_byte, slice_split}
use Rattle.std.specs.Str.Parse.{AllDigits, digits_value}
use Rattle.std.proofs.lemmas.Bool.{eq-eqb, ne_eqb}
use Rattle.std.proofs.lemmas.Fmt.{digits_decimal}
use Rattle.std.proofs.lemmas.List.{get_or-map, length-map}
use Rattle.std.proofs.lemmas.List.Elements.{All-head, All-tail, All-from_get_or}
use Rattle.std.proofs.lemmas.List.Splits.{slice_split_none, slice_split_at, length-slice_split, join_with_byte-slice_split}
use Rattle.std.proofs.lemmas.Str.Parse.{IsNumeralModel, numerals_by_value, tells_digits, digit_at}
use Rattle.gpu_block_session.specs.Words.{texts}
use Rattle.gpu_trace_text.specs.D3D12Numbers.{IsSeparator, AreNumbers, numbers_word}

own : IsNumeralModel (AllDigits 10) (digits_value 10)
own = numerals_by_value (AllDigits 10) tells_digits

-- it has 32 bits
abbrev pub IsSmall : ℕ → Type 0
IsSmall n = n < 2 ^ 32

-- no digit is a separator
no_separator : (c n : ℕ) → IsSeparator c → n < 2 ^ 32 → All (λ b. (b == c) ≡ false) (decimal n)
no_separator c n s small =
    let digits = digits_decimal own n (omega arith) in
    All-from_get_or (λ b. (b == c) ≡ false) (decimal n) 0
    (λ i lt. ne_eqb (get_or (decimal n) i 0) c (λ same. s.no_digit (subst (IsInRange 48 57) same (digit_at (decimal n) i digits lt))))

-- the parts of a word of numbers are the numbers
pub parts_of : (c : ℕ) (ns : List ℕ) → IsSeparator c → 0 < length ns → All IsSmall ns → slice_split (λ b. b == c) (numbers_word c ns) ≡ map decimal ns
parts_of c [] s some fit = absurd (omega arith)
parts_of c (n ∷ []) s some fit = slice_split_none (λ b. b == c) (decimal n) (no_separator c n s (All-head IsSmall n [] fit))
parts_of c (n ∷ m ∷ ns) s some fit =
    slice_split_at (λ b. b == c) (decimal n) c (numbers_word c (m ∷ ns)) (no_separator c n s (All-head IsSmall n (m ∷ ns) fit)) (eq-eqb c c refl)
    ∙ ap (λ rest. decimal n ∷ rest) (parts_of c (m ∷ ns) s (omega arith) (All-tail IsSmall n (m ∷ ns) fit))

-- a word spells one list of numbers alone, so as many
pub as_many : (c : ℕ) (ms ns : List ℕ) → IsSeparator c → AreNumbers ms → AreNumbers ns → numbers_word c ms ≡ numbers_word c ns → length ms ≡ length ns
as_many c ms ns s m n is =
    sym (length-map ms decimal) ∙ ap length (sym (parts_of c ms s m.some m.fit) ∙ ap (slice_split (λ b. b == c)) is ∙ parts_of c ns s n.some n.fit) ∙ length-map ns decimal

-- where each part is a number's, the word spells the numbers
pub all_spelled : (c : ℕ) (word : List ℕ) (parts : List (Bor (List ℕ))) (i : ℕ) (ns : List ℕ) → texts parts ≡ slice_split (λ b. b == c) word → length parts ≤ i
    → map decimal ns ≡ texts (take i parts) → All IsSmall ns → AreNumbers ns × (word ≡ numbers_word c ns)
all_spelled c word parts i ns are le spelled small =
    let whole : map decimal ns ≡ slice_split (λ b. b == c) word = spelled ∙ ap texts (take_all i parts le) ∙ are in (
      record {
        some = omega (arith, length-map ns decimal, ap length whole, length-slice_split (λ b. b == c) word);
        fit = small;
      },
      sym (join_with_byte-slice_split c word) ∙ ap (join_with_byte c) (sym whole),
    )

-- where a part is no number's, the word spells no numbers
pub not_spelled : (c : ℕ) (word : List ℕ) (parts : List (Bor (List ℕ))) (i : ℕ) (d : Bor (List ℕ)) → texts parts ≡ slice_split (λ b. b == c) word → IsSeparator c → i < length parts
    → ((n : ℕ) → n < 2 ^ 32 → (get_or parts i d).now ≢ decimal n) → (ns : List ℕ) → AreNumbers ns → word ≢ numbers_word c ns
not_spelled c word parts i d are s lt none ns numbers is =
    let whole : texts parts ≡ map decimal ns = are ∙ ap (slice_split (λ b. b == c)) is ∙ parts_of c ns s numbers.some numbers.fit in
    let short : i < length ns = omega (arith, lt, ap length whole, length-map parts (λ w. w.now), length-map ns decimal) in
    none (get_or ns i 0) (numbers.fit i 0 short) (sym (get_or-map (λ (w : Bor (List ℕ)). w.now) parts i d [] lt) ∙ ap (λ p. get_or p i []) whole ∙ get_or-map decimal ns i 0 [] short)
