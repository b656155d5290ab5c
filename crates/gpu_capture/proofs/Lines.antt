-- The words of a line that was written are the words that are read of it.
use Rattle.std.proofs.Common.{◌≡◌, ℕ, suc, ◌<◌, ◌≤◌, ◌^◌, List, [], ◌∷◌, ◌++◌, length, get_or, take, false, refl, sym, ap, ◌∙◌, append_assoc, length-take, arith, ℤ, pos, negsuc}
use Rattle.std.specs.Prelude.{FitsSigned}
use Rattle.std.specs.Int.{IsInRange, w32}
use Rattle.std.specs.List.{All, slice_split}
use Rattle.std.specs.Bool.{◌==◌}
use Rattle.std.specs.Fmt.{decimal, signed_decimal}
use Rattle.std.proofs.lemmas.Bool.Decides.{nat_tests}
use Rattle.std.proofs.lemmas.List.{get_or_default, length-map}
use Rattle.std.proofs.lemmas.List.Elements.{All-nil, All-cons, All-append, All-map}
use Rattle.std.proofs.lemmas.List.Splits.{slice_split_at, slice_split_none}
use Rattle.std.specs.Str.Parse.{AllDigits, digits_value}
use Rattle.std.proofs.lemmas.Str.Parse.{IsNumeralModel, numerals_by_value, tells_digits, digit_at}
use Rattle.std.proofs.lemmas.Fmt.{digits_decimal}
use Rattle.gpu_capture.specs.Line.{line_of, name_byte, name_word}

-- ---- words

-- printed bytes, none of them a space
abbrev pub IsClean : List ℕ → Type 0
IsClean w = All (IsInRange 33 126) w

abbrev pub AreClean : List (List ℕ) → Type 0
AreClean [] = Unit {0}
AreClean (w ∷ ws) = IsClean w × AreClean ws

-- what stands on a line
abbrev pub joined : List (List ℕ) → List ℕ
joined [] = []
joined (w ∷ []) = w
joined (w ∷ v ∷ ws) = w ++ 32 ∷ joined (v ∷ ws)

pub line-joined : (ws : List (List ℕ)) (rest : List ℕ) → line_of ws ++ rest ≡ joined ws ++ 10 ∷ rest
line-joined [] rest = refl
line-joined (w ∷ []) rest = append_assoc w (10 ∷ []) rest
line-joined (w ∷ v ∷ ws) rest =
    append_assoc w (32 ∷ line_of (v ∷ ws)) rest ∙ (ap (λ (s : List ℕ). w ++ 32 ∷ s) (line-joined (v ∷ ws) rest)
    ∙ sym (append_assoc w (32 ∷ joined (v ∷ ws)) (10 ∷ rest)))

-- printed bytes and spaces
abbrev IsPrinted : ℕ → Type 0
IsPrinted b = IsInRange 32 126 b

printed : (w : List ℕ) → IsClean w → All IsPrinted w
printed w h k d lt = let r = h k d lt in omega arith

pub joined-printed : (ws : List (List ℕ)) → AreClean ws → All (IsInRange 32 126) (joined ws)
joined-printed [] h = All-nil IsPrinted
joined-printed (w ∷ []) h = printed w h.0
joined-printed (w ∷ v ∷ ws) h =
    let space : IsPrinted 32 = omega arith in
    All-append IsPrinted w (32 ∷ joined (v ∷ ws)) (printed w h.0) (All-cons IsPrinted 32 (joined (v ∷ ws)) space (joined-printed (v ∷ ws) h.1))

other : (c b : ℕ) → (b ≡ c → ⊥) → (b == c) ≡ false
other c b h = grind (arith, nat_tests)

no_feed : (bs : List ℕ) → All IsPrinted bs → All (λ b. (b == 10) ≡ false) bs
no_feed bs h k d lt = let r = h k d lt in other 10 (get_or bs k d) (λ e. absurd (omega arith))

no_space : (w : List ℕ) → IsClean w → All (λ b. (b == 32) ≡ false) w
no_space w h k d lt = let r = h k d lt in other 32 (get_or w k d) (λ e. absurd (omega arith))

-- a text that begins with a line is split behind it
pub lines-first : (ws : List (List ℕ)) (rest : List ℕ) → AreClean ws → slice_split (λ b. b == 10) (line_of ws ++ rest) ≡ joined ws ∷ slice_split (λ b. b == 10) rest
lines-first ws rest h =
    ap (slice_split (λ b. b == 10)) (line-joined ws rest)
    ∙ slice_split_at (λ b. b == 10) (joined ws) 10 rest (no_feed (joined ws) (joined-printed ws h)) refl

-- and the line into its words
pub words-joined : (w : List ℕ) (ws : List (List ℕ)) → AreClean (w ∷ ws) → slice_split (λ b. b == 32) (joined (w ∷ ws)) ≡ w ∷ ws
words-joined w [] h = slice_split_none (λ b. b == 32) w (no_space w h.0)
words-joined w (v ∷ ws) h =
    slice_split_at (λ b. b == 32) w 32 (joined (v ∷ ws)) (no_space w h.0) refl ∙ ap (λ (vs : List (List ℕ)). w ∷ vs) (words-joined v ws h.1)

-- ---- what words are made of

own : IsNumeralModel (AllDigits 10) (digits_value 10)
own = numerals_by_value (AllDigits 10) tells_digits

clean_digits : (ds : List ℕ) → AllDigits 10 ds → IsClean ds
clean_digits ds h k d lt = let r = digit_at ds k h lt in let e = get_or_default ds k d 0 lt in omega arith

pub clean_decimal : (n : ℕ) → n < 2 ^ 64 → IsClean (decimal n)
clean_decimal n h = clean_digits (decimal n) (digits_decimal own n h)

pub clean_signed : (z : ℤ) → FitsSigned w32 z → IsClean (signed_decimal z)
clean_signed (pos n) h = clean_decimal n (omega arith)
clean_signed (negsuc n) h = All-cons (IsInRange 33 126) 45 (decimal (suc n)) (omega arith) (clean_decimal (suc n) (omega arith))

-- ---- names

name_byte-clean : (b : ℕ) → IsInRange 33 126 (name_byte b)
name_byte-clean b = grind (arith, nat_tests)

pub clean_name : (name : List ℕ) → IsClean (name_word name)
unfolding name_word
clean_name [] = All-cons (IsInRange 33 126) 95 [] (omega arith) (All-nil (IsInRange 33 126))
clean_name (b ∷ bs) = All-map (IsInRange 33 126) name_byte (take 64 (b ∷ bs)) (λ k d lt. name_byte-clean (get_or (take 64 (b ∷ bs)) k d))

pub name_some : (name : List ℕ) → 0 < length (name_word name)
unfolding name_word
name_some [] = omega arith
name_some (b ∷ bs) = simp (length-map, length-take) (omega arith)

pub name_short : (name : List ℕ) → length (name_word name) ≤ 64
unfolding name_word
name_short [] = omega arith
name_short (b ∷ bs) = simp (length-map, length-take) (omega arith)
