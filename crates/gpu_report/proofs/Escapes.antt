-- What stands for a character, and which characters stand for themselves.
use Rattle.std.proofs.Common.{◌≡◌, ◌≢◌, ℕ, ◌≤◌, ◌<◌, ◌/◌, ◌%◌, ◌+◌, List, [], ◌∷◌, ◌++◌, length, Bool, true, false, cond, refl, sym, ap, ◌∙◌, subst, arith, inl, inr}
use Rattle.std.specs.Prelude.{encode_utf8, IsUtf8}
use Rattle.std.specs.List.{flat_map}
use Rattle.std.proofs.lemmas.Bool.Decides.{nat_tests}
use Rattle.std.proofs.lemmas.Grind.{common_steps, flat_map-append}
use Rattle.std.proofs.lemmas.Str.{chars_past_char, chars-nil}
use lib.Utf8.{encode}
use Rattle.std.proofs.Common.{ltb}
use Rattle.gpu_report.specs.declared.escape.Escaping.{Escaping}
use Rattle.gpu_report.specs.declared.escape.Escaping.TheVariants.{Json, Xml}
use Rattle.gpu_report.specs.Escape.{json_byte, xml_char, escaped, escaped_char}

pub json_byte-plain : (b : ℕ) → b ≢ 34 → b ≢ 92 → 32 ≤ b → json_byte b ≡ b ∷ []
unfolding json_byte
json_byte-plain b quote slash low = grind (arith, nat_tests)

pub xml_char-plain : (c : ℕ) → c ≢ 38 → c ≢ 60 → c ≢ 62 → c ≢ 34 → 32 ≤ c → c ≢ 65534 → c ≢ 65535 → xml_char c ≡ encode_utf8 c
unfolding xml_char
xml_char-plain c a l g q low e f = grind (arith, nat_tests)

high : (b : ℕ) → 128 ≤ b → json_byte b ≡ b ∷ []
high b h = json_byte-plain b (λ e. absurd (omega arith)) (λ e. absurd (omega arith)) (omega arith)

abbrev IsPlain : List ℕ → Type 0
IsPlain bs = escaped Json bs ≡ bs

plain-cons : (b : ℕ) (bs : List ℕ) → 128 ≤ b → IsPlain bs → IsPlain (b ∷ bs)
plain-cons b bs h p = ap (λ xs. xs ++ escaped Json bs) (high b h) ∙ ap (λ xs. b ∷ xs) p

plain-cond : (t : Bool) (xs ys : List ℕ) → IsPlain xs → IsPlain ys → IsPlain (cond t xs ys)
plain-cond true xs ys p q = p
plain-cond false xs ys p q = q

-- a first byte past ASCII, and the six bits of one behind it
plain-first : (mark n : ℕ) (bs : List ℕ) → 128 ≤ mark → IsPlain bs → IsPlain ((mark + n) ∷ bs)
plain-first mark n bs h p = plain-cons (mark + n) bs (omega arith) p

-- a character stands for itself, where its code as a byte does: past ASCII its bytes need no escape
pub escaped-encode : (c : ℕ) → json_byte c ≡ c ∷ [] → escaped Json (encode c) ≡ encode c
unfolding encode
escaped-encode c own =
    let last : IsPlain ((128 + c % 64) ∷ []) = plain-first 128 (c % 64) [] (omega arith) refl in
    let two : IsPlain ((128 + c / 64 % 64) ∷ (128 + c % 64) ∷ []) = plain-first 128 (c / 64 % 64) _ (omega arith) last in
    plain-cond (ltb c 128) (c ∷ []) _ (ap (λ xs. xs ++ []) own)
    (plain-cond (ltb c 2048) _ _ (plain-first 192 (c / 64) _ (omega arith) last)
    (plain-cond (ltb c 65536) _ _ (plain-first 224 (c / 4096) _ (omega arith) two)
    (plain-first 240 (c / 262144) _ (omega arith) (plain-first 128 (c / 4096 % 64) _ (omega arith) two))))

-- the first character of a text, and the rest
pub escaped-cons : (form : Escaping) (c : ℕ) (bs rest : List ℕ) → IsUtf8 bs → bs ≡ encode c ++ rest → escaped form bs ≡ escaped_char form c ++ escaped form rest
escaped-cons Json c bs rest fine is = ap (escaped Json) is ∙ flat_map-append json_byte (encode c) rest
escaped-cons Xml c bs rest fine is = ap (flat_map xml_char) (chars_past_char bs rest c fine is)

pub escaped-empty : (form : Escaping) (bs : List ℕ) → length bs ≡ 0 → escaped form bs ≡ []
escaped-empty Json [] is = refl
escaped-empty Xml [] is = ap (flat_map xml_char) chars-nil
escaped-empty form (b ∷ bs) is = absurd (omega arith)
