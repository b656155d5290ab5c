-- What the words for formats, clear values and whole resources say.
use Rattle.std.proofs.Common.{◌≡◌, ◌≢◌, get_or, ℕ, ◌<◌, ◌≤◌, ◌^◌, List, [], ◌∷◌, length, map, sym, ap, subst, ◌∙◌, lit<, arith, Some, None, Option}
use Rattle.std.specs.Prelude.{codes}
use Rattle.std.specs.Borrow.{Bor}
use Rattle.std.specs.List.{All}
use Rattle.std.proofs.lemmas.List.{get_or-map, length-map}
use Rattle.std.proofs.lemmas.List.Elements.{All-map}
use Rattle.gpu_device.specs.declared.d3d12.types.ClearValue.{ClearValue}
use Rattle.gpu_device.specs.declared.d3d12.types.Format.{Format}
use Rattle.gpu_block_session.specs.Words.{texts}
use Rattle.gpu_trace_text.specs.D3D12Numbers.{IsSeparator, AreNumbers, numbers_word}
use Rattle.gpu_trace_text.specs.D3D12Resource.{format_number, formats_word, clear_word, FitsFormats, FitsClear}
use Rattle.gpu_trace_text.proofs.D3D12Parts.{IsSmall, as_many}

pub colon : IsSeparator 58
colon = record { ascii = lit< tt; no_digit = λ r. omega (arith, r.1) }

pub comma : IsSeparator 44
comma = record { ascii = lit< tt; no_digit = λ r. omega (arith, r.0) }

-- ---- clear values

-- a word that is neither `none` nor numbers
pub no_clear : (word : List ℕ) → word ≢ codes "none" → ((ns : List ℕ) → AreNumbers ns → word ≢ numbers_word 58 ns) → (v : Option ClearValue) → FitsClear v → word ≢ clear_word v
no_clear word other none None fits is = other is
no_clear word other none (Some v) fits is = none (v.format.0 ∷ v.value) fits.0 is

-- numbers that aren't five
pub not_five : (word : List ℕ) (ns : List ℕ) → word ≢ codes "none" → AreNumbers ns → word ≡ numbers_word 58 ns → length ns ≢ 5 → (v : Option ClearValue) → FitsClear v → word ≢ clear_word v
not_five word ns other are spelled count None fits is = other is
not_five word ns other are spelled count (Some v) fits is = count (omega (arith, fits.1, as_many 58 ns (v.format.0 ∷ v.value) colon are fits.0 (sym spelled ∙ is)))

-- five numbers
pub clear_spelled : (word : List ℕ) (ns : List ℕ) (v : ClearValue) → AreNumbers ns → word ≡ numbers_word 58 ns → v.format.0 ∷ v.value ≡ ns → length v.value ≡ 4
    → FitsClear (Some v) × (word ≡ clear_word (Some v))
clear_spelled word ns v are spelled same four = ((subst AreNumbers (sym same) are, four), spelled ∙ ap (numbers_word 58) (sym same))

-- ---- formats

small_formats : (fs : List Format) → All IsSmall (map format_number fs) → All (λ f. f.0 < 2 ^ 32) fs
small_formats fs h k d lt = subst IsSmall (get_or-map format_number fs k d 0 lt) (h k 0 (omega (arith, lt, length-map fs format_number)))

pub are_numbers : (f : Format) (fs : List Format) → FitsFormats (f ∷ fs) → AreNumbers (map format_number (f ∷ fs))
are_numbers f fs fits = record { some = omega arith; fit = All-map IsSmall format_number (f ∷ fs) fits.fit }

-- a word that is neither `none` nor numbers
pub no_formats : (word : List ℕ) → word ≢ codes "none" → ((ns : List ℕ) → AreNumbers ns → word ≢ numbers_word 44 ns) → (fs : List Format) → FitsFormats fs → word ≢ formats_word fs
no_formats word other none [] fits is = other is
no_formats word other none (f ∷ fs) fits is = none (map format_number (f ∷ fs)) (are_numbers f fs fits) is

-- numbers that are more than sixteen
pub too_many : (word : List ℕ) (ns : List ℕ) → word ≢ codes "none" → AreNumbers ns → word ≡ numbers_word 44 ns → 16 < length ns → (fs : List Format) → FitsFormats fs → word ≢ formats_word fs
too_many word ns other are spelled many [] fits is = other is
too_many word ns other are spelled many (f ∷ fs) fits is =
    omega (arith, many, fits.few, length-map fs format_number, as_many 44 ns (map format_number (f ∷ fs)) comma are (are_numbers f fs fits) (sym spelled ∙ is))

-- sixteen numbers at most
pub formats_spelled : (word : List ℕ) (ns : List ℕ) (fs : List Format) → AreNumbers ns → word ≡ numbers_word 44 ns → length ns ≤ 16 → map format_number fs ≡ ns
    → FitsFormats fs × (word ≡ formats_word fs)
formats_spelled word ns [] are spelled few same = absurd (omega (arith, are.some, ap length same))
formats_spelled word ns (f ∷ fs) are spelled few same = (
  record {
    few = omega (arith, few, ap length same, length-map fs format_number);
    fit = small_formats (f ∷ fs) (subst (All IsSmall) (sym same) are.fit);
  },
  spelled ∙ ap (numbers_word 44) (sym same),
)

-- ---- nine words

pub nine_are : (ws : List (Bor (List ℕ))) (d : Bor (List ℕ)) {a b e f g h i j k : List ℕ} → 9 ≤ length ws → length ws < 10
    → (get_or ws 0 d).now ≡ a → (get_or ws 1 d).now ≡ b → (get_or ws 2 d).now ≡ e → (get_or ws 3 d).now ≡ f → (get_or ws 4 d).now ≡ g → (get_or ws 5 d).now ≡ h
    → (get_or ws 6 d).now ≡ i → (get_or ws 7 d).now ≡ j → (get_or ws 8 d).now ≡ k → texts ws ≡ a ∷ b ∷ e ∷ f ∷ g ∷ h ∷ i ∷ j ∷ k ∷ []
nine_are (x0 ∷ x1 ∷ x2 ∷ x3 ∷ x4 ∷ x5 ∷ x6 ∷ x7 ∷ x8 ∷ []) d least below e0 e1 e2 e3 e4 e5 e6 e7 e8 = cc
nine_are ws d least below e0 e1 e2 e3 e4 e5 e6 e7 e8 = absurd (omega (arith, least, below))
