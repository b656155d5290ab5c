-- Words of a capture: which bytes they have, and that each says one thing.
use Rattle.std.proofs.Common.{◌≡◌, refl, sym, take, ap, Bool, true, false, ℕ, ◌<◌, ◌^◌, List, [], ◌∷◌, length, Option, Some, None, ℤ, pos, negsuc, arith, inl, inr, if◌then◌else◌}
use Rattle.std.specs.Prelude.{codes, string_bytes, nat_lt, FitsSigned}
use Rattle.std.specs.Int.{IsInRange, w32}
use Rattle.std.specs.List.{All}
use Rattle.std.specs.Str.{IsAscii, bytes_eq}
use Rattle.std.specs.Fmt.{decimal, signed_decimal}
use Rattle.std.specs.declared.alloc.Global.{Global}
use Rattle.std.specs.declared.string.String.{String}
use Rattle.std.proofs.lemmas.Bool.{cases_lt}
use Rattle.std.proofs.lemmas.Bool.Decides.{nat_tests}
use Rattle.std.proofs.lemmas.Fmt.{decimal_injective, signed_decimal_injective}
use Rattle.std.proofs.lemmas.List.{get_or_past}
use Rattle.std.proofs.lemmas.List.Elements.{All-nil, All-cons, All-append}
use Rattle.std.proofs.lemmas.Str.{IsUtf8-from_ascii}
use Rattle.gpu_values.specs.declared.memory_location.MemoryLocation.{MemoryLocation}
use Rattle.gpu_values.specs.declared.memory_location.MemoryLocation.TheVariants.{Unknown, GpuOnly, CpuToGpu, GpuToCpu}
use Rattle.gpu_device.specs.declared.refusal.Refusal.{Refusal}
use Rattle.gpu_device.specs.declared.refusal.Refusal.TheVariants.{Code, Null}
use Rattle.gpu_device.specs.declared.vulkan.types.AllocationScheme.{AllocationScheme}
use Rattle.gpu_device.specs.declared.vulkan.types.AllocationScheme.TheVariants.{DedicatedBuffer, DedicatedImage, GpuAllocatorManaged}
use Rattle.gpu_capture.specs.Line.{name_word}
use Rattle.gpu_capture.specs.Words.{location_word, refusal_word, budget_word}
use Rattle.gpu_capture.specs.Vulkan.{linear_word, scheme_word}
use Rattle.gpu_capture.proofs.Lines.{IsClean, AreClean, clean_decimal, clean_signed, clean_name, name_some, name_short}
use Rattle.gpu_block_session.specs.Words.{IsName}
use Rattle.gpu_block_session.proofs.Canonical.{differ, mag_below}
use Rattle.gpu_block_session.proofs.Numbers.{front}
use Rattle.gpu_trace_text.specs.Ask as ask
use Rattle.gpu_trace_text.specs.Command.{FitsBudget}
use Rattle.gpu_trace_text.specs.Setting as setting
use Rattle.gpu_trace_text.proofs.Made.{made}

-- ---- words

-- a test of literal texts
abbrev pub all_clean : List ℕ → Bool
all_clean [] = true
all_clean (b ∷ bs) = if nat_lt 32 b then (if nat_lt b 127 then all_clean bs else false) else false

clean_parts : (b : ℕ) (t : Bool) → (if nat_lt 32 b then (if nat_lt b 127 then t else false) else false) ≡ true → IsInRange 33 126 b × (t ≡ true)
clean_parts b t e = (grind (arith, nat_tests), grind (arith, nat_tests))

pub clean_text : (bs : List ℕ) → all_clean bs ≡ true → IsClean bs
clean_text [] e = All-nil (IsInRange 33 126)
clean_text (b ∷ bs) e = let p = clean_parts b (all_clean bs) e in All-cons (IsInRange 33 126) b bs p.0 (clean_text bs p.1)

-- a test of literal words
abbrev pub words_clean : List (List ℕ) → Bool
words_clean [] = true
words_clean (w ∷ ws) = if all_clean w then words_clean ws else false

both_clean : (a b : Bool) → (if a then b else false) ≡ true → (a ≡ true) × (b ≡ true)
both_clean true b e = (refl, e)
both_clean false b e = cc

pub clean_words : (ws : List (List ℕ)) → words_clean ws ≡ true → AreClean ws
clean_words [] e = tt
clean_words (w ∷ ws) e = let p = both_clean (all_clean w) (words_clean ws) e in (clean_text w p.0, clean_words ws p.1)

pub clean_location : (l : MemoryLocation) → IsClean (location_word l)
clean_location Unknown = clean_text (codes "Unknown") refl
clean_location GpuOnly = clean_text (codes "GpuOnly") refl
clean_location CpuToGpu = clean_text (codes "CpuToGpu") refl
clean_location GpuToCpu = clean_text (codes "GpuToCpu") refl

pub clean_linear : (l : Bool) → IsClean (linear_word l)
clean_linear true = clean_text (codes "linear") refl
clean_linear false = clean_text (codes "nonlinear") refl

pub clean_scheme : (s : AllocationScheme) → ask.FitsScheme s → IsClean (scheme_word s)
clean_scheme GpuAllocatorManaged f = clean_text (codes "managed") refl
clean_scheme (DedicatedBuffer b) f = All-append (IsInRange 33 126) (codes "buffer:") (decimal b.0) (clean_text (codes "buffer:") refl) (clean_decimal b.0 f)
clean_scheme (DedicatedImage i) f = All-append (IsInRange 33 126) (codes "image:") (decimal i.0) (clean_text (codes "image:") refl) (clean_decimal i.0 f)

pub clean_budget : (b : Option ℕ) → FitsBudget b → IsClean (budget_word b)
clean_budget None f = clean_text (codes "none") refl
clean_budget (Some bytes) f = clean_decimal bytes f

pub clean_refusal : (r : Refusal) → setting.FitsRefusal r → IsClean (refusal_word r)
clean_refusal (Code code) f = clean_signed code f
clean_refusal Null f = clean_text (codes "null") refl

-- ---- words that say one thing

-- texts that begin with other bytes
pub first_differs : {xs ys : List ℕ} → xs ≡ ys → bytes_eq (take 1 xs) (take 1 ys) ≡ false → ⊥
first_differs {xs} {ys} e f = differ (take 1 xs) (take 1 ys) false (sym f) refl (ap (take 1) e)

abbrev pub first_word : List (List ℕ) → List ℕ
first_word [] = []
first_word (w ∷ ws) = w

-- lines that begin with other words
pub other : {ws vs : List (List ℕ)} → ws ≡ vs → bytes_eq (first_word ws) (first_word vs) ≡ false → ⊥
other {ws} {vs} e f = differ (first_word ws) (first_word vs) false (sym f) refl (ap first_word e)

pub location-one : (a b : MemoryLocation) → location_word a ≡ location_word b → b ≡ a
location-one Unknown Unknown e = refl
location-one GpuOnly GpuOnly e = refl
location-one CpuToGpu CpuToGpu e = refl
location-one GpuToCpu GpuToCpu e = refl
location-one a b e = absurd (differ (location_word a) (location_word b) false refl refl e)

pub linear-one : (a b : Bool) → linear_word a ≡ linear_word b → b ≡ a
linear-one true true e = refl
linear-one false false e = refl
linear-one a b e = absurd (differ (linear_word a) (linear_word b) false refl refl e)

pub scheme-one : (a b : AllocationScheme) → ask.FitsScheme a → ask.FitsScheme b → scheme_word a ≡ scheme_word b → b ≡ a
scheme-one GpuAllocatorManaged GpuAllocatorManaged f g e = refl
scheme-one (DedicatedBuffer a) (DedicatedBuffer b) f g e =
    let same : decimal b.0 ≡ decimal a.0 = cc in ap (λ (n : ℕ). DedicatedBuffer (record { 0 = n })) (decimal_injective b.0 a.0 g f same)
scheme-one (DedicatedImage a) (DedicatedImage b) f g e =
    let same : decimal b.0 ≡ decimal a.0 = cc in ap (λ (n : ℕ). DedicatedImage (record { 0 = n })) (decimal_injective b.0 a.0 g f same)
scheme-one a b f g e = absurd (first_differs e refl)

pub ascii : (bs : List ℕ) → All (IsInRange 32 126) bs → IsAscii bs
ascii bs h i = elim (cases_lt i (length bs)) [
  | inl lt ↦ let r = h i 0 lt in omega arith
  | inr le ↦ let e = get_or_past bs i 0 le in omega arith
]

-- ---- names

pub is_name : (name : List ℕ) → IsName (name_word name)
is_name name = record { some = name_some name; short = name_short name; printable = clean_name name }

pub printed_name : (name : List ℕ) → All (IsInRange 32 126) (name_word name)
printed_name name k d lt = let c = clean_name name k d lt in omega arith

-- a text of the name
pub text_of : Global → (name : List ℕ) → (s : String Global) × (string_bytes s ≡ name_word name)
text_of g name =
    let short = name_short name in
    made g (name_word name) (omega arith) (IsUtf8-from_ascii (name_word name) (ascii (name_word name) (printed_name name)))

-- ---- budgets and refusals

pub none_digits : (n : ℕ) → n < 2 ^ 64 → codes "none" ≡ decimal n → ⊥
none_digits n h e = let d = (front (codes "none") n h e).digit in absurd (omega arith)

pub budget-one : (a b : Option ℕ) → FitsBudget a → FitsBudget b → budget_word a ≡ budget_word b → b ≡ a
budget-one None None f g e = refl
budget-one (Some a) (Some b) f g e = ap Some (decimal_injective b a g f (sym e))
budget-one None (Some b) f g e = absurd (none_digits b g e)
budget-one (Some a) None f g e = absurd (none_digits a f (sym e))

none_null : (n : ℕ) → n < 2 ^ 64 → codes "null" ≡ decimal n → ⊥
none_null n h e = let d = (front (codes "null") n h e).digit in absurd (omega arith)

pub null_digits : (z : ℤ) → FitsSigned w32 z → codes "null" ≡ signed_decimal z → ⊥
null_digits (pos n) h e = none_null n (omega arith) e
null_digits (negsuc n) h e = first_differs e refl

pub refusal-one : (a b : Refusal) → setting.FitsRefusal a → setting.FitsRefusal b → refusal_word a ≡ refusal_word b → b ≡ a
refusal-one Null Null f g e = refl
refusal-one (Code a) (Code b) f g e = ap Code (signed_decimal_injective b a (mag_below b g) (mag_below a f) (sym e))
refusal-one Null (Code b) f g e = absurd (null_digits b g e)
refusal-one (Code a) Null f g e = absurd (null_digits a f (sym e))

pub clean_small : (n : ℕ) → n < 2 ^ 32 → IsClean (decimal n)
clean_small n h = clean_decimal n (omega arith)
