-- A committed resource that a capture wrote reads back.
use Rattle.std.proofs.Common.{◌≡◌, refl, sym, ap, ◌∙◌, subst, ℕ, ◌+◌, ◌*◌, ◌/◌, ◌<◌, ◌^◌, ◌==◌, List, [], ◌∷◌, ◌++◌, map, Option, Some, None, Bool, true, false, if◌then◌else◌, arith}
use Rattle.std.specs.Prelude.{codes, nat_lt}
use Rattle.std.specs.Fmt.{decimal}
use Rattle.std.specs.List.{slice_split}
use Rattle.std.specs.declared.alloc.Global.{Global}
use Rattle.std.specs.declared.vec.Vec.{Vec}
use Rattle.std.proofs.lemmas.Bool.Decides.{nat_tests}
use Rattle.std.proofs.lemmas.Fmt.{decimal_injective, decimal_digit}
use Rattle.std.proofs.lemmas.List.Elements.{All-head, All-nil}
use denote.RawPtr.{null_ptr}
use Rattle.gpu_values.specs.declared.memory_location.MemoryLocation.{MemoryLocation}
use Rattle.gpu_device.specs.declared.d3d12.types.ClearValue.{ClearValue}
use Rattle.gpu_device.specs.declared.d3d12.types.Format.{Format}
use Rattle.gpu_device.specs.declared.d3d12.types.ResourceDimension.{ResourceDimension}
use Rattle.gpu_device.specs.declared.d3d12.types.ResourceDimension.TheVariants as dimensions
use Rattle.gpu_d3d12.specs.Heaps.{heap_properties}
use Rattle.gpu_d3d12.specs.declared.question.ResourceStateOrBarrierLayout.{ResourceStateOrBarrierLayout}
use Rattle.gpu_d3d12.specs.declared.question.ResourceStateOrBarrierLayout.TheVariants.{ResourceState, BarrierLayout}
use Rattle.gpu_capture.specs.declared.request.D3D12Request.{D3D12Request}
use Rattle.gpu_capture.specs.D3D12 as captured
use Rattle.gpu_capture.specs.D3D12.{committed_words, whole_units}
use Rattle.gpu_capture.specs.Line.{name_word}
use Rattle.gpu_capture.specs.Requests.{committed_line}
use Rattle.gpu_capture.specs.Words.{location_word}
use Rattle.gpu_capture.proofs.Lines.{clean_decimal, clean_name}
use Rattle.gpu_run.specs.D3D12Command.{Command}
use Rattle.gpu_run.specs.declared.command.Command.TheVariants as asked
use Rattle.gpu_run.specs.declared.d3d12.command.Other.TheVariants.{Create}
use Rattle.gpu_run.specs.declared.d3d12.command.Memory.{Memory}
use Rattle.gpu_run.specs.declared.d3d12.command.Memory.TheVariants.{Own, Placed}
use Rattle.gpu_run.specs.declared.d3d12.command.WantedResource.{WantedResource}
use Rattle.gpu_block_session.proofs.Canonical.{differ}
use Rattle.gpu_block_session.specs.Words.{IsName}
use Rattle.gpu_trace_text.specs.Captured.{BeginsWith}
use Rattle.gpu_trace_text.specs.D3D12Calls.{IsCommitted, IsCreate}
use Rattle.gpu_trace_text.specs.D3D12Captured.{category_of}
use Rattle.gpu_trace_text.specs.D3D12Command as command
use Rattle.gpu_trace_text.specs.D3D12Line.{Means}
use Rattle.gpu_trace_text.specs.D3D12Numbers.{IsSeparator, AreNumbers, numbers_word}
use Rattle.gpu_trace_text.specs.D3D12Resource.{category_word, dimension_word, initial_word, formats_word, clear_word, place_word, plain_desc, wanted_words, FitsClear, FitsFormats, FitsInitial, FitsMemory, FitsWanted}
use Rattle.gpu_trace_text.specs.Spelled.{Spells}
use Rattle.gpu_trace_text.specs.declared.dialect.Line.TheVariants as lines
use Rattle.gpu_trace_text.proofs.CapturedWords.{clean_text, clean_location, location-one, is_name, none_digits, text_of, first_differs, other}
use Rattle.gpu_trace_text.proofs.D3D12Captured.{said, command_words, FitsCommand, clean_category, category-same, category-one}
use Rattle.gpu_trace_text.proofs.D3D12Meaning.{colon, comma, are_numbers}
use Rattle.gpu_trace_text.proofs.D3D12Parts.{IsSmall, parts_of}
use Rattle.gpu_trace_text.proofs.Reading.{asks_line}

-- ---- words that say one thing

-- `none` is no list of numbers
none_alone : (c : ℕ) (ns : List ℕ) → IsSeparator c → slice_split (λ b. b == c) (codes "none") ≡ codes "none" ∷ [] → AreNumbers ns → codes "none" ≡ numbers_word c ns → ⊥
none_alone c [] s alone are e = absurd (omega (arith, are.some))
none_alone c (n ∷ ns) s alone are e =
    let split : codes "none" ∷ [] ≡ decimal n ∷ map decimal ns = sym alone ∙ ap (slice_split (λ b. b == c)) e ∙ parts_of c (n ∷ ns) s are.some are.fit in
    let first : codes "none" ≡ decimal n = cc in
    none_digits n (omega (arith, All-head IsSmall n ns are.fit)) first

no_formats-one : (fs : List Format) → FitsFormats fs → codes "none" ≡ formats_word fs → fs ≡ []
no_formats-one [] fits e = refl
no_formats-one (f ∷ fs) fits e = absurd (none_alone 44 (map (λ x. x.0) (f ∷ fs)) comma refl (are_numbers f fs fits) e)

no_clear-one : (v : Option ClearValue) → FitsClear v → codes "none" ≡ clear_word v → v ≡ None
no_clear-one None fits e = refl
no_clear-one (Some v) fits e = absurd (none_alone 58 (v.format.0 ∷ v.value) colon refl fits.0 e)

one_digit : decimal 1 ≡ codes "1"
one_digit = decimal_digit 1 (omega arith)

no_digit : decimal 0 ≡ codes "0"
no_digit = decimal_digit 0 (omega arith)

initial-one : (i : ResourceStateOrBarrierLayout) → FitsInitial i → codes "state:0" ≡ initial_word i → i ≡ ResourceState 0
initial-one (ResourceState s) fits e =
    let same : codes "0" ≡ decimal s = cc in
    ap ResourceState (decimal_injective s 0 (omega arith) (omega arith) (sym same ∙ sym no_digit))
initial-one (BarrierLayout l) fits e = absurd (first_differs e refl)

dimension-one : (d : ResourceDimension) → codes "buffer" ≡ dimension_word d → d ≡ dimensions.Buffer
dimension-one dimensions.Buffer e = refl
dimension-one d e = absurd (differ (codes "buffer") (dimension_word d) false refl refl e)

memory-one : (location : MemoryLocation) (m : Memory) → FitsMemory location m → codes "committed" ≡ place_word m → m ≡ Own (heap_properties location) (record { 0 = 0 })
memory-one location (Own properties flags) fits e = ap (λ p. Own p flags) fits.0 ∙ ap (λ n. Own (heap_properties location) (record { 0 = n })) fits.1
memory-one location Placed fits e = absurd (differ (codes "committed") (codes "placed") false refl refl e)

-- ---- the resource

units_fit : (size : ℕ) → size < 2 ^ 64 → whole_units size < 2 ^ 64
units_fit size small = by_test (nat_lt ((size + 65535) / 65536 * 65536) (2 ^ 64)) refl
  where
    by_test : (t : Bool) → nat_lt ((size + 65535) / 65536 * 65536) (2 ^ 64) ≡ t → (if t then (size + 65535) / 65536 * 65536 else size) < 2 ^ 64
    by_test true e = grind (arith, nat_tests)
    by_test false e = small

abbrev no_formats : Global → Vec Format Global
no_formats g = record { ptr = null_ptr; len = 0; cap = 0; alloc = g; items = []; ok = (refl, omega arith); small = omega arith }

abbrev wanted_of : Global → D3D12Request → WantedResource
wanted_of g r = record {
  name = (text_of g r.name.now).0;
  location = r.location;
  category = category_of r.category;
  desc = plain_desc dimensions.Buffer (whole_units r.size) 1 1 0;
  castable_formats = no_formats g;
  clear_value = None;
  initial = ResourceState 0;
  memory = Own (heap_properties r.location) (record { 0 = 0 });
}

wanted_fits : (g : Global) (r : D3D12Request) → r.size < 2 ^ 64 → FitsWanted (wanted_of g r)
wanted_fits g r f = record {
  memory_fits = (refl, refl);
  desc_fits = record { width_fits = units_fit r.size f; height_fits = omega arith; depth_fits = omega arith; flags_fit = omega arith; plain = refl };
  initial_fits = omega arith;
  formats_fit = record { few = omega arith; fit = All-nil (λ x. x.0 < 2 ^ 32) };
  clear_fits = tt;
  name_fits = subst IsName (sym (text_of g r.name.now).1) (is_name r.name.now);
}

abbrev create_words : (number : ℕ) → D3D12Request → List (List ℕ)
create_words number r = committed_words number r.location (captured.category_word r.category) (whole_units r.size) (name_word r.name.now)

spelled : (g : Global) (number : ℕ) (r : D3D12Request) → create_words number r ≡ command.words (Create number (wanted_of g r))
spelled g number r = rw (category-same r.category, one_digit, no_digit, (text_of g r.name.now).1) refl

same_resource : (number : ℕ) (r : D3D12Request) (w : WantedResource) → r.size < 2 ^ 64 → FitsWanted w → create_words number r ≡ codes "create" ∷ decimal number ∷ wanted_words w → IsCommitted r w
same_resource number r w f h e =
    let place : codes "committed" ≡ place_word w.memory = cc in
    let location : location_word r.location ≡ location_word w.location = cc in
    let category : captured.category_word r.category ≡ category_word w.category = cc in
    let dimension : codes "buffer" ≡ dimension_word w.desc.dimension = cc in
    let width : decimal (whole_units r.size) ≡ decimal w.desc.width = cc in
    let height : codes "1" ≡ decimal w.desc.height = cc in
    let depth : codes "1" ≡ decimal w.desc.depth_or_array_size = cc in
    let flags : codes "0" ≡ decimal w.desc.flags = cc in
    let initial : codes "state:0" ≡ initial_word w.initial = cc in
    let formats : codes "none" ≡ formats_word w.castable_formats.items = cc in
    let clear : codes "none" ≡ clear_word w.clear_value = cc in
    let d = h.desc_fits in
    let place_is : w.location ≡ r.location = location-one r.location w.location location in
    let dimension_is : w.desc.dimension ≡ dimensions.Buffer = dimension-one w.desc.dimension dimension in
    let width_is : w.desc.width ≡ whole_units r.size = decimal_injective w.desc.width (whole_units r.size) d.width_fits (units_fit r.size f) (sym width) in
    let height_is : w.desc.height ≡ 1 = decimal_injective w.desc.height 1 (omega (arith, d.height_fits)) (omega arith) (sym height ∙ sym one_digit) in
    let depth_is : w.desc.depth_or_array_size ≡ 1 = decimal_injective w.desc.depth_or_array_size 1 (omega (arith, d.depth_fits)) (omega arith) (sym depth ∙ sym one_digit) in
    let flags_are : w.desc.flags ≡ 0 = decimal_injective w.desc.flags 0 (omega (arith, d.flags_fit)) (omega arith) (sym flags ∙ sym no_digit) in record {
      memory = memory-one w.location w.memory h.memory_fits place ∙ ap (λ (l : MemoryLocation). Own (heap_properties l) (record { 0 = 0 })) place_is;
      location = place_is;
      category = category-one (category_of r.category) w.category (sym (category-same r.category) ∙ category);
      desc =
          d.plain ∙ ap (λ (x : ResourceDimension). plain_desc x w.desc.width w.desc.height w.desc.depth_or_array_size w.desc.flags) dimension_is
          ∙ ap (λ (n : ℕ). plain_desc dimensions.Buffer n w.desc.height w.desc.depth_or_array_size w.desc.flags) width_is
          ∙ ap (λ (n : ℕ). plain_desc dimensions.Buffer (whole_units r.size) n w.desc.depth_or_array_size w.desc.flags) height_is
          ∙ ap (λ (n : ℕ). plain_desc dimensions.Buffer (whole_units r.size) 1 n w.desc.flags) depth_is
          ∙ ap (λ (n : ℕ). plain_desc dimensions.Buffer (whole_units r.size) 1 1 n) flags_are;
      initial = initial-one w.initial h.initial_fits initial;
      formats = no_formats-one w.castable_formats.items h.formats_fit formats;
      clear = no_clear-one w.clear_value h.clear_fits clear;
      name = cc;
    }

create_one : (n : ℕ) (r : D3D12Request) → n < 2 ^ 64 → r.size < 2 ^ 64 → (d : Command) → Spells command_words FitsCommand (create_words n r) d → IsCreate n r (lines.Asks d)
create_one n r small f (asked.Other (Create key w)) s =
    let i = s.is in
    let k : decimal key ≡ decimal n = cc in
    let same : key ≡ n = decimal_injective key n s.fits.0 small k in
    (same, same_resource n r w f s.fits.1 (i ∙ ap (λ (m : ℕ). codes "create" ∷ decimal m ∷ wanted_words w) same))
create_one n r small f d s = absurd (other s.is refl)

pub create_reads : Global → (n : ℕ) (r : D3D12Request) (rest : List ℕ) → n < 2 ^ 64 → r.size < 2 ^ 64 → BeginsWith Means (IsCreate n r) (committed_line n r ++ rest) rest
create_reads g n r rest small f =
    asks_line said (IsCreate n r) (asked.Other (Create n (wanted_of g r))) (codes "create")
    (decimal n ∷ codes "committed" ∷ location_word r.location ∷ captured.category_word r.category ∷ codes "buffer" ∷ decimal (whole_units r.size)
    ∷ codes "1" ∷ codes "1" ∷ codes "0" ∷ codes "state:0" ∷ codes "none" ∷ codes "none" ∷ name_word r.name.now ∷ []) rest (spelled g n r) tt (small, wanted_fits g r f) (
      clean_text (codes "create") refl,
      (
        clean_decimal n small,
        (
          clean_text (codes "committed") refl,
          (
            clean_location r.location,
            (
              clean_category r.category,
              (
                clean_text (codes "buffer") refl,
                (
                  clean_decimal (whole_units r.size) (units_fit r.size f),
                  (
                    clean_text (codes "1") refl,
                    (
                      clean_text (codes "1") refl,
                      (
                        clean_text (codes "0") refl,
                        (
                          clean_text (codes "state:0") refl,
                          (clean_text (codes "none") refl, (clean_text (codes "none") refl, (clean_name r.name.now, tt))),
                        ),
                      ),
                    ),
                  ),
                ),
              ),
            ),
          ),
        ),
      ),
    ) (create_one n r small f)
