-- What a capture wrote reads back: a line's words are read as they were written, and say one thing.
use Rattle.std.proofs.Common.{◌≡◌, refl, sym, ap, ◌∙◌, subst, ℕ, ◌<◌, ◌^◌, List, [], ◌∷◌, ◌++◌, arith}
use Rattle.std.specs.Prelude.{codes, string_bytes}
use Rattle.std.specs.Fmt.{decimal}
use Rattle.std.specs.declared.alloc.Global.{Global}
use Rattle.std.proofs.lemmas.Fmt.{decimal_injective}
use Rattle.gpu_device.specs.declared.refusal.Refusal.{Refusal}
use Rattle.gpu_capture.specs.declared.request.VulkanRequest.{VulkanRequest}
use Rattle.gpu_capture.specs.declared.request.Request.TheVariants as requests
use Rattle.gpu_capture.specs.Line.{line_of, name_word}
use Rattle.gpu_capture.specs.Words.{location_word, refusal_word, rename_words}
use Rattle.gpu_capture.specs.Vulkan.{linear_word, scheme_word, vulkan_words}
use Rattle.gpu_capture.proofs.Lines.{AreClean, clean_decimal, clean_name}
use Rattle.gpu_run.specs.declared.vulkan.command.Request.{Request}
use Rattle.gpu_run.specs.VulkanServed.{Command}
use Rattle.gpu_run.specs.declared.command.Command.TheVariants as asked
use Rattle.gpu_run.specs.declared.vulkan.command.Other.{Other}
use Rattle.gpu_run.specs.declared.vulkan.command.Other.TheVariants as others
use Rattle.gpu_block_session.specs.Words.{IsName}
use Rattle.gpu_block_session.specs.BlockWords as block
use Rattle.gpu_block_session.specs.declared.block.command.Command as blocks
use Rattle.gpu_block_session.specs.declared.block.command.Command.TheVariants as block_commands
use Rattle.gpu_trace_text.specs.Ask as ask
use Rattle.gpu_trace_text.specs.Command.{words, CommandFits}
use Rattle.gpu_trace_text.specs.Spelled.{Spells}
use Rattle.gpu_trace_text.specs.Setting as setting
use Rattle.gpu_trace_text.specs.Line.{Means}
use Rattle.gpu_trace_text.specs.Captured.{BeginsWith, FitsCaptured, IsRequest, IsRename, ReadsBack}
use Rattle.gpu_trace_text.specs.declared.device.setting.Setting.{Setting}
use Rattle.gpu_trace_text.specs.declared.device.setting.Setting.TheVariants.{Heap, MemoryType, Granularity, Sizes, Refuse}
use Rattle.gpu_trace_text.specs.declared.dialect.Line.TheVariants as lines
use Rattle.gpu_trace_text.proofs.CapturedWords.{clean_text, clean_location, clean_linear, clean_scheme, clean_refusal, location-one, linear-one, scheme-one, is_name, text_of, refusal-one, clean_small, other}
use Rattle.gpu_trace_text.proofs.Reading.{Words, IsOwn, kinds, sets, tells, asks_line, read_back}

-- ---- words

pub block_kind : (c : blocks.Command) → kinds (block.words c) ≡ tells
block_kind (block_commands.Block side min max count granularity) = refl
block_kind c = refl

pub own_kind : (o : Other) → IsOwn (kinds (ask.words o))
own_kind (others.Null key) = tt
own_kind o = tt

pub shared_kind : (s : Setting) → kinds (setting.words s) ≡ sets
shared_kind (Heap size) = refl
shared_kind s = refl

pub setting_one : (s t : Setting) → setting.SettingFits s → setting.SettingFits t → setting.words s ≡ setting.words t → t ≡ s
setting_one (Heap a) (Heap b) f g e = let k : decimal b ≡ decimal a = cc in ap Heap (decimal_injective b a g f k)
setting_one (MemoryType a b) (MemoryType x y) f g e =
    let k : decimal x ≡ decimal a = cc in
    let m : decimal y ≡ decimal b = cc in
    let fa = f.0 in let fb = f.1 in let gx = g.0 in let gy = g.1 in
    let same : x ≡ a = decimal_injective x a (omega arith) (omega arith) k in
    let also : y ≡ b = decimal_injective y b (omega arith) (omega arith) m in
    ap (λ (n : ℕ). MemoryType n y) same ∙ ap (λ (n : ℕ). MemoryType a n) also
setting_one (Granularity a) (Granularity b) f g e = let k : decimal b ≡ decimal a = cc in ap Granularity (decimal_injective b a g f k)
setting_one (Sizes a b d h) (Sizes x y z w) f g e =
    let k : decimal x ≡ decimal a = cc in
    let m : decimal y ≡ decimal b = cc in
    let n : decimal z ≡ decimal d = cc in
    let o : decimal w ≡ decimal h = cc in
    ap (λ (q : ℕ). Sizes q y z w) (decimal_injective x a g.0 f.0 k) ∙ (ap (λ (q : ℕ). Sizes a q z w) (decimal_injective y b g.1 f.1 m)
    ∙ (ap (λ (q : ℕ). Sizes a b q w) (decimal_injective z d g.2 f.2 n) ∙ ap (λ (q : ℕ). Sizes a b d q) (decimal_injective w h g.3 f.3 o)))
setting_one (Refuse a r) (Refuse b q) f g e =
    let k : decimal b ≡ decimal a = cc in
    let w : refusal_word r ≡ refusal_word q = cc in
    ap (λ (n : ℕ). Refuse n q) (decimal_injective b a g.1 f.1 k) ∙ ap (λ (n : Refusal). Refuse a n) (refusal-one r q f.2 g.2 w)
setting_one s t f g e = absurd (other e refl)

pub setting_clean : (s : Setting) → setting.SettingFits s → AreClean (setting.words s)
setting_clean (Heap size) f = (clean_text (codes "heap") refl, (clean_decimal size f, tt))
setting_clean (MemoryType flags heap) f = (clean_text (codes "type") refl, (clean_small flags f.0, (clean_small heap f.1, tt)))
setting_clean (Granularity bytes) f = (clean_text (codes "granularity") refl, (clean_decimal bytes f, tt))
setting_clean (Sizes device host max_device max_host) f =
    (clean_text (codes "sizes") refl, (clean_decimal device f.0, (clean_decimal host f.1, (clean_decimal max_device f.2, (clean_decimal max_host f.3, tt)))))
setting_clean (Refuse question refusal) f = (clean_text (codes "refuse") refl, (clean_decimal question f.1, (clean_refusal refusal f.2, tt)))

abbrev pub said : Words Setting Request Other blocks.Command
said = record {
  setting = setting.words;
  FitsSetting = setting.SettingFits;
  request = ask.request_words;
  FitsRequest = ask.FitsRequest;
  own = ask.words;
  FitsOwn = ask.OtherFits;
  look = block.words;
  FitsLook = block.CommandFits;
  setting_kind = shared_kind;
  own_kind = own_kind;
  look_kind = block_kind;
  setting_clean = setting_clean;
  setting_one = setting_one;
}

abbrev pub command_words : Command → List (List ℕ)
command_words = words ask.request_words ask.words

abbrev pub FitsCommand : Command → Type 0
FitsCommand = CommandFits ask.FitsRequest ask.OtherFits

-- ---- requests

abbrev request_words : VulkanRequest → List (List ℕ)
request_words r = vulkan_words r.requirements r.location r.linear r.scheme (name_word r.name.now)

clean_request : (r : VulkanRequest) → FitsCaptured r → AreClean (request_words r)
clean_request r f =
    let n = f.requirements_fit in (
      clean_decimal r.requirements.size n.size_fits,
      (
        clean_decimal r.requirements.alignment n.alignment_fits,
        (
          clean_decimal r.requirements.memory_type_bits (let b = n.bits_fit in omega arith),
          (clean_location r.location, (clean_linear r.linear, (clean_scheme r.scheme f.scheme_fits, (clean_name r.name.now, tt)))),
        ),
      ),
    )

abbrev request_of : Global → VulkanRequest → Request
request_of g r = record { requirements = r.requirements; location = r.location; linear = r.linear; scheme = r.scheme; name = (text_of g r.name.now).0 }

fits_request : (g : Global) (r : VulkanRequest) → FitsCaptured r → ask.FitsRequest (request_of g r)
fits_request g r f = record {
  requirements_fit = f.requirements_fit;
  scheme_fits = f.scheme_fits;
  name_fits = subst IsName (sym (text_of g r.name.now).1) (is_name r.name.now);
}

spelled : (g : Global) (r : VulkanRequest) → request_words r ≡ ask.request_words (request_of g r)
spelled g r = ap (vulkan_words r.requirements r.location r.linear r.scheme) (sym (text_of g r.name.now).1)

same_request : (r : VulkanRequest) (q : Request) → FitsCaptured r → ask.FitsRequest q → request_words r ≡ ask.request_words q
    → IsRequest r q
same_request r q f h e =
    let size : decimal q.requirements.size ≡ decimal r.requirements.size = cc in
    let alignment : decimal q.requirements.alignment ≡ decimal r.requirements.alignment = cc in
    let bits : decimal q.requirements.memory_type_bits ≡ decimal r.requirements.memory_type_bits = cc in
    let location : location_word r.location ≡ location_word q.location = cc in
    let linear : linear_word r.linear ≡ linear_word q.linear = cc in
    let scheme : scheme_word r.scheme ≡ scheme_word q.scheme = cc in
    let small = f.requirements_fit.bits_fit in
    let small' = h.requirements_fit.bits_fit in
    record {
      size = decimal_injective q.requirements.size r.requirements.size h.requirements_fit.size_fits f.requirements_fit.size_fits size;
      alignment = decimal_injective q.requirements.alignment r.requirements.alignment h.requirements_fit.alignment_fits f.requirements_fit.alignment_fits alignment;
      bits = decimal_injective q.requirements.memory_type_bits r.requirements.memory_type_bits (omega arith) (omega arith) bits;
      location = location-one r.location q.location location;
      linear = linear-one r.linear q.linear linear;
      scheme = scheme-one r.scheme q.scheme f.scheme_fits h.scheme_fits scheme;
      name = cc;
    }

pub reads_back : Global → ReadsBack Means setting.words setting.SettingFits requests.Vulkan FitsCaptured IsRequest
reads_back g =
    read_back said requests.Vulkan FitsCaptured IsRequest
    (record { asked_for = request_of g; fits = fits_request g; spelled = spelled g; clean = clean_request; same = same_request })

-- ---- names

rename_one : (n : ℕ) (name : List ℕ) → n < 2 ^ 64 → (d : Command) → Spells command_words FitsCommand (rename_words n (name_word name)) d → IsRename n name (lines.Asks d)
rename_one n name small (asked.Other (others.Rename key read)) s =
    let i = s.is in
    let k : decimal key ≡ decimal n = cc in
    let same : string_bytes read ≡ name_word name = cc in
    (decimal_injective key n s.fits.0 small k, same)
rename_one n name small d s = absurd (other s.is refl)

pub rename_reads : Global → (n : ℕ) (name rest : List ℕ) → n < 2 ^ 64 → BeginsWith Means (IsRename n name) (line_of (rename_words n (name_word name)) ++ rest) rest
rename_reads g n name rest small =
    asks_line said (IsRename n name) (asked.Other (others.Rename n (text_of g name).0)) (codes "rename") (decimal n ∷ name_word name ∷ []) rest (ap (rename_words n) (sym (text_of g name).1)) tt (small, subst IsName (sym (text_of g name).1) (is_name name))
    (clean_text (codes "rename") refl, (clean_decimal n small, (clean_name name, tt))) (rename_one n name small)
