-- What a capture wrote of DirectX 12 reads back.
use Rattle.std.proofs.Common.{◌≡◌, refl, sym, ap, ◌∙◌, subst, false, ℕ, ◌<◌, ◌^◌, List, [], ◌∷◌, ◌++◌}
use Rattle.std.specs.Prelude.{codes, string_bytes, Result, Ok, Err, ℤ}
use Rattle.std.specs.Fmt.{decimal, signed_decimal}
use Rattle.std.specs.declared.alloc.Global.{Global}
use Rattle.std.proofs.lemmas.Fmt.{decimal_injective, signed_decimal_injective}
use Rattle.gpu_capture.specs.declared.request.D3D12Request.{D3D12Request}
use Rattle.gpu_capture.specs.declared.request.Request.TheVariants as requests
use Rattle.gpu_capture.specs.D3D12 as captured
use Rattle.gpu_capture.specs.D3D12.{d3d12_words}
use Rattle.gpu_capture.specs.Line.{line_of, name_word}
use Rattle.gpu_capture.specs.Words.{location_word, rename_words}
use Rattle.gpu_capture.proofs.Lines.{IsClean, AreClean, clean_decimal, clean_signed, clean_name}
use Rattle.gpu_run.specs.declared.d3d12.command.Request.{Request}
use Rattle.gpu_run.specs.D3D12Command.{Command}
use Rattle.gpu_run.specs.declared.command.Command.TheVariants as asked
use Rattle.gpu_run.specs.declared.d3d12.command.Other.{Other}
use Rattle.gpu_run.specs.declared.d3d12.command.Other.TheVariants as others
use Rattle.gpu_block_session.specs.Words.{IsName}
use Rattle.gpu_trace_text.specs.D3D12Command as command
use Rattle.gpu_trace_text.specs.Command.{words, CommandFits}
use Rattle.gpu_trace_text.specs.Spelled.{Spells}
use Rattle.gpu_trace_text.specs.D3D12Setting as setting
use Rattle.gpu_trace_text.specs.D3D12Line.{Means, look_words, LookFits}
use Rattle.gpu_trace_text.specs.Captured.{BeginsWith, ReadsBack}
use Rattle.gpu_trace_text.specs.D3D12Captured.{FitsCaptured, IsRequest, IsRename, category_of}
use Rattle.gpu_trace_text.specs.declared.device.setting.Setting.TheVariants as shared
use Rattle.gpu_trace_text.specs.declared.d3d12.line.Look.{Look}
use Rattle.gpu_trace_text.specs.declared.d3d12.line.Look.TheVariants.{Asked}
use Rattle.gpu_trace_text.specs.declared.d3d12.setting.Setting.{Setting}
use Rattle.gpu_trace_text.specs.declared.d3d12.setting.Setting.TheVariants as settings
use Rattle.gpu_trace_text.specs.declared.dialect.Line.TheVariants as lines
use Rattle.gpu_trace_text.proofs.CapturedWords.{clean_text, clean_location, location-one, is_name, text_of, other}
use Rattle.gpu_trace_text.proofs.Captured.{setting_clean, setting_one, shared_kind}
use Rattle.gpu_trace_text.proofs.Reading.{Words, IsOwn, kinds, sets, tells, asks_line, read_back}
use Rattle.gpu_device.specs.declared.d3d12.types.ResourceHeapTier.TheVariants.{Tier1, Tier2}
use Rattle.gpu_trace_text.specs.declared.d3d12.setting.Version as versions_of
use Rattle.gpu_trace_text.specs.declared.d3d12.setting.Version.TheVariants as versions
use Rattle.gpu_device.specs.declared.d3d12.types.ResourceHeapTier.{ResourceHeapTier}
use Rattle.gpu_block_session.proofs.Canonical.{differ, mag_below}
use Rattle.gpu_trace_text.specs.D3D12Resource.{category_word}
use Rattle.gpu_capture.specs.declared.request.Category as categories
use Rattle.gpu_capture.specs.declared.request.Category.TheVariants.{Buffer, Target, Texture}
use Rattle.gpu_d3d12.specs.declared.category.ResourceCategory.{ResourceCategory}
use Rattle.gpu_d3d12.specs.declared.category.ResourceCategory.TheVariants as resources

-- ---- words

pub own_kind : (o : Other) → IsOwn (kinds (command.words o))
own_kind (others.Rename key name) = tt
own_kind o = tt

pub setting_kind : (s : Setting) → kinds (setting.words s) ≡ sets
setting_kind (settings.Tier tier) = refl
setting_kind (settings.Interface version) = refl
setting_kind (settings.Shared s) = shared_kind s

pub look_kind : (l : Look) → kinds (look_words l) ≡ tells
look_kind Asked = refl

tier-one : (a b : Result ResourceHeapTier ℤ) → setting.FitsTier a → setting.FitsTier b → setting.tier_words a ≡ setting.tier_words b → b ≡ a
tier-one (Ok Tier1) (Ok Tier1) f g e = refl
tier-one (Ok Tier2) (Ok Tier2) f g e = refl
tier-one (Err a) (Err b) f g e =
    let k : signed_decimal b ≡ signed_decimal a = cc in ap Err (signed_decimal_injective b a (mag_below b g) (mag_below a f) k)
tier-one (Err code) (Ok Tier1) f g e = absurd (other e refl)
tier-one a b f g e = absurd (other e refl)

version-one : (a b : versions_of.Version) → setting.version_word a ≡ setting.version_word b → b ≡ a
version-one versions.Device versions.Device e = refl
version-one versions.Device10 versions.Device10 e = refl
version-one versions.Device12 versions.Device12 e = refl
version-one a b e = absurd (differ (setting.version_word a) (setting.version_word b) false refl refl e)

pub own_setting_one : (s t : Setting) → setting.SettingFits s → setting.SettingFits t → setting.words s ≡ setting.words t → t ≡ s
own_setting_one (settings.Tier a) (settings.Tier b) f g e = let k : setting.tier_words a ≡ setting.tier_words b = cc in ap settings.Tier (tier-one a b f g k)
own_setting_one (settings.Interface a) (settings.Interface b) f g e =
    let k : setting.version_word a ≡ setting.version_word b = cc in ap settings.Interface (version-one a b k)
own_setting_one (settings.Shared a) (settings.Shared b) f g e = ap settings.Shared (setting_one a b f.1 g.1 e)
own_setting_one (settings.Tier a) (settings.Shared (shared.Heap size)) f g e = absurd (other e refl)
own_setting_one (settings.Interface a) (settings.Shared (shared.Heap size)) f g e = absurd (other e refl)
own_setting_one (settings.Shared (shared.Heap size)) (settings.Tier b) f g e = absurd (other e refl)
own_setting_one (settings.Shared (shared.Heap size)) (settings.Interface b) f g e = absurd (other e refl)
own_setting_one s t f g e = absurd (other e refl)

clean_tier : (tier : Result ResourceHeapTier ℤ) → setting.FitsTier tier → AreClean (setting.tier_words tier)
clean_tier (Ok Tier1) f = (clean_text (codes "1") refl, tt)
clean_tier (Ok Tier2) f = (clean_text (codes "2") refl, tt)
clean_tier (Err code) f = (clean_text (codes "refused") refl, (clean_signed code f, tt))

clean_version : (version : versions_of.Version) → IsClean (setting.version_word version)
clean_version versions.Device = clean_text (codes "device") refl
clean_version versions.Device10 = clean_text (codes "device10") refl
clean_version versions.Device12 = clean_text (codes "device12") refl

pub own_setting_clean : (s : Setting) → setting.SettingFits s → AreClean (setting.words s)
own_setting_clean (settings.Tier tier) f = (clean_text (codes "tier") refl, clean_tier tier f)
own_setting_clean (settings.Interface version) f = (clean_text (codes "version") refl, (clean_version version, tt))
own_setting_clean (settings.Shared s) f = setting_clean s f.1

abbrev pub said : Words Setting Request Other Look
said = record {
  setting = setting.words;
  FitsSetting = setting.SettingFits;
  request = command.request_words;
  FitsRequest = command.FitsRequest;
  own = command.words;
  FitsOwn = command.OtherFits;
  look = look_words;
  FitsLook = LookFits;
  setting_kind = setting_kind;
  own_kind = own_kind;
  look_kind = look_kind;
  setting_clean = own_setting_clean;
  setting_one = own_setting_one;
}

abbrev pub command_words : Command → List (List ℕ)
command_words = words command.request_words command.words

abbrev pub FitsCommand : Command → Type 0
FitsCommand = CommandFits command.FitsRequest command.OtherFits

-- ---- requests

pub clean_category : (k : categories.Category) → IsClean (captured.category_word k)
clean_category Buffer = clean_text (codes "buffer") refl
clean_category Target = clean_text (codes "target") refl
clean_category Texture = clean_text (codes "texture") refl

pub category-same : (k : categories.Category) → captured.category_word k ≡ category_word (category_of k)
category-same Buffer = refl
category-same Target = refl
category-same Texture = refl

pub category-one : (a b : ResourceCategory) → category_word a ≡ category_word b → b ≡ a
category-one resources.Buffer resources.Buffer e = refl
category-one resources.RtvDsvTexture resources.RtvDsvTexture e = refl
category-one resources.OtherTexture resources.OtherTexture e = refl
category-one a b e = absurd (differ (category_word a) (category_word b) false refl refl e)

abbrev request_words : D3D12Request → List (List ℕ)
request_words r = d3d12_words r.size r.alignment r.location (captured.category_word r.category) (name_word r.name.now)

clean_request : (r : D3D12Request) → FitsCaptured r → AreClean (request_words r)
clean_request r f = (clean_decimal r.size f.size_fits, (clean_decimal r.alignment f.alignment_fits, (clean_location r.location, (clean_category r.category, (clean_name r.name.now, tt)))))

abbrev request_of : Global → D3D12Request → Request
request_of g r = record { size = r.size; alignment = r.alignment; location = r.location; category = category_of r.category; name = (text_of g r.name.now).0 }

fits_request : (g : Global) (r : D3D12Request) → FitsCaptured r → command.FitsRequest (request_of g r)
fits_request g r f = record {
  size_fits = f.size_fits;
  alignment_fits = f.alignment_fits;
  name_fits = subst IsName (sym (text_of g r.name.now).1) (is_name r.name.now);
}

spelled : (g : Global) (r : D3D12Request) → request_words r ≡ command.request_words (request_of g r)
spelled g r =
    ap (λ (k : List ℕ). d3d12_words r.size r.alignment r.location k (name_word r.name.now)) (category-same r.category)
    ∙ ap (d3d12_words r.size r.alignment r.location (category_word (category_of r.category))) (sym (text_of g r.name.now).1)

same_request : (r : D3D12Request) (q : Request) → FitsCaptured r → command.FitsRequest q → request_words r ≡ command.request_words q → IsRequest r q
same_request r q f h e =
    let size : decimal q.size ≡ decimal r.size = cc in
    let alignment : decimal q.alignment ≡ decimal r.alignment = cc in
    let location : location_word r.location ≡ location_word q.location = cc in
    let category : captured.category_word r.category ≡ category_word q.category = cc in
    record {
      size = decimal_injective q.size r.size h.size_fits f.size_fits size;
      alignment = decimal_injective q.alignment r.alignment h.alignment_fits f.alignment_fits alignment;
      location = location-one r.location q.location location;
      category = category-one (category_of r.category) q.category (sym (category-same r.category) ∙ category);
      name = cc;
    }

pub reads_back : Global → ReadsBack Means setting.words setting.SettingFits requests.D3D12 FitsCaptured IsRequest
reads_back g =
    read_back said requests.D3D12 FitsCaptured IsRequest
    (record { asked_for = request_of g; fits = fits_request g; spelled = spelled g; clean = clean_request; same = same_request })

-- ---- commands of this API alone

rename_one : (n : ℕ) (name : List ℕ) → n < 2 ^ 64 → (d : Command) → Spells command_words FitsCommand (rename_words n (name_word name)) d → IsRename n name (lines.Asks d)
rename_one n name small (asked.Other (others.Rename key read)) s =
    let i = s.is in
    let k : decimal key ≡ decimal n = cc in
    let same : string_bytes read ≡ name_word name = cc in
    (decimal_injective key n s.fits.0 small k, same)
rename_one n name small d s = absurd (other s.is refl)

pub rename_reads : Global → (n : ℕ) (name rest : List ℕ) → n < 2 ^ 64 → BeginsWith Means (IsRename n name) (line_of (rename_words n (name_word name)) ++ rest) rest
rename_reads g n name rest small =
    asks_line said (IsRename n name) (asked.Other (others.Rename n (text_of g name).0)) (codes "rename") (decimal n ∷ name_word name ∷ []) rest (ap (rename_words n) (sym (text_of g name).1)) tt (small, subst IsName (sym (text_of g name).1) (is_name name))
    (clean_text (codes "rename") refl, (clean_decimal n small, (clean_name name, tt))) (rename_one n name small)

release_one : (n : ℕ) → n < 2 ^ 64 → (d : Command) → Spells command_words FitsCommand (command_words (asked.Other (others.Release n))) d → d ≡ asked.Other (others.Release n)
release_one n small (asked.Other (others.Release key)) s =
    let i = s.is in
    let k : decimal key ≡ decimal n = cc in
    ap (λ (m : ℕ). asked.Other (others.Release m)) (decimal_injective key n s.fits small k)
release_one n small d s = absurd (other s.is refl)

pub release_reads : (n : ℕ) (rest : List ℕ) → n < 2 ^ 64 → BeginsWith Means (λ l. l ≡ lines.Asks (asked.Other (others.Release n))) (line_of (command_words (asked.Other (others.Release n))) ++ rest) rest
release_reads n rest small =
    asks_line said (λ l. l ≡ lines.Asks (asked.Other (others.Release n))) (asked.Other (others.Release n)) (codes "release") (decimal n ∷ []) rest refl tt small
    (clean_text (codes "release") refl, (clean_decimal n small, tt)) (λ d s. ap lines.Asks (release_one n small d s))
