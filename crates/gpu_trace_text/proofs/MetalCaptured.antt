-- What a capture wrote of Metal reads back.
use Rattle.std.proofs.Common.{◌≡◌, refl, sym, ap, subst, Bool, true, false, ℕ, List, [], ◌∷◌, ◌++◌}
use Rattle.std.specs.Prelude.{codes}
use Rattle.std.specs.Fmt.{decimal}
use Rattle.std.specs.declared.alloc.Global.{Global}
use Rattle.std.proofs.lemmas.Fmt.{decimal_injective}
use Rattle.gpu_capture.specs.declared.request.MetalRequest.{MetalRequest}
use Rattle.gpu_capture.specs.declared.request.Request.TheVariants as requests
use Rattle.gpu_capture.specs.Metal.{metal_words}
use Rattle.gpu_capture.specs.Line.{line_of, name_word}
use Rattle.gpu_capture.specs.Words.{location_word}
use Rattle.gpu_capture.proofs.Lines.{IsClean, AreClean, clean_decimal, clean_name}
use Rattle.gpu_run.specs.declared.metal.command.Request.{Request}
use Rattle.gpu_run.specs.MetalCommand.{Command}
use Rattle.gpu_run.specs.declared.command.Command.TheVariants as asked
use Rattle.gpu_run.specs.declared.metal.command.Other.{Other}
use Rattle.gpu_run.specs.declared.metal.command.Other.TheVariants as others
use Rattle.gpu_block_session.specs.Words.{IsName}
use Rattle.gpu_trace_text.specs.MetalCommand as command
use Rattle.gpu_trace_text.specs.Command.{words, CommandFits}
use Rattle.gpu_trace_text.specs.Spelled.{Spells}
use Rattle.gpu_trace_text.specs.MetalSetting as setting
use Rattle.gpu_trace_text.specs.MetalLine.{Means, look_words, LookFits}
use Rattle.gpu_trace_text.specs.Captured.{BeginsWith, ReadsBack}
use Rattle.gpu_trace_text.specs.MetalCaptured.{FitsCaptured, IsRequest}
use Rattle.gpu_trace_text.specs.declared.device.setting.Setting.TheVariants as shared
use Rattle.gpu_trace_text.specs.declared.metal.setting.Setting.{Setting}
use Rattle.gpu_trace_text.specs.declared.metal.setting.Setting.TheVariants as settings
use Rattle.gpu_trace_text.specs.declared.dialect.Line.TheVariants as lines
use Rattle.gpu_trace_text.proofs.CapturedWords.{clean_text, clean_location, location-one, is_name, text_of, other}
use Rattle.gpu_trace_text.proofs.Captured.{setting_clean, setting_one, shared_kind}
use Rattle.gpu_trace_text.proofs.Reading.{Words, IsOwn, kinds, sets, tells, asks_line, read_back}
use Rattle.gpu_trace_text.specs.declared.metal.line.Look.{Look}
use Rattle.gpu_trace_text.specs.declared.metal.line.Look.TheVariants.{Members}
use Rattle.gpu_capture.specs.Metal.{yes_word}
use Rattle.gpu_block_session.proofs.Canonical.{differ}

-- ---- words

pub own_kind : (o : Other) → IsOwn (kinds (command.words o))
own_kind (others.Buffer key length location name) = tt
own_kind o = tt

pub setting_kind : (s : Setting) → kinds (setting.words s) ≡ sets
setting_kind (settings.Sets b) = refl
setting_kind (settings.Residency b) = refl
setting_kind (settings.Shared s) = shared_kind s

pub look_kind : (l : Look) → kinds (look_words l) ≡ tells
look_kind Members = refl
look_kind l = refl

yes-one : (a b : Bool) → yes_word a ≡ yes_word b → b ≡ a
yes-one true true e = refl
yes-one false false e = refl
yes-one a b e = absurd (differ (yes_word a) (yes_word b) false refl refl e)

pub own_setting_one : (s t : Setting) → setting.SettingFits s → setting.SettingFits t → setting.words s ≡ setting.words t → t ≡ s
own_setting_one (settings.Sets a) (settings.Sets b) f g e = let k : yes_word a ≡ yes_word b = cc in ap settings.Sets (yes-one a b k)
own_setting_one (settings.Residency a) (settings.Residency b) f g e = let k : yes_word a ≡ yes_word b = cc in ap settings.Residency (yes-one a b k)
own_setting_one (settings.Shared a) (settings.Shared b) f g e = ap settings.Shared (setting_one a b f.1 g.1 e)
own_setting_one (settings.Sets a) (settings.Shared (shared.Heap size)) f g e = absurd (other e refl)
own_setting_one (settings.Residency a) (settings.Shared (shared.Heap size)) f g e = absurd (other e refl)
own_setting_one (settings.Shared (shared.Heap size)) (settings.Sets b) f g e = absurd (other e refl)
own_setting_one (settings.Shared (shared.Heap size)) (settings.Residency b) f g e = absurd (other e refl)
own_setting_one s t f g e = absurd (other e refl)

clean_yes : (b : Bool) → IsClean (yes_word b)
clean_yes true = clean_text (codes "yes") refl
clean_yes false = clean_text (codes "no") refl

pub own_setting_clean : (s : Setting) → setting.SettingFits s → AreClean (setting.words s)
own_setting_clean (settings.Sets b) f = (clean_text (codes "sets") refl, (clean_yes b, tt))
own_setting_clean (settings.Residency b) f = (clean_text (codes "residency") refl, (clean_yes b, tt))
own_setting_clean (settings.Shared s) f = setting_clean s f.1

abbrev pub said : Words Setting Request Other Look
said = record {
  setting = setting.words;
  FitsSetting = setting.SettingFits;
  request = command.request_words;
  FitsRequest = command.FitsRequest;
  own = command.words;
  FitsOwn = command.OtherFits;
  look = look_words;
  FitsLook = LookFits;
  setting_kind = setting_kind;
  own_kind = own_kind;
  look_kind = look_kind;
  setting_clean = own_setting_clean;
  setting_one = own_setting_one;
}

abbrev pub command_words : Command → List (List ℕ)
command_words = words command.request_words command.words

abbrev pub FitsCommand : Command → Type 0
FitsCommand = CommandFits command.FitsRequest command.OtherFits

-- ---- requests

abbrev request_words : MetalRequest → List (List ℕ)
request_words r = metal_words r.size r.alignment r.location (name_word r.name.now)

clean_request : (r : MetalRequest) → FitsCaptured r → AreClean (request_words r)
clean_request r f = (clean_decimal r.size f.size_fits, (clean_decimal r.alignment f.alignment_fits, (clean_location r.location, (clean_name r.name.now, tt))))

abbrev request_of : Global → MetalRequest → Request
request_of g r = record { size = r.size; alignment = r.alignment; location = r.location; name = (text_of g r.name.now).0 }

fits_request : (g : Global) (r : MetalRequest) → FitsCaptured r → command.FitsRequest (request_of g r)
fits_request g r f = record {
  size_fits = f.size_fits;
  alignment_fits = f.alignment_fits;
  name_fits = subst IsName (sym (text_of g r.name.now).1) (is_name r.name.now);
}

spelled : (g : Global) (r : MetalRequest) → request_words r ≡ command.request_words (request_of g r)
spelled g r = ap (metal_words r.size r.alignment r.location) (sym (text_of g r.name.now).1)

same_request : (r : MetalRequest) (q : Request) → FitsCaptured r → command.FitsRequest q → request_words r ≡ command.request_words q → IsRequest r q
same_request r q f h e =
    let size : decimal q.size ≡ decimal r.size = cc in
    let alignment : decimal q.alignment ≡ decimal r.alignment = cc in
    let location : location_word r.location ≡ location_word q.location = cc in
    record {
      size = decimal_injective q.size r.size h.size_fits f.size_fits size;
      alignment = decimal_injective q.alignment r.alignment h.alignment_fits f.alignment_fits alignment;
      location = location-one r.location q.location location;
      name = cc;
    }

pub reads_back : Global → ReadsBack Means setting.words setting.SettingFits requests.Metal FitsCaptured IsRequest
reads_back g =
    read_back said requests.Metal FitsCaptured IsRequest
    (record { asked_for = request_of g; fits = fits_request g; spelled = spelled g; clean = clean_request; same = same_request })

-- ---- commands of this API alone

commit_one : (d : Command) → Spells command_words FitsCommand (command_words (asked.Other others.Commit)) d → d ≡ (asked.Other others.Commit)
commit_one (asked.Other others.Commit) s = refl
commit_one d s = absurd (other s.is refl)

pub commit_reads : (rest : List ℕ) → BeginsWith Means (λ l. l ≡ lines.Asks (asked.Other others.Commit)) (line_of (codes "commit" ∷ []) ++ rest) rest
commit_reads rest =
    asks_line said (λ l. l ≡ lines.Asks (asked.Other others.Commit)) (asked.Other others.Commit) (codes "commit") [] rest refl tt tt
    (clean_text (codes "commit") refl, tt) (λ d s. ap lines.Asks (commit_one d s))
