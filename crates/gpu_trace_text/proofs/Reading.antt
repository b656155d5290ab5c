-- A line of words that a capture wrote is read as those words alone, in each sort of traces.
use Rattle.std.proofs.Common.{◌≡◌, refl, sym, ap, ◌∙◌, subst, Bool, true, false, ℕ, ◌<◌, ◌^◌, List, [], ◌∷◌, ◌++◌, Option, append-nil}
use Rattle.std.specs.Prelude.{codes}
use Rattle.std.specs.Fmt.{decimal}
use Rattle.std.proofs.lemmas.Fmt.{decimal_injective}
use Rattle.std.specs.Int.{IsInRange}
use Rattle.std.specs.Str.{IsAscii, bytes_eq}
use Rattle.std.proofs.lemmas.List.Elements.{All-nil}
use Rattle.gpu_capture.specs.declared.capture.CaptureEnd.{CaptureEnd}
use Rattle.gpu_capture.specs.declared.capture.CaptureEnd.TheVariants.{Whole, TooLong, HostOutOfMemory}
use Rattle.gpu_capture.specs.CaptureState.{last_line}
use Rattle.gpu_capture.specs.Line.{line_of}
use Rattle.gpu_capture.specs.declared.request.Request.{Request}
use Rattle.gpu_capture.specs.Requests.{alloc_line, move_line, request_words}
use Rattle.gpu_capture.specs.Words.{budget_word, alloc_words, budget_words, free_words, move_words}
use Rattle.gpu_capture.proofs.Lines.{AreClean, clean_decimal, joined, joined-printed, lines-first, words-joined}
use Rattle.gpu_block_session.specs.Line.{IsBlank, IsRemark}
use Rattle.gpu_block_session.specs.Run.{lines_of}
use Rattle.gpu_block_session.specs.Words.{words_of}
use Rattle.gpu_run.specs.declared.command.Command.{Command}
use Rattle.gpu_run.specs.declared.command.Command.TheVariants as asked
use Rattle.gpu_trace_text.specs.Captured.{BeginsWith, IsAlloc, IsMove, ReadsBack}
use Rattle.gpu_trace_text.specs.Command.{words, CommandFits, FitsBudget}
use Rattle.gpu_trace_text.specs.Dialect as dialect
use Rattle.gpu_trace_text.specs.Dialect.{new_words, destroy_words}
use Rattle.gpu_trace_text.specs.Spelled.{Spells}
use Rattle.gpu_trace_text.specs.declared.dialect.Line.{Line}
use Rattle.gpu_trace_text.specs.declared.dialect.Line.TheVariants as lines
use Rattle.gpu_trace_text.proofs.CapturedWords.{ascii, budget-one, clean_budget, clean_text, clean_words, other}

-- what a line's first word tells: that a capture's command of any API begins, one of one API alone, or a setting, that configuration or trace
-- end, that it is a remark or empty, the sort of traces, or none of these
pub data Kind : Type 0 where
  asks : Kind
  owns : Kind
  sets : Kind
  ends : Kind
  remarks : Kind
  sorts : Kind
  tells : Kind

abbrev pub choose : Bool → Kind → Kind → Kind
choose true a b = a
choose false a b = b

abbrev pub kind_of : List ℕ → Kind
kind_of w =
    choose (bytes_eq w (codes "alloc")) asks
    (choose (bytes_eq w (codes "move")) asks
    (choose (bytes_eq w (codes "free")) asks
    (choose (bytes_eq w (codes "budget")) asks
    (choose (bytes_eq w (codes "rename")) owns
    (choose (bytes_eq w (codes "commit")) owns
    (choose (bytes_eq w (codes "heap")) sets
    (choose (bytes_eq w (codes "type")) sets
    (choose (bytes_eq w (codes "granularity")) sets
    (choose (bytes_eq w (codes "sizes")) sets
    (choose (bytes_eq w (codes "refuse")) sets
    (choose (bytes_eq w (codes "sets")) sets
    (choose (bytes_eq w (codes "residency")) sets
    (choose (bytes_eq w (codes "tier")) sets
    (choose (bytes_eq w (codes "version")) sets
    (choose (bytes_eq w (codes "release")) owns
    (choose (bytes_eq w (codes "create")) owns
    (choose (bytes_eq w (codes "new")) ends
    (choose (bytes_eq w (codes "destroy")) ends
    (choose (bytes_eq w (codes "#")) remarks
    (choose (bytes_eq w (codes "")) remarks
    (choose (bytes_eq w (codes "metal")) sorts
    (choose (bytes_eq w (codes "d3d12")) sorts tells))))))))))))))))))))))

abbrev pub kinds : List (List ℕ) → Kind
kinds [] = tells
kinds (w ∷ ws) = kind_of w

-- what one API alone asks for
abbrev pub IsOwn : Kind → Type 0
IsOwn owns = Unit {0}
IsOwn tells = Unit {0}
IsOwn k = ⊥

-- what a command begins with
abbrev pub IsCommand : Kind → Type 0
IsCommand asks = Unit {0}
IsCommand k = IsOwn k

-- the same of one that a capture writes
abbrev pub IsWritten : Kind → Type 0
IsWritten asks = Unit {0}
IsWritten owns = Unit {0}
IsWritten k = ⊥

-- what a line begins with that isn't blank
abbrev pub IsLine : Kind → Type 0
IsLine remarks = ⊥
IsLine tells = ⊥
IsLine k = Unit {0}

hashed : (bs : List ℕ) → IsLine (kind_of (35 ∷ bs)) → ⊥
hashed [] k = k
hashed (b ∷ bs) k = k

no_remark : (v : List ℕ) (ws : List (List ℕ)) → IsLine (kind_of v) → IsRemark (joined (v ∷ ws)) → ⊥
no_remark [] ws k h = k
no_remark (b ∷ bs) [] k h = hashed bs (subst (λ c. IsLine (kind_of (c ∷ bs))) h k)
no_remark (b ∷ bs) (v ∷ ws) k h = hashed bs (subst (λ c. IsLine (kind_of (c ∷ bs))) h k)

written_line : (k : Kind) → IsWritten k → IsLine k
written_line asks h = tt
written_line owns h = tt
written_line k h = absurd h

-- the words behind `#` of what ends a capture early
abbrev too_long : List (List ℕ)
too_long =
    codes "the" ∷ codes "capture" ∷ codes "ends" ∷ codes "here:" ∷ codes "the" ∷ codes "next" ∷ codes "call" ∷ codes "would" ∷ codes "make" ∷ codes "the" ∷ codes "trace" ∷ codes "too"
    ∷ codes "long" ∷ []

abbrev no_memory : List (List ℕ)
no_memory = codes "the" ∷ codes "capture" ∷ codes "ends" ∷ codes "here:" ∷ codes "no" ∷ codes "host" ∷ codes "memory" ∷ codes "for" ∷ codes "the" ∷ codes "next" ∷ codes "call" ∷ []

-- the words of one sort of traces: of settings, of what is asked for an allocation, of what one API alone asks for, and of what is told beside
pub record Words (S R A O : Type 0) : Type 1 where
  pub setting : S → List (List ℕ)
  pub FitsSetting : S → Type 0
  pub request : R → List (List ℕ)
  pub FitsRequest : R → Type 0
  pub own : A → List (List ℕ)
  pub FitsOwn : A → Type 0
  pub look : O → List (List ℕ)
  pub FitsLook : O → Type 0
  pub setting_kind : (s : S) → kinds (setting s) ≡ sets
  pub own_kind : (a : A) → IsOwn (kinds (own a))
  pub look_kind : (o : O) → kinds (look o) ≡ tells
  pub setting_clean : (s : S) → FitsSetting s → AreClean (setting s)
  pub setting_one : (s t : S) → FitsSetting s → FitsSetting t → setting s ≡ setting t → t ≡ s

own_command : (k : Kind) → IsOwn k → IsCommand k
own_command owns h = tt
own_command tells h = tt
own_command k h = absurd h

module _ {S R A O : Type 0} (w : Words S R A O) where
  abbrev Asked : Type 0
  Asked = Command R A

  abbrev Said : Type 0
  Said = Line S (Command R A) O

  abbrev command : Command R A → List (List ℕ)
  command = words w.request w.own

  abbrev FitsCommand : Command R A → Type 0
  FitsCommand = CommandFits w.FitsRequest w.FitsOwn

  abbrev Reads : List (List ℕ) → Said → Type 0
  Reads = dialect.Reads (Spells w.setting w.FitsSetting) (Spells command FitsCommand) (Spells w.look w.FitsLook)

  abbrev pub Means : List ℕ → Said → Type 0
  Means = dialect.Means (Spells w.setting w.FitsSetting) (Spells command FitsCommand) (Spells w.look w.FitsLook)

  command_kind : (c : Asked) → IsCommand (kinds (command c))
  command_kind (asked.Other a) = own_command (kinds (w.own a)) (w.own_kind a)
  command_kind c = tt

  reads_words : (line : List ℕ) (ws : List (List ℕ)) → words_of line ≡ ws → IsAscii line → (IsRemark line → ⊥) → (l : Said) → Means line l → Reads ws l
  reads_words line ws is fine plain lines.Blank m = absurd (plain m.remark)
  reads_words line ws is fine plain lines.Bad m = subst (λ (vs : List (List ℕ)). Reads vs lines.Bad) is (m.says fine)
  reads_words line ws is fine plain l m = subst (λ (vs : List (List ℕ)). Reads vs l) is m.reads

  begins : (Is : Said → Type 0) (v : List ℕ) (ws : List (List ℕ)) (rest : List ℕ) → AreClean (v ∷ ws) → IsLine (kind_of v) → ((l : Said) → Reads (v ∷ ws) l → Is l)
      → BeginsWith Means Is (line_of (v ∷ ws) ++ rest) rest
  begins Is v ws rest clean k reads = record {
    line = joined (v ∷ ws);
    split = lines-first (v ∷ ws) rest clean;
    reads = λ l m.
        reads l (reads_words (joined (v ∷ ws)) (v ∷ ws) (words-joined v ws clean) (ascii (joined (v ∷ ws)) (joined-printed (v ∷ ws) clean)) (no_remark v ws k) l m);
  }

  -- a command's words are read as a command's of the same words
  asked_only : (c : Asked) (ws : List (List ℕ)) → ws ≡ command c → IsWritten (kinds ws) → FitsCommand c → (l : Said) → Reads ws l
      → (d : Asked) × (l ≡ lines.Asks d) × Spells command FitsCommand ws d
  asked_only c ws is k f lines.Blank r = absurd r
  asked_only c ws is k f (lines.Configures s) r = absurd (subst IsWritten (ap kinds r.is ∙ w.setting_kind s) k)
  asked_only c ws is k f (lines.Asks d) r = (d, refl, r.says)
  asked_only c ws is k f (lines.Other o) r = absurd (subst IsWritten (ap kinds r.is ∙ w.look_kind o) k)
  asked_only c ws is k f lines.Bad r = absurd (r.command c (record { is = is; fits = f }))
  asked_only c ws is k f l r = absurd (subst IsWritten (ap kinds r) k)

  -- a line of a command that a capture wrote
  pub asks_line : (Is : Said → Type 0) (c : Asked) (v : List ℕ) (ws : List (List ℕ)) (rest : List ℕ) → v ∷ ws ≡ command c → IsWritten (kind_of v) → FitsCommand c → AreClean (v ∷ ws)
      → ((d : Asked) → Spells command FitsCommand (v ∷ ws) d → Is (lines.Asks d)) → BeginsWith Means Is (line_of (v ∷ ws) ++ rest) rest
  asks_line Is c v ws rest is k f clean one =
      begins Is v ws rest clean (written_line (kind_of v) k) (λ l reads. let found = asked_only c (v ∷ ws) is k f l reads in subst Is (sym found.1) (one found.0 found.2))

  -- ---- commands of any API

  free_one : (n : ℕ) → n < 2 ^ 64 → (d : Asked) → Spells command FitsCommand (free_words n) d → d ≡ asked.Free n
  free_one n small (asked.Free key) s =
      let i = s.is in
      let k : decimal key ≡ decimal n = cc in
      ap asked.Free (decimal_injective key n s.fits small k)
  free_one n small (asked.Other a) s = absurd (subst IsOwn (sym (ap kinds s.is)) (w.own_kind a))
  free_one n small d s = absurd (other s.is refl)

  pub free_reads : (n : ℕ) (rest : List ℕ) → n < 2 ^ 64 → BeginsWith Means (λ l. l ≡ lines.Asks (asked.Free n)) (line_of (free_words n) ++ rest) rest
  free_reads n rest small =
      asks_line (λ l. l ≡ lines.Asks (asked.Free n)) (asked.Free n) (codes "free") (decimal n ∷ []) rest refl tt small
      (clean_text (codes "free") refl, (clean_decimal n small, tt)) (λ d s. ap lines.Asks (free_one n small d s))

  budget_one : (t : ℕ) (b : Option ℕ) → t < 2 ^ 64 → FitsBudget b → (d : Asked) → Spells command FitsCommand (budget_words t b) d → d ≡ asked.SetBudget t b
  budget_one t b small f (asked.SetBudget u c) s =
      let i = s.is in
      let k : decimal u ≡ decimal t = cc in
      let v : budget_word b ≡ budget_word c = cc in
      let same : u ≡ t = decimal_injective u t s.fits.0 small k in
      let also : c ≡ b = budget-one b c f s.fits.1 v in
      ap (λ (m : ℕ). asked.SetBudget m c) same ∙ ap (asked.SetBudget t) also
  budget_one t b small f (asked.Other a) s = absurd (subst IsOwn (sym (ap kinds s.is)) (w.own_kind a))
  budget_one t b small f d s = absurd (other s.is refl)

  pub budget_reads : (t : ℕ) (b : Option ℕ) (rest : List ℕ) → t < 2 ^ 64 → FitsBudget b
      → BeginsWith Means (λ l. l ≡ lines.Asks (asked.SetBudget t b)) (line_of (budget_words t b) ++ rest) rest
  budget_reads t b rest small f =
      asks_line (λ l. l ≡ lines.Asks (asked.SetBudget t b)) (asked.SetBudget t b) (codes "budget") (decimal t ∷ budget_word b ∷ []) rest refl tt (small, f)
      (clean_text (codes "budget") refl, (clean_decimal t small, (clean_budget b f, tt))) (λ d s. ap lines.Asks (budget_one t b small f d s))

  -- ---- the other lines

  setting_closes : (s : S) → w.FitsSetting s → (l : Said) → Reads (w.setting s) l → l ≡ lines.Configures s
  setting_closes s f lines.Blank r = absurd r
  setting_closes s f (lines.Configures t) r = ap lines.Configures (w.setting_one s t f r.fits r.is)
  setting_closes s f (lines.Asks c) r = absurd (subst IsCommand (ap kinds (sym r.says.is) ∙ w.setting_kind s) (command_kind c))
  setting_closes s f (lines.Other o) r = let e : sets ≡ tells = sym (w.setting_kind s) ∙ (ap kinds r.is ∙ w.look_kind o) in cc
  setting_closes s f lines.Bad r = absurd (r.setting s (record { is = refl; fits = f }))
  setting_closes s f l r = let e : sets ≡ ends = sym (w.setting_kind s) ∙ ap kinds r in cc

  sets_line : (s : S) (ws : List (List ℕ)) (rest : List ℕ) → w.setting s ≡ ws → w.FitsSetting s → AreClean ws → kinds ws ≡ sets
      → BeginsWith Means (λ l. l ≡ lines.Configures s) (line_of ws ++ rest) rest
  sets_line s [] rest is f clean k = absurd (let e : tells ≡ sets = k in cc)
  sets_line s (v ∷ ws) rest is f clean k =
      begins (λ l. l ≡ lines.Configures s) v ws rest clean (subst IsLine (sym k) tt) (λ l reads. setting_closes s f l (subst (λ (vs : List (List ℕ)). Reads vs l) (sym is) reads))

  -- a line of the configuration
  pub setting_reads : (s : S) (rest : List ℕ) → w.FitsSetting s → BeginsWith Means (λ l. l ≡ lines.Configures s) (line_of (w.setting s) ++ rest) rest
  setting_reads s rest f = sets_line s (w.setting s) rest refl f (w.setting_clean s f) (w.setting_kind s)

  new_closes : (l : Said) → Reads new_words l → l ≡ lines.New
  new_closes lines.Blank r = absurd r
  new_closes (lines.Configures s) r = let e : ends ≡ sets = ap kinds r.is ∙ w.setting_kind s in cc
  new_closes lines.New r = refl
  new_closes (lines.Asks c) r = absurd (subst IsCommand (ap kinds (sym r.says.is)) (command_kind c))
  new_closes (lines.Other o) r = let e : ends ≡ tells = ap kinds r.is ∙ w.look_kind o in cc
  new_closes lines.Destroy r = absurd (other r refl)
  new_closes lines.Bad r = absurd (r.new refl)

  destroy_closes : (l : Said) → Reads destroy_words l → l ≡ lines.Destroy
  destroy_closes lines.Blank r = absurd r
  destroy_closes (lines.Configures s) r = let e : ends ≡ sets = ap kinds r.is ∙ w.setting_kind s in cc
  destroy_closes lines.New r = absurd (other r refl)
  destroy_closes (lines.Asks c) r = absurd (subst IsCommand (ap kinds (sym r.says.is)) (command_kind c))
  destroy_closes (lines.Other o) r = let e : ends ≡ tells = ap kinds r.is ∙ w.look_kind o in cc
  destroy_closes lines.Destroy r = refl
  destroy_closes lines.Bad r = absurd (r.destroy refl)

  -- the line behind the configuration
  pub new_reads : (rest : List ℕ) → BeginsWith Means (λ l. l ≡ lines.New) (line_of new_words ++ rest) rest
  new_reads rest = begins (λ l. l ≡ lines.New) (codes "new") [] rest (clean_text (codes "new") refl, tt) tt new_closes

  -- the last line
  pub destroy_reads : (rest : List ℕ) → BeginsWith Means (λ l. l ≡ lines.Destroy) (line_of destroy_words ++ rest) rest
  destroy_reads rest = begins (λ l. l ≡ lines.Destroy) (codes "destroy") [] rest (clean_text (codes "destroy") refl, tt) tt destroy_closes

  -- ---- a remark
  blank_closes : (line : List ℕ) → kinds (words_of line) ≡ remarks → IsBlank line → (l : Said) → Means line l → l ≡ lines.Blank
  blank_closes line is blank lines.Blank m = refl
  blank_closes line is blank lines.Bad m = absurd (m.gives blank)
  blank_closes line is blank (lines.Configures s) m = let e : remarks ≡ sets = sym is ∙ (ap kinds m.reads.is ∙ w.setting_kind s) in cc
  blank_closes line is blank (lines.Asks c) m = absurd (subst IsCommand (ap kinds (sym m.reads.says.is) ∙ is) (command_kind c))
  blank_closes line is blank (lines.Other o) m = let e : remarks ≡ tells = sym is ∙ (ap kinds m.reads.is ∙ w.look_kind o) in cc
  blank_closes line is blank lines.New m = let e : remarks ≡ ends = sym is ∙ ap kinds m.reads in cc
  blank_closes line is blank lines.Destroy m = let e : remarks ≡ ends = sym is ∙ ap kinds m.reads in cc

  -- an empty line
  pub empty_line : (l : Said) → Means [] l → l ≡ lines.Blank
  empty_line l m = blank_closes [] refl (record { ascii = ascii [] (All-nil (IsInRange 32 126)); remark = tt }) l m

  -- the line that tells the sort of traces says nothing in another sort
  pub sort_line : (line : List ℕ) → kinds (words_of line) ≡ sorts → (IsRemark line → ⊥) → Means line lines.Bad
  sort_line line is plain = record {
    gives = λ blank. plain blank.remark;
    says = λ a. record {
      setting = λ s r. let e : sorts ≡ sets = sym is ∙ (ap kinds r.is ∙ w.setting_kind s) in cc;
      command = λ c r. subst IsCommand (ap kinds (sym r.is) ∙ is) (command_kind c);
      other = λ o r. let e : sorts ≡ tells = sym is ∙ (ap kinds r.is ∙ w.look_kind o) in cc;
      new = λ r. let e : sorts ≡ ends = sym is ∙ ap kinds r in cc;
      destroy = λ r. let e : sorts ≡ ends = sym is ∙ ap kinds r in cc;
    };
  }

  begins_remark : (ws : List (List ℕ)) → IsRemark (joined (codes "#" ∷ ws))
  begins_remark [] = refl
  begins_remark (v ∷ ws) = refl

  remark_line : (ws : List (List ℕ)) → AreClean (codes "#" ∷ ws) → BeginsWith Means (λ l. l ≡ lines.Blank) (line_of (codes "#" ∷ ws)) []
  remark_line ws clean =
      let line = joined (codes "#" ∷ ws) in
      let blank : IsBlank line = record { ascii = ascii line (joined-printed (codes "#" ∷ ws) clean); remark = begins_remark ws } in record {
        line = line;
        split = ap lines_of (sym (append-nil (line_of (codes "#" ∷ ws)))) ∙ lines-first (codes "#" ∷ ws) [] clean;
        reads = λ l m. blank_closes line (ap kinds (words-joined (codes "#") ws clean)) blank l m;
      }

  -- what ends a capture early
  pub ended_reads : (e : CaptureEnd) → (e ≡ Whole → ⊥) → (is_destroyed : Bool) → BeginsWith Means (λ l. l ≡ lines.Blank) (last_line e is_destroyed) []
  ended_reads Whole early is_destroyed = absurd (early refl)
  ended_reads TooLong early is_destroyed = remark_line too_long (clean_words (codes "#" ∷ too_long) refl)
  ended_reads HostOutOfMemory early is_destroyed = remark_line no_memory (clean_words (codes "#" ∷ no_memory) refl)

-- what the requests of captures are read as
pub record Captures {S R A O : Type 0} (w : Words S R A O) {Q : Type 0} (request : Q → Request) (Fits : Q → Type 0) (Is : Q → R → Type 0) : Type 0 where
  pub asked_for : Q → R
  pub fits : (q : Q) → Fits q → w.FitsRequest (asked_for q)
  pub spelled : (q : Q) → request_words (request q) ≡ w.request (asked_for q)
  pub clean : (q : Q) → Fits q → AreClean (request_words (request q))
  pub same : (q : Q) (r : R) → Fits q → w.FitsRequest r → request_words (request q) ≡ w.request r → Is q r

module _ {S R A O : Type 0} (w : Words S R A O) {Q : Type 0} (request : Q → Request) (Fits : Q → Type 0) (Is : Q → R → Type 0) (c : Captures w request Fits Is) where
  alloc_one : (n : ℕ) (q : Q) → n < 2 ^ 64 → Fits q → (d : Command R A) → Spells (words w.request w.own) (CommandFits w.FitsRequest w.FitsOwn) (alloc_words n (request_words (request q))) d
      → IsAlloc {S = S} {O = O} n (Is q) (lines.Asks d)
  alloc_one n q small f (asked.Alloc key r) s =
      let i = s.is in
      let k : decimal key ≡ decimal n = cc in
      let e : request_words (request q) ≡ w.request r = cc in
      (decimal_injective key n s.fits.0 small k, c.same q r f s.fits.1 e)
  alloc_one n q small f (asked.Other a) s = absurd (subst IsOwn (sym (ap kinds s.is)) (w.own_kind a))
  alloc_one n q small f d s = absurd (other s.is refl)

  alloc_reads : (n : ℕ) (q : Q) (rest : List ℕ) → n < 2 ^ 64 → Fits q → BeginsWith (Means w) (IsAlloc n (Is q)) (alloc_line n (request q) ++ rest) rest
  alloc_reads n q rest small f =
      asks_line w (IsAlloc n (Is q)) (asked.Alloc n (c.asked_for q)) (codes "alloc") (decimal n ∷ request_words (request q)) rest (ap (alloc_words n) (c.spelled q)) tt (small, c.fits q f)
      (clean_text (codes "alloc") refl, (clean_decimal n small, c.clean q f)) (alloc_one n q small f)

  move_one : (n m : ℕ) (q : Q) → n < 2 ^ 64 → m < 2 ^ 64 → Fits q → (d : Command R A)
      → Spells (words w.request w.own) (CommandFits w.FitsRequest w.FitsOwn) (move_words n m (request_words (request q))) d → IsMove {S = S} {O = O} n m (Is q) (lines.Asks d)
  move_one n m q small also f (asked.Move key to r) s =
      let i = s.is in
      let k : decimal key ≡ decimal n = cc in
      let t : decimal to ≡ decimal m = cc in
      let e : request_words (request q) ≡ w.request r = cc in
      (decimal_injective key n s.fits.0 small k, decimal_injective to m s.fits.1 also t, c.same q r f s.fits.2 e)
  move_one n m q small also f (asked.Other a) s = absurd (subst IsOwn (sym (ap kinds s.is)) (w.own_kind a))
  move_one n m q small also f d s = absurd (other s.is refl)

  move_reads : (n m : ℕ) (q : Q) (rest : List ℕ) → n < 2 ^ 64 → m < 2 ^ 64 → Fits q → BeginsWith (Means w) (IsMove n m (Is q)) (move_line n m (request q) ++ rest) rest
  move_reads n m q rest small also f =
      asks_line w (IsMove n m (Is q)) (asked.Move n m (c.asked_for q)) (codes "move") (decimal n ∷ decimal m ∷ request_words (request q)) rest (ap (move_words n m) (c.spelled q)) tt (small, also, c.fits q f)
      (clean_text (codes "move") refl, (clean_decimal n small, (clean_decimal m also, c.clean q f))) (move_one n m q small also f)

  pub read_back : ReadsBack (Means w) w.setting w.FitsSetting request Fits Is
  read_back = record {
    allocation = alloc_reads;
    second_place = move_reads;
    free = free_reads w;
    budget = budget_reads w;
    configures = setting_reads w;
    new = new_reads w;
    destroy = destroy_reads w;
  }
