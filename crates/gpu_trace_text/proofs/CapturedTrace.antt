-- A trace that a capture wrote reads back, in each sort of traces.
use Rattle.std.proofs.Common.{◌≡◌, refl, sym, ap, ◌∙◌, subst, ℕ, ◌+◌, ◌<◌, ◌^◌, List, [], ◌∷◌, ◌++◌, length, map, append_assoc, append-nil, length-append, Bool, true, false, arith}
use Rattle.std.specs.List.{flat_map, All}
use Rattle.std.proofs.lemmas.List.{get_or_append_left}
use Rattle.std.proofs.lemmas.List.Concat.{flat_map-append}
use Rattle.std.proofs.lemmas.List.Elements.{All-nil, All-cons, All-head, All-tail, All-append}
use Rattle.gpu_capture.specs.declared.answer.Answer.{Answer}
use Rattle.gpu_capture.specs.declared.answer.Answer.TheVariants.{Granted, Refused}
use Rattle.gpu_capture.specs.declared.capture.CaptureEnd.{CaptureEnd}
use Rattle.gpu_capture.specs.declared.capture.CaptureEnd.TheVariants.{Whole}
use Rattle.gpu_capture.specs.Answers.{answer_lines}
use Rattle.gpu_capture.specs.CaptureState.{CaptureState, HasRoom, new_line, last_line, text}
use Rattle.gpu_capture.specs.History.{Call, Kept, RefusedQuestion, call_line, answers_of, refused_in}
use Rattle.gpu_capture.specs.Keeps.{Keeps, blank, with_lines}
use Rattle.gpu_capture.specs.Line.{line_of}
use Rattle.gpu_capture.specs.Words.{refuse_words}
use Rattle.gpu_capture.proofs.Lines.{IsClean, lines-first}
use Rattle.gpu_block_session.specs.Run.{lines_of}
use Rattle.gpu_capture.proofs.Histories.{Tells, history, kept_whole, was_whole}
use Rattle.gpu_run.specs.declared.command.Command.{Command}
use Rattle.gpu_trace_text.specs.Captured.{BeginsWith}
use Rattle.gpu_trace_text.specs.CapturedTrace.{Part, Sets, Makes, Calls, Ends, Remarks, last_part, parts_of, FitsAnswer, IsOfSort, IsPart, ReadsAs, ReadsUpTo}
use Rattle.gpu_trace_text.specs.Dialect.{new_words, destroy_words}
use Rattle.gpu_trace_text.specs.Setting.{FitsRefusal}
use Rattle.gpu_trace_text.specs.declared.dialect.Line.{Line}
use Rattle.gpu_trace_text.proofs.Reading.{Words, Means, setting_reads, new_reads, destroy_reads, ended_reads}

-- behind a device's lines stands `new`
new_behind : (device : List ℕ) → 0 < length device → new_line device ≡ line_of new_words
new_behind [] some = absurd (omega arith)
new_behind (b ∷ bs) some = refl

-- a list that isn't empty has a first
one_behind : {A : Type 0} (xs : List A) → (xs ≡ [] → ⊥) → (x : A) × (rest : List A) × (xs ≡ x ∷ rest)
one_behind [] some = absurd (some refl)
one_behind (x ∷ rest) some = (x, rest, refl)

-- what holds of all holds of those in front
front_all : {A : Type 0} (P : A → Type 0) (xs ys : List A) → All P (xs ++ ys) → All P xs
front_all P xs ys h k d lt = subst P (get_or_append_left xs ys d k lt) (h k d (omega (arith, lt, length-append xs ys)))

-- what a sort of traces reads of calls
pub record Reader {S R A O : Type 0} (w : Words S R A O) (IsCall : Call → Line S (Command R A) O → Type 0) : Type 1 where
  pub FitsCall : Call → Type 0
  pub refuse : RefusedQuestion → S
  pub refuse_words_are : (q : RefusedQuestion) → w.setting (refuse q) ≡ refuse_words q.question q.refusal
  pub refuse_fits : (q : RefusedQuestion) → 0 < q.question → q.question < 2 ^ 64 → FitsRefusal q.refusal → w.FitsSetting (refuse q)
  pub answers_fit : (c : Call) → FitsCall c → All FitsAnswer (answers_of c)
  pub call_reads : (c : Call) (rest : List ℕ) → FitsCall c → BeginsWith (Means w) (IsCall c) (call_line c ++ rest) rest

module _ {S R A O : Type 0} (w : Words S R A O) (IsCall : Call → Line S (Command R A) O → Type 0) (r : Reader w IsCall) where
  abbrev Reads : List (Part S) → (text : List ℕ) → Type 0
  Reads = ReadsAs (Means w) IsCall

  abbrev pub setting_line : S → List ℕ
  setting_line s = line_of (w.setting s)

  -- ---- line after line

  whole_ends : (is_destroyed : Bool) → Reads (last_part is_destroyed) (last_line Whole is_destroyed)
  whole_ends false = refl
  whole_ends true = ([], subst (λ (t : List ℕ). BeginsWith (Means w) (IsPart (Means w) IsCall Ends) t []) (append-nil (line_of destroy_words)) (destroy_reads w []), refl)

  early_ends : (e : CaptureEnd) → (e ≡ Whole → ⊥) → (is_destroyed : Bool) → Reads (Remarks ∷ []) (last_line e is_destroyed)
  early_ends e early is_destroyed = ([], ended_reads w e early is_destroyed, refl)

  calls_read : (cs : List Call) (last : List (Part S)) (end : List ℕ) → All r.FitsCall cs → Reads last end
      → Reads (map Calls cs ++ last) (flat_map call_line cs ++ end)
  calls_read [] last end f reads = reads
  calls_read (c ∷ cs) last end f reads =
      let rest = flat_map call_line cs ++ end in (
        rest,
        subst (λ (t : List ℕ). BeginsWith (Means w) (IsPart (Means w) IsCall (Calls c)) t rest) (sym (append_assoc (call_line c) (flat_map call_line cs) end))
            (r.call_reads c rest (All-head r.FitsCall c cs f)),
        calls_read cs last end (All-tail r.FitsCall c cs f) reads,
      )

  settings_read : (ss : List S) (ps : List (Part S)) (rest : List ℕ) → All w.FitsSetting ss → Reads ps rest
      → Reads (map Sets ss ++ ps) (flat_map setting_line ss ++ rest)
  settings_read [] ps rest f reads = reads
  settings_read (s ∷ ss) ps rest f reads =
      let behind = flat_map setting_line ss ++ rest in (
        behind,
        subst (λ (t : List ℕ). BeginsWith (Means w) (IsPart (Means w) IsCall (Sets s)) t behind) (sym (append_assoc (setting_line s) (flat_map setting_line ss) rest))
            (setting_reads w s behind (All-head w.FitsSetting s ss f)),
        settings_read ss ps rest (All-tail w.FitsSetting s ss f) reads,
      )

  -- ---- the questions that were refused

  abbrev refusals : ℕ → List Answer → List S
  refusals before answers = map r.refuse (refused_in before answers)

  refusals_written : (before : ℕ) (answers : List Answer) → answer_lines before answers ≡ flat_map setting_line (refusals before answers)
  refusals_written before [] = refl
  refusals_written before (Granted ∷ rest) = refusals_written (before + 1) rest
  refusals_written before (Refused refusal ∷ rest) =
      ap (λ (ls : List ℕ). line_of (refuse_words (before + 1) refusal) ++ ls) (refusals_written (before + 1) rest)
      ∙ ap (λ (ws : List (List ℕ)). line_of ws ++ flat_map setting_line (refusals (before + 1) rest)) (sym (r.refuse_words_are (record { question = before + 1; refusal = refusal })))

  refusals_fit : (before : ℕ) (answers : List Answer) → All FitsAnswer answers → before + length answers < 2 ^ 64 → All w.FitsSetting (refusals before answers)
  refusals_fit before [] f few = All-nil w.FitsSetting
  refusals_fit before (Granted ∷ rest) f few = refusals_fit (before + 1) rest (All-tail FitsAnswer Granted rest f) (omega arith)
  refusals_fit before (Refused refusal ∷ rest) f few =
      All-cons w.FitsSetting (r.refuse (record { question = before + 1; refusal = refusal })) (refusals (before + 1) rest)
      (r.refuse_fits (record { question = before + 1; refusal = refusal }) (omega arith) (omega arith) (All-head FitsAnswer (Refused refusal) rest f))
      (refusals_fit (before + 1) rest (All-tail FitsAnswer (Refused refusal) rest f) (omega arith))

  answers_all_fit : (cs : List Call) → All r.FitsCall cs → All FitsAnswer (flat_map answers_of cs)
  answers_all_fit [] f = All-nil FitsAnswer
  answers_all_fit (c ∷ cs) f =
      All-append FitsAnswer (answers_of c) (flat_map answers_of cs) (r.answers_fit c (All-head r.FitsCall c cs f)) (answers_all_fit cs (All-tail r.FitsCall c cs f))

  -- ---- the whole

  -- what a capture wrote behind the first lines of its device is read as its settings and the calls that it has
  told_trace : (first : List ℕ) (settings : List S) (questions : ℕ) (cs : List Call) (is_destroyed : Bool) (begun done : CaptureState) (last : List (Part S))
      → Keeps blank (with_lines blank (first ++ flat_map setting_line settings) [] questions) begun → begun.end ≡ Whole → (told : Tells cs begun done)
      → 0 < length (first ++ flat_map setting_line settings) → All w.FitsSetting settings → All r.FitsCall told.calls
      → Reads last (last_line done.end is_destroyed)
      → (rest : List ℕ) × (text done is_destroyed ≡ first ++ rest) × Reads (parts_of r.refuse settings questions told.calls last) rest
  told_trace first settings questions cs is_destroyed begun done last begins was told some fit calls_fit last_reads =
      let start = kept_whole blank (with_lines blank (first ++ flat_map setting_line settings) [] questions) begun begins was in
      let answers = flat_map answers_of told.calls in
      let asked : begun.questions ≡ questions = ap (λ (s : CaptureState). s.questions) start.2 ∙ omega arith in
      let room = told.room (subst HasRoom (sym start.2) start.1) in
      let few : questions + length answers < 2 ^ 64 = omega (arith, room.count, told.adds.questions_are, asked) in
      let refused = refusals questions answers in
      let refused_fit = refusals_fit questions answers (answers_all_fit told.calls calls_fit) few in
      let all = settings ++ refused in
      let device : done.device ≡ first ++ flat_map setting_line all =
      told.adds.device_is
      ∙ ap (λ (d : List ℕ). d ++ answer_lines begun.questions answers) (ap (λ (s : CaptureState). s.device) start.2)
      ∙ ap (λ (n : ℕ). (first ++ flat_map setting_line settings) ++ answer_lines n answers) asked
      ∙ ap (λ (d : List ℕ). (first ++ flat_map setting_line settings) ++ d) (refusals_written questions answers)
      ∙ append_assoc first (flat_map setting_line settings) (flat_map setting_line refused)
      ∙ ap (λ (d : List ℕ). first ++ d) (sym (flat_map-append setting_line settings refused)) in
      let calls : done.calls ≡ flat_map call_line told.calls =
      told.adds.calls_are ∙ ap (λ (d : List ℕ). d ++ flat_map call_line told.calls) (ap (λ (s : CaptureState). s.calls) start.2) in
      let long : 0 < length done.device =
      omega (
        arith,
        some,
        ap length device,
        length-append first (flat_map setting_line all),
        length-append first (flat_map setting_line settings),
        ap length (flat_map-append setting_line settings refused),
        length-append (flat_map setting_line settings) (flat_map setting_line refused),
      ) in
      let end = last_line done.end is_destroyed in
      let behind = flat_map call_line told.calls ++ end in
      let rest = flat_map setting_line all ++ (line_of new_words ++ behind) in (
        rest,
        ap (λ (n : List ℕ). done.device ++ (n ++ (done.calls ++ end))) (new_behind done.device long)
            ∙ ap (λ (d : List ℕ). done.device ++ (line_of new_words ++ (d ++ end))) calls
            ∙ ap (λ (d : List ℕ). d ++ (line_of new_words ++ behind)) device
            ∙ append_assoc first (flat_map setting_line all) (line_of new_words ++ behind),
        settings_read all (Makes ∷ (map Calls told.calls ++ last)) (line_of new_words ++ behind) (All-append w.FitsSetting settings refused fit refused_fit)
            (behind, new_reads w behind, calls_read told.calls last end calls_fit last_reads),
      )

  -- that of a whole capture has all calls
  pub whole_trace : (first : List ℕ) (settings : List S) (questions : ℕ) (cs : List Call) (is_destroyed : Bool) (begun done : CaptureState)
      → Keeps blank (with_lines blank (first ++ flat_map setting_line settings) [] questions) begun → Kept cs begun done → done.end ≡ Whole
      → 0 < length (first ++ flat_map setting_line settings) → All w.FitsSetting settings → All r.FitsCall cs
      → (rest : List ℕ) × (text done is_destroyed ≡ first ++ rest) × Reads (parts_of r.refuse settings questions cs (last_part is_destroyed)) rest
  whole_trace first settings questions cs is_destroyed begun done begins kept whole some fit calls_fit =
      let was = was_whole cs begun done kept whole in
      let told = history cs begun done kept was in
      let all : told.calls ≡ cs = sym (told.split ∙ ap (λ (xs : List Call). told.calls ++ xs) (told.whole.0 whole) ∙ append-nil told.calls) in
      let w =
      told_trace first settings questions cs is_destroyed begun done (last_part is_destroyed) begins was told some fit (subst (All r.FitsCall) (sym all) calls_fit)
      (subst (λ (e : CaptureEnd). Reads (last_part is_destroyed) (last_line e is_destroyed)) (sym whole) (whole_ends is_destroyed)) in (
        w.0,
        w.1,
        subst (λ (xs : List Call). Reads (parts_of r.refuse settings questions xs (last_part is_destroyed)) w.0) all w.2,
      )

  -- that of a capture which ended early has the calls up to its end
  pub ended_trace : (first : List ℕ) (settings : List S) (questions : ℕ) (cs : List Call) (is_destroyed : Bool) (begun done : CaptureState)
      → Keeps blank (with_lines blank (first ++ flat_map setting_line settings) [] questions) begun → begun.end ≡ Whole → Kept cs begun done → (done.end ≡ Whole → ⊥)
      → 0 < length (first ++ flat_map setting_line settings) → All w.FitsSetting settings → All r.FitsCall cs
      → (rest : List ℕ) × (text done is_destroyed ≡ first ++ rest) × ReadsUpTo (Means w) IsCall (λ written. parts_of r.refuse settings questions written (Remarks ∷ [])) cs rest
  ended_trace first settings questions cs is_destroyed begun done begins was kept early some fit calls_fit =
      let told = history cs begun done kept was in
      let w =
      told_trace first settings questions cs is_destroyed begun done (Remarks ∷ []) begins was told some fit
      (front_all r.FitsCall told.calls told.left (subst (All r.FitsCall) told.split calls_fit)) (early_ends done.end early is_destroyed) in
      let behind = one_behind told.left (λ none. early (told.whole.1 none)) in (
        w.0,
        w.1,
        record {
          written = told.calls;
          next = behind.0;
          left = behind.1;
          split = told.split ∙ ap (λ (xs : List Call). told.calls ++ xs) behind.2;
          reads = w.2;
        },
      )

  -- the same behind a line that tells the sort of traces
  long : (word : List ℕ) (settings : List S) → 0 < length (line_of (word ∷ []) ++ flat_map setting_line settings)
  long word settings = omega (arith, length-append (line_of (word ∷ [])) (flat_map setting_line settings), length-append word (10 ∷ []))

  pub whole_of_sort : (word device : List ℕ) (settings : List S) (questions : ℕ) (cs : List Call) (is_destroyed : Bool) (begun done : CaptureState) → IsClean word
      → device ≡ line_of (word ∷ []) ++ flat_map setting_line settings → Keeps blank (with_lines blank device [] questions) begun → Kept cs begun done → done.end ≡ Whole
      → All w.FitsSetting settings → All r.FitsCall cs → IsOfSort word (Reads (parts_of r.refuse settings questions cs (last_part is_destroyed))) (text done is_destroyed)
  whole_of_sort word device settings questions cs is_destroyed begun done clean is begins kept whole fit calls_fit =
      let found =
      whole_trace (line_of (word ∷ [])) settings questions cs is_destroyed begun done (subst (λ (ls : List ℕ). Keeps blank (with_lines blank ls [] questions) begun) is begins) kept whole
      (long word settings) fit calls_fit in
      record { rest = found.0; split = ap lines_of found.1 ∙ lines-first (word ∷ []) found.0 (clean, tt); reads = found.2 }

  pub ended_of_sort : (word device : List ℕ) (settings : List S) (questions : ℕ) (cs : List Call) (is_destroyed : Bool) (begun done : CaptureState) → IsClean word
      → device ≡ line_of (word ∷ []) ++ flat_map setting_line settings → Keeps blank (with_lines blank device [] questions) begun → begun.end ≡ Whole → Kept cs begun done
      → (done.end ≡ Whole → ⊥) → All w.FitsSetting settings → All r.FitsCall cs
      → IsOfSort word (ReadsUpTo (Means w) IsCall (λ written. parts_of r.refuse settings questions written (Remarks ∷ [])) cs) (text done is_destroyed)
  ended_of_sort word device settings questions cs is_destroyed begun done clean is begins was kept early fit calls_fit =
      let found =
      ended_trace (line_of (word ∷ [])) settings questions cs is_destroyed begun done (subst (λ (ls : List ℕ). Keeps blank (with_lines blank ls [] questions) begun) is begins) was kept early
      (long word settings) fit calls_fit in
      record { rest = found.0; split = ap lines_of found.1 ∙ lines-first (word ∷ []) found.0 (clean, tt); reads = found.2 }
