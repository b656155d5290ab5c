-- A run of a trace that a capture wrote serves just its parts.
use Rattle.std.proofs.Common.{◌≡◌, refl, ap, ◌∙◌, subst, ℕ, List, [], ◌∷◌, ◌++◌, map, append-nil, Option, None}
use Rattle.std.specs.List.{flat_map}
use Rattle.std.specs.Io.KnownBytes.{Appends}
use Rattle.gpu_capture.specs.History.{Call}
use Rattle.gpu_block_session.specs.Run.{Runs, ends, quiet, serves, stops, lines_of, output}
use Rattle.gpu_block_session.specs.declared.outcome.Outcome.{Outcome}
use Rattle.gpu_block_session.specs.declared.outcome.Outcome.TheVariants.{Nothing, Replied}
use Rattle.gpu_trace_text.specs.Any as any
use Rattle.gpu_trace_text.specs.Captured.{BeginsWith}
use Rattle.gpu_trace_text.specs.CapturedRun as captured
use Rattle.gpu_trace_text.specs.CapturedRun.{ServesPart, ServesParts, HasServed}
use Rattle.gpu_trace_text.specs.CapturedTrace.{Part, IsPart, ReadsAs}
use Rattle.gpu_trace_text.specs.declared.any.AnyReply.{AnyReply}
use Rattle.gpu_trace_text.specs.declared.any.AnyTrace.{AnyTrace}
use Rattle.gpu_trace_text.specs.declared.dialect.Line.{Line}
use Rattle.gpu_trace_text.specs.declared.dialect.Line.TheVariants as lines

module _ {S C O St R : Type 0} (Means : List ℕ → Line S C O → Type 0) (IsCall : Call → Line S C O → Type 0) (Does : St → Line S C O → Outcome R → St → Type 0) where
  -- what the line does that it is read as
  pub record DoesRead (old : St) (line : List ℕ) (did : Outcome R) (new : St) : Type 0 where
    pub said : Line S C O
    pub means : Means line said
    pub does : Does old said did new

  -- a line of this sort is served without a reply, or with one
  pub record IsQuiet (inside : St → AnyTrace) (old : St) (line : List ℕ) (new : AnyTrace) : Type 0 where
    pub stage : St
    pub is : new ≡ inside stage
    pub does : DoesRead old line Nothing stage

  pub record IsReplied (inside : St → AnyTrace) (said : R → AnyReply) (old : St) (line : List ℕ) (reply : AnyReply) (new : AnyTrace) : Type 0 where
    pub stage : St
    pub own : R
    pub is : new ≡ inside stage
    pub reply_is : reply ≡ said own
    pub does : DoesRead old line (Replied own) stage

  -- how a sort of traces lies in those of any sort; a plain line is none that tells the sort
  pub record Served (inside : St → AnyTrace) (said : R → AnyReply) (reply_line : R → List ℕ) : Type 1 where
    pub IsPlain : List ℕ → Type 0
    pub plain : (p : Part S) (line : List ℕ) → ((l : Line S C O) → Means line l → IsPart Means IsCall p l) → IsPlain line
    pub plain_end : IsPlain []
    pub empty : (l : Line S C O) → Means [] l → l ≡ lines.Blank
    pub blank : (old new : St) (r : R) → Does old lines.Blank (Replied r) new → ⊥
    pub quiet : (old : St) (line : List ℕ) (new : AnyTrace) → IsPlain line → any.Does (inside old) line Nothing new → IsQuiet inside old line new
    pub replied : (old : St) (line : List ℕ) (r : AnyReply) (new : AnyTrace) → IsPlain line → any.Does (inside old) line (Replied r) new → IsReplied inside said old line r new
    pub text : (r : R) → any.reply_line (said r) ≡ reply_line r

  module _ (inside : St → AnyTrace) (said : R → AnyReply) (reply_line : R → List ℕ) (w : Served inside said reply_line) where
    -- the replies to the parts
    pub record Again (stage : St) (parts : List (Part S)) (replies : List AnyReply) : Type 0 where
      pub own : List R
      pub are : replies ≡ map said own
      pub served : ServesParts Means IsCall Does stage parts own

    -- behind the last line nothing is left
    none_left : {stage : AnyTrace} {n : ℕ} {ls : List (List ℕ)} {rs : List AnyReply} {bad : Option ℕ} → Runs any.Does stage n ls rs bad → ls ≡ [] → rs ≡ []
    none_left ends is = refl
    none_left (quiet d next) is = cc
    none_left (serves d next) is = cc
    none_left (stops d) is = refl

    none_served : (stage : St) (rs : List AnyReply) → rs ≡ [] → Again stage [] rs
    none_served stage rs none = record { own = []; are = none; served = captured.ends }

    -- a line is read as the part that it was written for
    is_part : (p : Part S) (text rest line : List ℕ) (left : List (List ℕ)) (b : BeginsWith Means (IsPart Means IsCall p) text rest) → line ∷ left ≡ lines_of text
        → (l : Line S C O) → Means line l → IsPart Means IsCall p l
    is_part p text rest line left b are l means =
        let e : line ∷ left ≡ b.line ∷ lines_of rest = are ∙ b.split in
        let same : line ≡ b.line = cc in b.reads l (subst (λ (t : List ℕ). Means t l) same means)

    left_are : (p : Part S) (text rest line : List ℕ) (left : List (List ℕ)) (b : BeginsWith Means (IsPart Means IsCall p) text rest) → line ∷ left ≡ lines_of text → left ≡ lines_of rest
    left_are p text rest line left b are = let e : line ∷ left ≡ b.line ∷ lines_of rest = are ∙ b.split in cc

    part_served : (p : Part S) (line : List ℕ) (old new : St) (did : Outcome R) → ((l : Line S C O) → Means line l → IsPart Means IsCall p l) → DoesRead old line did new
        → ServesPart Means IsCall Does old p did new
    part_served p line old new did is d = record { line = d.said; is = is d.said d.means; does = d.does }

    again : {start : AnyTrace} {n : ℕ} {ls : List (List ℕ)} {rs : List AnyReply} {bad : Option ℕ} → Runs any.Does start n ls rs bad
        → (parts : List (Part S)) (text : List ℕ) (stage : St) → ReadsAs Means IsCall parts text → start ≡ inside stage → ls ≡ lines_of text → bad ≡ None → Again stage parts rs
    again ends [] text stage reads at are whole = none_served stage [] refl
    again ends (p ∷ ps) text stage reads at are whole = let e : [] ≡ reads.1.line ∷ lines_of reads.0 = are ∙ reads.1.split in cc
    again (quiet {line = line} {lines = left} {rs = rs} d next) [] text stage reads at are whole =
        let e : line ∷ left ≡ [] ∷ [] = are ∙ ap lines_of reads in
        none_served stage rs (none_left next cc)
    again (quiet {new = new} {line = line} {lines = left} d next) (p ∷ ps) text stage reads at are whole =
        let is = is_part p text reads.0 line left reads.1 are in
        let q = w.quiet stage line new (w.plain p line is) (subst (λ (s : AnyTrace). any.Does s line Nothing new) at d) in
        let rest = again next ps reads.0 q.stage reads.2 q.is (left_are p text reads.0 line left reads.1 are) whole in
        record { own = rest.own; are = rest.are; served = captured.quiet (part_served p line stage q.stage Nothing is q.does) rest.served }
    again (serves {new = new} {line = line} {lines = left} {r = r} d next) [] text stage reads at are whole =
        let e : line ∷ left ≡ [] ∷ [] = are ∙ ap lines_of reads in
        let same : line ≡ [] = cc in
        let q = w.replied stage [] r new w.plain_end (subst (λ (t : List ℕ). any.Does (inside stage) t (Replied r) new) same (subst (λ (s : AnyTrace). any.Does s line (Replied r) new) at d)) in
        absurd (w.blank stage q.stage q.own (subst (λ (l : Line S C O). Does stage l (Replied q.own) q.stage) (w.empty q.does.said q.does.means) q.does.does))
    again (serves {new = new} {line = line} {lines = left} {r = r} {rs = rs} d next) (p ∷ ps) text stage reads at are whole =
        let is = is_part p text reads.0 line left reads.1 are in
        let q = w.replied stage line r new (w.plain p line is) (subst (λ (s : AnyTrace). any.Does s line (Replied r) new) at d) in
        let rest = again next ps reads.0 q.stage reads.2 q.is (left_are p text reads.0 line left reads.1 are) whole in
        record {
          own = q.own ∷ rest.own;
          are = ap (λ (x : AnyReply). x ∷ rs) q.reply_is ∙ ap (λ (xs : List AnyReply). said q.own ∷ xs) rest.are;
          served = captured.replied (part_served p line stage q.stage (Replied q.own) is q.does) rest.served;
        }
    again (stops d) parts text stage reads at are whole = cc

    -- what was written
    texts_are : (own : List R) → flat_map any.reply_line (map said own) ≡ flat_map reply_line own
    texts_are [] = refl
    texts_are (r ∷ rs) = ap (λ (t : List ℕ). t ++ flat_map any.reply_line (map said rs)) (w.text r) ∙ ap (λ (t : List ℕ). reply_line r ++ t) (texts_are rs)

    pub has_served : (parts : List (Part S)) (text : List ℕ) (stage : St) (n : ℕ) (rs : List AnyReply) (old new : Option (List ℕ)) → ReadsAs Means IsCall parts text
        → Runs any.Does (inside stage) n (lines_of text) rs None → Appends old new (output any.reply_line rs None) → HasServed Means IsCall Does reply_line stage parts old new
    has_served parts text stage n rs old new reads run wrote =
        let a = again run parts text stage reads refl refl refl in
        let same : output any.reply_line rs None ≡ flat_map reply_line a.own =
        append-nil (flat_map any.reply_line rs) ∙ ap (flat_map any.reply_line) a.are ∙ texts_are a.own in
        record { replies = a.own; served = a.served; written = subst (Appends old new) same wrote }
