-- What the reader makes of a whole trace that a capture wrote.
use Rattle.std.specs.Prelude.{◌≡◌, ℕ, ◌∷◌, ◌++◌, List, [], map, Bool, true, false}
use Rattle.std.specs.List.{flat_map}
use Rattle.gpu_capture.specs.declared.answer.Answer.{Answer}
use Rattle.gpu_capture.specs.declared.answer.Answer.TheVariants.{Granted, Refused}
use Rattle.gpu_capture.specs.History.{Call, RefusedQuestion, answers_of, refused_in}
use Rattle.gpu_block_session.specs.Run.{lines_of}
use Rattle.gpu_trace_text.specs.Captured.{BeginsWith}
use Rattle.gpu_trace_text.specs.Setting.{FitsRefusal}
use Rattle.gpu_trace_text.specs.declared.dialect.Line.{Line}
use Rattle.gpu_trace_text.specs.declared.dialect.Line.TheVariants as lines

-- a line of it: one in front of `new`, `new`, a call's, `destroy`, or a remark
pub data Part (S : Type 0) : Type 0 where
  Sets : S → Part S
  Makes : Part S
  Calls : Call → Part S
  Ends : Part S
  Remarks : Part S

-- `destroy`, where the allocator is gone
abbrev pub last_part : {S : Type 0} → (is_destroyed : Bool) → List (Part S)
last_part false = []
last_part true = Ends ∷ []

-- the lines of a device with these settings, and of these calls of its allocator, behind which stands the last; so many questions were asked
-- before them
abbrev pub parts_of : {S : Type 0} → (refuse : RefusedQuestion → S) → (settings : List S) → (questions : ℕ) → List Call → (last : List (Part S)) → List (Part S)
parts_of refuse settings questions calls last =
    map Sets (settings ++ map refuse (refused_in questions (flat_map answers_of calls))) ++ Makes ∷ (map Calls calls ++ last)

-- what a driver's code may be
abbrev pub FitsAnswer : Answer → Type 0
FitsAnswer Granted = Unit {0}
FitsAnswer (Refused refusal) = FitsRefusal refusal

-- by what a line means, and what is a call's
module _ {S C O : Type 0} (Means : List ℕ → Line S C O → Type 0) (IsCall : Call → Line S C O → Type 0) where
  abbrev pub IsPart : Part S → Line S C O → Type 0
  IsPart (Sets s) l = l ≡ lines.Configures s
  IsPart Makes l = l ≡ lines.New
  IsPart (Calls c) l = IsCall c l
  IsPart Ends l = l ≡ lines.Destroy
  IsPart Remarks l = l ≡ lines.Blank

  -- the text is read as these lines, one after another, and as nothing else
  abbrev pub ReadsAs : List (Part S) → (text : List ℕ) → Type 0
  ReadsAs [] text = text ≡ []
  ReadsAs (p ∷ ps) text = (rest : List ℕ) × BeginsWith Means (IsPart p) text rest × ReadsAs ps rest

  -- the text is read as the lines of the first of these calls, up to one that it lacks
  pub record ReadsUpTo (parts : List Call → List (Part S)) (calls : List Call) (text : List ℕ) : Type 0 where
    pub written : List Call
    pub next : Call
    pub left : List Call
    pub split : calls ≡ written ++ next ∷ left
    pub reads : ReadsAs (parts written) text

-- the text's first line tells the sort of traces, and behind it that is read
pub record IsOfSort (first : List ℕ) (IsRead : List ℕ → Type 0) (text : List ℕ) : Type 0 where
  pub rest : List ℕ
  pub split : lines_of text ≡ first ∷ lines_of rest
  pub reads : IsRead rest
