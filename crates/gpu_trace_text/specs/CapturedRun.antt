-- What a run of a trace does that a capture wrote.
use Rattle.std.specs.Prelude.{ℕ, List, [], ◌∷◌, Option}
use Rattle.std.specs.List.{flat_map}
use Rattle.std.specs.Io.KnownBytes.{Appends}
use Rattle.gpu_capture.specs.History.{Call}
use Rattle.gpu_block_session.specs.declared.outcome.Outcome.{Outcome}
use Rattle.gpu_block_session.specs.declared.outcome.Outcome.TheVariants.{Nothing, Replied}
use Rattle.gpu_trace_text.specs.CapturedTrace.{Part, IsPart}
use Rattle.gpu_trace_text.specs.declared.dialect.Line.{Line}

-- by what a line means, what is a call's, and what a line does from one stage of a trace to the next
module _ {S C O Stage R : Type 0} (Means : List ℕ → Line S C O → Type 0) (IsCall : Call → Line S C O → Type 0) (Does : Stage → Line S C O → Outcome R → Stage → Type 0) where
  -- a line that is this part is served
  pub record ServesPart (old : Stage) (part : Part S) (did : Outcome R) (new : Stage) : Type 0 where
    pub line : Line S C O
    pub is : IsPart Means IsCall part line
    pub does : Does old line did new

  -- from this stage on these parts are served, one after another, with these replies
  pub data ServesParts : Stage → List (Part S) → List R → Type 0 where
    ends : {stage : Stage} → ServesParts stage [] []
    quiet : {old new : Stage} {part : Part S} {parts : List (Part S)} {replies : List R}
        → ServesPart old part Nothing new → ServesParts new parts replies → ServesParts old (part ∷ parts) replies
    replied : {old new : Stage} {part : Part S} {parts : List (Part S)} {reply : R} {replies : List R}
        → ServesPart old part (Replied reply) new → ServesParts new parts replies → ServesParts old (part ∷ parts) (reply ∷ replies)

  -- these parts were served from the start on, and the replies to them written behind what was there
  pub record HasServed (reply_line : R → List ℕ) (start : Stage) (parts : List (Part S)) (old new : Option (List ℕ)) : Type 0 where
    pub replies : List R
    pub served : ServesParts start parts replies
    pub written : Appends old new (flat_map reply_line replies)
