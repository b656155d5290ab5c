-- The run of a trace: which replies its lines may get, where it stops, and what is written.
use Rattle.std.specs.Prelude.{◌≡◌, ℕ, suc, ◌<◌, ◌≤◌, ◌⊎◌, List, [], ◌∷◌, ◌++◌, length, Bool, true, false, Option, Some, None, codes, ◌==◌}
use Rattle.std.specs.List.{flat_map, slice_split}
use Rattle.std.specs.Fmt.{decimal}
use Rattle.std.specs.Io.KnownBytes.{Appends}
use Rattle.gpu_block_session.specs.declared.outcome.Outcome.{Outcome}
use Rattle.gpu_block_session.specs.declared.outcome.Outcome.TheVariants.{Nothing, Replied, Bad}

-- the line stops the trace
abbrev pub is_bad : {R : Type 0} → Outcome R → Bool
is_bad Nothing = false
is_bad (Replied r) = false
is_bad Bad = true

-- What a line does: from how far the trace has come, the line, what it did, and how far the trace has come then.
abbrev pub Does : (S R : Type 0) → Type 1
Does S R = S → List ℕ → Outcome R → S → Type 0

-- From this stage on the lines number n, n + 1 .. get these replies, and the run stops at the first bad line, if there is one.
pub data Runs {S R : Type 0} (does : Does S R) : S → ℕ → List (List ℕ) → List R → Option ℕ → Type 0 where
  ends : {stage : S} {n : ℕ} → Runs does stage n [] [] None
  quiet : {old new : S} {n : ℕ} {line : List ℕ} {lines : List (List ℕ)} {rs : List R} {bad : Option ℕ}
      → does old line Nothing new → Runs does new (suc n) lines rs bad → Runs does old n (line ∷ lines) rs bad
  serves : {old new : S} {n : ℕ} {line : List ℕ} {lines : List (List ℕ)} {r : R} {rs : List R} {bad : Option ℕ}
      → does old line (Replied r) new → Runs does new (suc n) lines rs bad → Runs does old n (line ∷ lines) (r ∷ rs) bad
  stops : {stage left : S} {n : ℕ} {line : List ℕ} {lines : List (List ℕ)}
      → does stage line Bad left → Runs does stage n (line ∷ lines) [] (Some n)

-- the parts between the line feeds; the last is empty where the text ends with one
abbrev pub lines_of : List ℕ → List (List ℕ)
lines_of text = slice_split (λ b. b == 10) text

-- the most bytes that a trace has
abbrev pub longest_trace : ℕ
longest_trace = 1048576

-- what is written for the bad line of that number, where there is one
abbrev pub bad_text : Option ℕ → List ℕ
bad_text None = []
bad_text (Some n) = codes "bad line " ++ (decimal n ++ 10 ∷ [])

-- what is written for the line of that number
abbrev pub outcome_text : {R : Type 0} → (reply_line : R → List ℕ) → ℕ → Outcome R → List ℕ
outcome_text reply_line n Nothing = []
outcome_text reply_line n (Replied r) = reply_line r
outcome_text reply_line n Bad = bad_text (Some n)

-- what is written for a run
abbrev pub output : {R : Type 0} → (reply_line : R → List ℕ) → List R → Option ℕ → List ℕ
output reply_line rs bad = flat_map reply_line rs ++ bad_text bad

module _ {S R : Type 0} (does : Does S R) (reply_line : R → List ℕ) (start : S) where
  -- a trace that is too long is bad from its first line on
  abbrev pub RunsTrace : List ℕ → List R → Option ℕ → Type 0
  RunsTrace text rs bad = ((longest_trace < length text) × (rs ≡ []) × (bad ≡ Some 1)) ⊎ ((length text ≤ longest_trace) × Runs does start 1 (lines_of text) rs bad)

  -- the output of a run of these lines was written behind what was there
  pub record HasRun (lines : List (List ℕ)) (old new : Option (List ℕ)) (bad : Option ℕ) : Type 0 where
    pub replies : List R
    pub run : Runs does start 1 lines replies bad
    pub text : Appends old new (output reply_line replies bad)

  -- the output of a run of the trace was written behind what was there
  pub record Answers (input : List ℕ) (old new : Option (List ℕ)) (bad : Option ℕ) : Type 0 where
    pub replies : List R
    pub run : RunsTrace input replies bad
    pub text : Appends old new (output reply_line replies bad)
