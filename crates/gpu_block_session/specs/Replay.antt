-- How far a whole trace comes.
use Rattle.std.specs.Prelude.{◌≡◌, ℕ, ◌+◌, ◌<◌, ◌≤◌, ◌⊎◌, false, List, [], ◌∷◌, ◌++◌, length, take, slice_index_or}
use Rattle.gpu_block_session.specs.Run.{Does, is_bad, lines_of, longest_trace}
use Rattle.gpu_block_session.specs.declared.outcome.Outcome.{Outcome}
use Rattle.gpu_block_session.specs.declared.outcome.Outcome.TheVariants as outcomes
use Rattle.gpu_block_session.specs.declared.replay.Replayed.{Replayed}
use Rattle.gpu_block_session.specs.declared.replay.Replayed.TheVariants.{Whole, Bad}

-- these lines, served from the first to the last, lead from the start to this stage
pub data LeadTo {S R : Type 0} (does : Does S R) (start : S) : List (List ℕ) → S → Type 0 where
  begin : LeadTo does start [] start
  serve : (lines : List (List ℕ)) (line : List ℕ) (old : S) (outcome : Outcome R) {new : S}
      → LeadTo does start lines old → does old line outcome new → is_bad outcome ≡ false → LeadTo does start (lines ++ line ∷ []) new

module _ {S R : Type 0} (does : Does S R) (start : S) where
  -- the i-th line, counted from 0, is the first bad one
  pub record StopAt (lines : List (List ℕ)) (i : ℕ) : Type 0 where
    pub within : i < length lines
    pub stage : S
    pub left : S
    pub before : LeadTo does start (take i lines) stage
    pub bad : does stage (slice_index_or lines i []) outcomes.Bad left

  -- all lines were served, or the one of that number, counted from 1, is the first bad one
  abbrev pub Replays : List (List ℕ) → Replayed S → Type 0
  Replays lines (Whole stage) = LeadTo does start lines stage
  Replays lines (Bad number) = (i : ℕ) × (number ≡ i + 1) × StopAt lines i

  -- a trace that is too long is bad from its first line on
  abbrev pub ReplaysTrace : List ℕ → Replayed S → Type 0
  ReplaysTrace text r = ((longest_trace < length text) × (r ≡ Bad 1)) ⊎ ((length text ≤ longest_trace) × Replays (lines_of text) r)
