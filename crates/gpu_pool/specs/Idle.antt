-- What calls return and leave that wait for no answer: while a question is open, they are refused.
use Rattle.std.specs.Prelude.{◌≡◌, ℕ, Bool, List, Option, Some, None, Result, Ok, Err}
use Rattle.gpu_values.specs.Refusal.{refusal_of}
use Rattle.gpu_values.specs.declared.error.AllocationError.{AllocationError}
use Rattle.gpu_core.specs.declared.piece.Piece.{Piece}
use Rattle.gpu_core.specs.Blocks.{slots_at}
use Rattle.gpu_core.specs.Release.{ReleasesAt, IsReleaseRefusal}
use Rattle.gpu_core.specs.Rename.{IsRenamed, IsNotNamed, IsWorded, IsNotWorded}
use Rattle.gpu_pool.specs.Live.{IsLive}
use Rattle.gpu_pool.specs.Told.{SetsBudgetAt}
use Rattle.gpu_pool.specs.RequestState.{RequestState, IsRefused, answer_awaited}
use Rattle.gpu_pool.specs.declared.requests.Awaited.{Awaited}

module _ {H : Type 0} (eq : H → H → Bool) where
  abbrev pub FreesIn : Option Awaited → RequestState H → (t : ℕ) → Piece H → Result (Option H) AllocationError → RequestState H → Type 0
  FreesIn (Some _) old t p result new = IsRefused answer_awaited old result new
  FreesIn None old t p (Ok went) new = IsLive eq old.slots t p × ReleasesAt t p old.slots went new.slots × (new ≡ record old { slots = new.slots })
  FreesIn None old t p (Err e) new = (IsLive eq old.slots t p → ⊥) × IsReleaseRefusal eq t old.slots p (refusal_of e) × (new ≡ old)

  -- a piece is freed where no question is open
  abbrev pub FreesIdle : RequestState H → (t : ℕ) → Piece H → Result (Option H) AllocationError → RequestState H → Type 0
  FreesIdle old t p result new = FreesIn old.awaited old t p result new

  abbrev pub RenamesIn : Option Awaited → RequestState H → (t : ℕ) → Piece H → (name : List ℕ) → Result (Unit {0}) AllocationError → RequestState H → Type 0
  RenamesIn (Some _) old t p name result new = IsRefused answer_awaited old result new
  RenamesIn None old t p name (Ok _) new = IsRenamed eq t p name old.slots new.slots × (new ≡ record old { slots = new.slots })
  RenamesIn None old t p name (Err e) new = IsNotNamed eq (slots_at old.slots t) p (refusal_of e) × (new ≡ old)

  abbrev pub SetsWordIn : Option Awaited → RequestState H → (t : ℕ) → Piece H → (word : ℕ) → Result (Unit {0}) AllocationError → RequestState H → Type 0
  SetsWordIn (Some _) old t p word result new = IsRefused answer_awaited old result new
  SetsWordIn None old t p word (Ok _) new = IsWorded eq t p word old.slots new.slots × (new ≡ record old { slots = new.slots })
  SetsWordIn None old t p word (Err e) new = IsNotWorded eq (slots_at old.slots t) p (refusal_of e) × (new ≡ old)

  -- another word is kept with a piece where no question is open
  abbrev pub SetsWordIdle : RequestState H → (t : ℕ) → Piece H → (word : ℕ) → Result (Unit {0}) AllocationError → RequestState H → Type 0
  SetsWordIdle old t p word result new = SetsWordIn old.awaited old t p word result new

  -- a piece is renamed where no question is open
  abbrev pub RenamesIdle : RequestState H → (t : ℕ) → Piece H → (name : List ℕ) → Result (Unit {0}) AllocationError → RequestState H → Type 0
  RenamesIdle old t p name result new = RenamesIn old.awaited old t p name result new

module _ {H : Type 0} where
  abbrev pub SetsBudgetIn : Option Awaited → RequestState H → (t : ℕ) → (budget : Option ℕ) → Result (Unit {0}) AllocationError → RequestState H → Type 0
  SetsBudgetIn (Some _) old t budget result new = IsRefused answer_awaited old result new
  SetsBudgetIn None old t budget result new = SetsBudgetAt old.slots t budget old.budgets result new.budgets × (new ≡ record old { budgets = new.budgets })

  -- a memory type has this budget where no question is open
  abbrev pub SetsBudgetIdle : RequestState H → (t : ℕ) → (budget : Option ℕ) → Result (Unit {0}) AllocationError → RequestState H → Type 0
  SetsBudgetIdle old t budget result new = SetsBudgetIn old.awaited old t budget result new
