-- What renaming a piece returns and leaves, by what it met with.
use Rattle.std.specs.Prelude.{◌≡◌, ◌≢◌, ℕ, Bool, List, Result, Ok, Err}
use Rattle.gpu_values.specs.Refusal.{Refusal, host_out_of_memory}
use Rattle.gpu_core.specs.TypeRelease.{IsNameRefusal}
use Rattle.gpu_core.specs.TypeState.{slot_at}
use Rattle.gpu_core.specs.declared.piece.Piece.{Piece}
use Rattle.gpu_core.specs.Blocks.{Slots, slots_at}
use Rattle.gpu_core.specs.Rename.{IsRenamed}
use Rattle.gpu_pool.specs.Allocate.{Environment, NothingMet, NoHostMemory, Answered}
use Rattle.gpu_pool.specs.Live.{IsLive}
use Rattle.gpu_pool.specs.State.{State}

-- the piece isn't live, and that is why it is refused
pub record IsNotThere {H : Type 0} (eq : H → H → Bool) (t : ℕ) (p : Piece H) (slots : Slots H) (refusal : Refusal) : Type 0 where
  pub dead : IsLive eq slots t p → ⊥
  pub other : refusal ≢ host_out_of_memory
  pub cause : IsNameRefusal eq p (slot_at (slots_at slots t) p.slot) refusal

module _ {S H : Type 0} (eq : H → H → Bool) (t : ℕ) (p : Piece H) (name : List ℕ) where
  -- a live piece has the name and nothing else changes, where the host has memory; else nothing changes
  abbrev pub RenamesBy : State S H → Environment H → Result (Unit {0}) Refusal → State S H → Type 0
  RenamesBy old NothingMet (Ok _) new = IsRenamed eq t p name old.slots new.slots × (new ≡ record old { slots = new.slots })
  RenamesBy old NothingMet (Err e) new = IsNotThere eq t p old.slots e × (new ≡ old)
  RenamesBy old NoHostMemory (Ok _) new = ⊥
  RenamesBy old NoHostMemory (Err e) new = IsLive eq old.slots t p × (e ≡ host_out_of_memory) × (new ≡ old)
  RenamesBy old (Answered size answer) result new = ⊥

  -- a rename returns so, whatever it met with
  abbrev pub Renames : State S H → Result (Unit {0}) Refusal → State S H → Type 0
  Renames old result new = (met : Environment H) × RenamesBy old met result new
