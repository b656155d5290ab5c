-- How a move ends: one of the two places is freed, and the allocation comes back at the other.
use Rattle.std.specs.Prelude.{◌≡◌, ℕ, ◌+◌, ◌≤◌, Result, Ok, Err}
use Rattle.gpu_values.specs.declared.error.AllocationError.{AllocationError}
use Rattle.gpu_core.specs.Blocks.{Slots, slots_at}
use Rattle.gpu_core.specs.Moves.{slots_above, moves_left}
use Rattle.gpu_defragment.specs.declared.open_move.Finished.{Finished}
use Rattle.gpu_defragment.specs.declared.open_move.Move.{Move}

-- IsFree: what the allocator answers to a free, and what that leaves of it
module _ {A S : Type 0} (IsFree : A → Result (Unit {0}) (AllocationError × A) → S → S → Type 0) where
  -- the first place is freed; or it is refused, and the move stays open
  abbrev pub Finishes : Move A → S → Result (Finished A) (AllocationError × Move A) → S → Type 0
  Finishes m old (Ok f) new = IsFree m.from (Ok tt) old new × (f.allocation ≡ m.to)
  Finishes m old (Err e) new = IsFree m.from (Err (e.0, m.from)) old new × (e.1 ≡ m)

  -- the same of the second
  abbrev pub Abandons : Move A → S → Result A (AllocationError × Move A) → S → Type 0
  Abandons m old (Ok a) new = IsFree m.to (Ok tt) old new × (a ≡ m.from)
  Abandons m old (Err e) new = IsFree m.to (Err (e.0, m.to)) old new × (e.1 ≡ m)

-- so many moves fewer are left of a memory type, at least, as there are slots above one
abbrev pub LeavesFewer : {H : Type 0} → (t slot : ℕ) → (old new : Slots H) → Type 0
LeavesFewer t slot old new = moves_left (slots_at new t) + slots_above (slots_at old t) slot ≤ moves_left (slots_at old t)
