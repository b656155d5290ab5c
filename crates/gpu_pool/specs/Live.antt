-- Which pieces of a pool are live.
use Rattle.std.specs.Prelude.{◌⊎◌, ◌+◌, ◌≤◌, ℕ, Bool, Some}
use Rattle.gpu_core.specs.declared.piece.Piece.{Piece}
use Rattle.gpu_core.specs.Apart.{AreDistinct}
use Rattle.gpu_core.specs.Blocks.{Slots}
use Rattle.gpu_core.specs.Live.{IsLiveIn}

module _ {H : Type 0} (eq : H → H → Bool) where
  -- the piece is live in the t-th memory type; handles are compared as their type compares them
  abbrev pub IsLive : Slots H → (t : ℕ) → Piece H → Type 0
  IsLive slots t p = IsLiveIn eq slots t (Some p)

  -- what was live is live
  abbrev pub StayLive : (old new : Slots H) → Type 0
  StayLive old new = (t : ℕ) (p : Piece H) → IsLive old t p → IsLive new t p

  -- the piece is live, and none that was live before
  abbrev pub IsNewlyLive : (old new : Slots H) → (t : ℕ) → Piece H → Type 0
  IsNewlyLive old new t p = IsLive new t p × ((u : ℕ) (q : Piece H) → IsLive old u q → AreDistinct u q t p)

-- one of two pieces ends before the other begins
abbrev pub AreBytesApart : {H : Type 0} → (p q : Piece H) → Type 0
AreBytesApart p q = (p.offset + p.size ≤ q.offset) ⊎ (q.offset + q.size ≤ p.offset)
