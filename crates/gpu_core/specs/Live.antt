-- Which pieces of an allocator are live.
use Rattle.std.specs.Prelude.{ℕ, Bool, Option, Some, None}
use Rattle.gpu_core.specs.TypeRelease.{IsLive}
use Rattle.gpu_core.specs.declared.piece.Piece.{Piece}
use Rattle.gpu_core.specs.Blocks.{Slots, slots_at}

-- the piece is live in the t-th memory type; the device's numbers are compared as their type compares them
abbrev pub IsLiveIn : {H : Type 0} → (H → H → Bool) → Slots H → (t : ℕ) → Option (Piece H) → Type 0
IsLiveIn eq slots t None = ⊥
IsLiveIn eq slots t (Some p) = IsLive eq (slots_at slots t) p
