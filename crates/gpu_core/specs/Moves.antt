-- Moves: a live piece gets a second place ahead of its own, its owner copies it, and the first place is freed. Ahead are the higher slots,
-- at which requests look first.
use Rattle.std.specs.Prelude.{◌≡◌, ℕ, ◌+◌, ◌-◌, ◌*◌, ◌<◌, List, [], ◌∷◌, length, Option, Some, None}
use Rattle.std.specs.List.{slice_set}
use Rattle.gpu_block_pieces.specs.Request.{Request}
use Rattle.gpu_block.specs.Block.{extents_of}
use Rattle.gpu_core.specs.TypeState.{Slot}
use Rattle.gpu_core.specs.TypeTake.{PreparesPiece, NoneServesFrom}
use Rattle.gpu_core.specs.Blocks.{Slots, slots_at}
use Rattle.gpu_core.specs.declared.piece.Piece.{Piece}

-- the second place is the one that the request would have as a new piece, and it lies in a higher slot
pub record ProposesMove {H : Type 0} (old : List (Option (Slot H))) (r : Request) (from to : Piece H) (new : List (Option (Slot H))) : Type 0 where
  pub takes : PreparesPiece old r to new
  pub ahead : from.slot < to.slot

-- no block in a higher slot has a place
abbrev pub NoneAhead : {H : Type 0} → List (Option (Slot H)) → Request → (slot : ℕ) → Type 0
NoneAhead slots r slot = NoneServesFrom slots r (slot + 1)

-- the slots above one
abbrev pub slots_above : {H : Type 0} → List (Option (Slot H)) → ℕ → ℕ
slots_above slots i = length slots - (i + 1)

-- how many live pieces a slot has
abbrev pub piece_count : {H : Type 0} → Option (Slot H) → ℕ
piece_count None = 0
piece_count (Some s) = length (extents_of s.block)

-- how many moves are left at most: each piece counts the slots above its own
abbrev pub moves_left : {H : Type 0} → List (Option (Slot H)) → ℕ
moves_left [] = 0
moves_left (s ∷ ss) = piece_count s * length ss + moves_left ss

-- the same of one memory type among all, and no other one changes
pub record ProposesMoveAt {H : Type 0} (t : ℕ) (old : Slots H) (r : Request) (from to : Piece H) (new : Slots H) : Type 0 where
  pub left : List (Option (Slot H))
  pub proposes : ProposesMove (slots_at old t) r from to left
  pub slots : new ≡ slice_set old t left
