-- Moves that are open, and what a frame may still move, of any API's allocations.
use Rattle.std.specs.Prelude.{◌≡◌, ◌⊎◌, ℕ, ◌-◌, ◌<◌, ◌≤◌, List, [], ◌∷◌, ◌++◌, length, slice_get, Option, Some, None, Result, Ok, Err}
use Rattle.std.specs.List.{remove}
use Rattle.gpu_values.specs.declared.error.AllocationError.{AllocationError}
use Rattle.gpu_defragment.specs.declared.open_move.Move.{Move}

-- the open moves in the order in which they were proposed, and how many bytes and moves the frame has left
pub record DefragmentationState (A : Type 0) : Type 0 where
  pub moves : List (Move A)
  pub bytes_left : ℕ
  pub moves_left : ℕ

-- the frame has room for a move of so many bytes
pub record IsWithin {A : Type 0} (s : DefragmentationState A) (size : ℕ) : Type 0 where
  pub bytes : size ≤ s.bytes_left
  pub moves : 0 < s.moves_left

-- the move of so many bytes is open, and counts for the frame
abbrev pub opened : {A : Type 0} → DefragmentationState A → (size : ℕ) → Move A → DefragmentationState A
opened s size m = record { moves = s.moves ++ m ∷ []; bytes_left = s.bytes_left - size; moves_left = s.moves_left - 1 }

-- size: the allocation's. IsStep: what its allocator answers where it is asked for a second place, and what that leaves of it.
module _ {A S : Type 0} (size : ℕ) (IsStep : Result (Option A) AllocationError → S → S → Type 0) (from : A) where
  -- the allocation has a second place, and its move is open
  pub record Opens (old : DefragmentationState A) (was : S) (new : DefragmentationState A) (is : S) : Type 0 where
    pub within : IsWithin old size
    pub to : A
    pub step : IsStep (Ok (Some to)) was is
    pub state : new ≡ opened old size (record { from = from; to = to })

  -- the frame has no room for it, or no block ahead a place
  abbrev pub StaysIn : DefragmentationState A → S → Type 0
  StaysIn s a = (IsWithin s size → ⊥) ⊎ (IsWithin s size × IsStep (Ok None) a a)

  -- what a proposal makes of the open moves and of the allocator, and is answered
  abbrev pub Proposes : DefragmentationState A → S → Result (Option A) (AllocationError × A) → DefragmentationState A → S → Type 0
  Proposes old was (Ok None) new is = Opens old was new is
  Proposes old was (Ok (Some a)) new is = (a ≡ from) × (new ≡ old) × (is ≡ was) × StaysIn old was
  Proposes old was (Err e) new is = (e.1 ≡ from) × (new ≡ old) × (is ≡ was) × IsWithin old size × IsStep (Err e.0) was was

-- the move at that place is open no more, and handed over
abbrev pub Takes : {A : Type 0} → (index : ℕ) → DefragmentationState A → Option (Move A) → DefragmentationState A → Type 0
Takes index old None new = (length old.moves ≤ index) × (new ≡ old)
Takes index old (Some m) new = (slice_get old.moves index ≡ Some m) × (new ≡ record old { moves = remove old.moves index })
