-- What freeing a piece returns and leaves, and what it is that blocks go back.
use Rattle.std.specs.Prelude.{◌≡◌, ℕ, Bool, List, [], ◌∷◌, Option, Some, None, Result, Ok, Err}
use Rattle.gpu_values.specs.Refusal.{Refusal}
use Rattle.gpu_core.specs.declared.piece.Piece.{Piece}
use Rattle.gpu_core.specs.Release.{ReleasesAt, IsReleaseRefusal}
use Rattle.gpu_pool.specs.Live.{IsLive}
use Rattle.gpu_pool.specs.Source.{Removes}
use Rattle.gpu_pool.specs.State.{State}
use Rattle.gpu_pool.specs.declared.source.BlockSource.{Ghosts}

-- gives_back: a block goes back to the source
module _ {S H : Type 0} (gives_back : S → H → S → Type 0) where
  -- the source after a block went back, if one did
  abbrev pub GivesBackAny : S → Option H → S → Type 0
  GivesBackAny old None new = new ≡ old
  GivesBackAny old (Some handle) new = gives_back old handle new

  -- the blocks of these handles went back, one after another
  abbrev pub GivesBackAll : S → List H → S → Type 0
  GivesBackAll old [] new = new ≡ old
  GivesBackAll old (handle ∷ handles) new = (mid : S) × gives_back old handle mid × GivesBackAll mid handles new

  -- a piece is gone, and its block with it where that goes; nothing else changes
  pub record FreesPiece (t : ℕ) (p : Piece H) (old new : State S H) : Type 0 where
    pub went : Option H
    pub slots : ReleasesAt t p old.slots went new.slots
    pub source : GivesBackAny old.source went new.source
    pub state : new ≡ record old { source = new.source; slots = new.slots }

  -- a live piece is freed; of one that isn't live nothing changes
  abbrev pub PoolFrees : (H → H → Bool) → (t : ℕ) → Piece H → State S H → Result (Unit {0}) Refusal → State S H → Type 0
  PoolFrees eq t p old (Ok _) new = IsLive eq old.slots t p × FreesPiece t p old new
  PoolFrees eq t p old (Err e) new = (IsLive eq old.slots t p → ⊥) × IsReleaseRefusal eq t old.slots p e × (new ≡ old)

-- a block that goes back, in the words of the source's own API, and as a pool sees it
pub record GivesBackOf {S H X : Type 0} (g : Ghosts S H X) (old : S) (handle : H) (new : S) : Type 0 where
  pub exactly : g.gives_back old handle new
  pub held : Removes (g.held old) (g.number handle) (g.held new)
  pub constant : g.kinds new ≡ g.kinds old
