-- What `prepare` answers, and what `install` asks for.
use Rattle.std.specs.Prelude.{◌≡◌, ℕ, Bool, true, false, not}
use Rattle.gpu_block.specs.Block.{size_of, is_shared, HoldsPiece, HasPages, IsSoundBlock, HasPagesApart}
use Rattle.gpu_values.specs.Sizes.{Sizes}
use Rattle.gpu_core.specs.TypeState.{TypeState}
use Rattle.gpu_core.specs.TypeTake.{asked, has_dedicated_block, PreparesPiece, Pending, NeedsBlock, has_room}
use Rattle.gpu_core.specs.declared.piece.Request as type_requests
use Rattle.gpu_core.specs.declared.memory_type.Prepared.{Prepared}
use Rattle.gpu_core.specs.declared.memory_type.Prepared.TheVariants as prepared

-- the type can take the block: there is room, and the block is of its size and kind, has the type's pages, is sound, shares no page between kinds, and holds the piece
pub record CanInstall {H : Type 0} (t : TypeState H) (size : ℕ) (is_dedicated : Bool) (ready : Pending) : Type 0 where
  pub room : has_room t ≡ true
  pub size_is : size_of ready.block ≡ size
  pub kind : is_shared ready.block ≡ not is_dedicated
  pub pages : HasPages ready.block t.granularity
  pub sound : IsSoundBlock ready.block
  pub separated : HasPagesApart ready.block
  pub holds : HoldsPiece ready.block ready.chunk_id ready.offset ready.size

-- what a request results in: a piece of a shared block, or a new block, which the type can take; then the slots are as before
abbrev pub IsPrepared : {H : Type 0} → (old : TypeState H) → Sizes → type_requests.Request → Prepared H → (new : TypeState H) → Type 0
IsPrepared old sizes r (prepared.Taken p) new =
    (has_dedicated_block old sizes r.dedicated r.size ≡ false) × PreparesPiece old.slots (asked r) p new.slots
IsPrepared old sizes r (prepared.NeedBlock need) new =
    NeedsBlock old sizes r.dedicated (asked r) need.size need.dedicated need.room × CanInstall new need.size need.dedicated need.room × (new.slots ≡ old.slots)
