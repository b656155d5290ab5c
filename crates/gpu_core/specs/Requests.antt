-- What a request results in at one memory type among all.
use Rattle.std.specs.Prelude.{◌≡◌, ℕ, ◌⊎◌, Bool, List, Option, Some, None}
use Rattle.std.specs.List.{slice_set}
use Rattle.gpu_values.specs.Refusal.{Refusal, host_out_of_memory}
use Rattle.gpu_values.specs.Sizes.{Sizes}
use Rattle.gpu_core.specs.TypeState.{TypeState, Slot, capacity_of}
use Rattle.gpu_core.specs.TypeTake.{asked, NeedsBlock, Installs, Pending}
use Rattle.gpu_core.specs.TypePrepare.{IsPrepared}
use Rattle.gpu_core.specs.declared.piece.Piece.{Piece}
use Rattle.gpu_core.specs.declared.memory_type.Prepared.{Prepared}
use Rattle.gpu_core.specs.declared.memory_type.Prepared.TheVariants as prepared
use Rattle.gpu_core.specs.declared.piece.Request as type_requests
use Rattle.gpu_core.specs.Blocks.{Slots, slots_at, total_capacity}
use Rattle.gpu_core.specs.Types.{Types, slots_of, type_of}
use Rattle.gpu_core.specs.Budgets.{block_refusal}

-- why the device isn't asked for a new block of that size in a memory type, where all blocks sum up to `used`
abbrev pub refusal_in_type : {H : Type 0} → (used : ℕ) → TypeState H → (size : ℕ) → Option Refusal
refusal_in_type used t size = block_refusal used t.budget (capacity_of t.slots) size

-- the same of what a memory type prepared: a piece that is taken needs no block
abbrev pub refusal_of_need : {H : Type 0} → (used : ℕ) → TypeState H → Prepared H → Option Refusal
refusal_of_need used t (prepared.Taken p) = None
refusal_of_need used t (prepared.NeedBlock need) = refusal_in_type used t need.size

-- the t-th memory type prepares the request, and no other one changes
pub record PreparesAt {H : Type 0} (t : ℕ) (old : Types H) (sizes : Sizes) (r : type_requests.Request) (prepared : Prepared H) (new : Types H) : Type 0 where
  pub prepares : IsPrepared (type_of old t) sizes r prepared (type_of new t)
  pub fits : refusal_of_need (total_capacity (slots_of old)) (type_of old t) prepared ≡ None
  pub slots : slots_of new ≡ slice_set (slots_of old) t (type_of new t).slots

-- the request needs a new block that the device isn't asked for, and why
pub record NeedsTooMuch {H : Type 0} (t : ℕ) (types : Types H) (sizes : Sizes) (r : type_requests.Request) (refusal : Refusal) : Type 0 where
  pub size : ℕ
  pub is_dedicated : Bool
  pub ready : Pending
  pub needs : NeedsBlock (type_of types t) sizes r.dedicated (asked r) size is_dedicated ready
  pub above : refusal_in_type (total_capacity (slots_of types)) (type_of types t) size ≡ Some refusal

-- why a request is refused: host memory was, or the sum of all blocks' sizes would pass 64 bits, or that of its memory type's blocks the budget
abbrev pub IsPrepareRefusal : {H : Type 0} → (t : ℕ) → Types H → Sizes → type_requests.Request → Refusal → Type 0
IsPrepareRefusal t types sizes r refusal = (refusal ≡ host_out_of_memory) ⊎ NeedsTooMuch t types sizes r refusal

-- a new block of the t-th memory type stands in its slot, and the piece is the one taken in it
pub record InstallsAt {H : Type 0} (t : ℕ) (old : Slots H) (is_dedicated : Bool) (ready : Pending) (handle : H) (p : Piece H) (new : Slots H) : Type 0 where
  pub left : List (Option (Slot H))
  pub installs : Installs (slots_at old t) is_dedicated ready handle p left
  pub slots : new ≡ slice_set old t left
