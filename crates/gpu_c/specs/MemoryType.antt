-- A memory type and the block that it awaits, and what the calls do to them.
use Rattle.std.specs.Prelude.{◌≡◌, ℕ, ◌+◌, ◌^◌, ◌<◌, ◌≤◌, Bool, true, false, List, [], Option, Some, None, IsTrue, IsSome, cond, length}
use Rattle.std.specs.Option.{is_some, unwrap_or}
use Rattle.std.specs.Int.NonZero.{non_zero_u64_get}
use Rattle.gpu_values.specs.Sizes.{Sizes, only_size, with_largest}
use Rattle.gpu_block.specs.Block.{Block, HoldsPiece, size_of, is_shared}
use Rattle.gpu_block.specs.BlockViews.{statistics_of as counted_of}
use Rattle.gpu_block_pieces.specs.Request.{Request, request}
use Rattle.gpu_core.specs.TypeState.{Slot, TypeState, slot_at, capacity_of, shared_count, fits_budget, KeepsOneEmptyAtMost}
use Rattle.gpu_core.specs.Slots.{AreSound}
use Rattle.gpu_core.specs.TypeTake.{has_dedicated_block, next_shared_size, NoneServes, PreparesPiece, NeedsBlock, Installs}
use Rattle.gpu_core.specs.TypePrepare.{CanInstall}
use Rattle.gpu_core.specs.TypeRelease.{has_others, ReleasesPiece, RenamesPiece, SetsWordOf}
use Rattle.gpu_core.specs.declared.piece.Piece.{Piece}
use Rattle.gpu_core.specs.declared.need.NeedBlock.{NeedBlock}
use Rattle.gpu_c.specs.Request.{IsRequestServed, kind_named}
use Rattle.gpu_c.specs.declared.memory_type_values.MemoryTypeSettings.{MemoryTypeSettings}
use Rattle.gpu_c.specs.declared.memory_type_values.MemoryRequest.{MemoryRequest}
use Rattle.gpu_c.specs.declared.memory_type_values.MemoryPiece.{MemoryPiece}
use Rattle.gpu_c.specs.declared.memory_type_values.MemoryPrepared.{MemoryPrepared}
use Rattle.gpu_c.specs.declared.memory_type_values.MemoryBlock.{MemoryBlock}
use Rattle.gpu_c.specs.declared.memory_type_values.MemoryStatistics.{MemoryStatistics}
use Rattle.gpu_c.specs.declared.memory_type_values.MemoryBlockStatistics.{MemoryBlockStatistics}

-- what lies behind a handle of a memory type; blocks are numbered by the driver's handles
pub record AwaitingState : Type 0 where
  pub is_host : Bool
  pub granularity : ℕ
  pub slots : List (Option (Slot ℕ))
  pub budget : Option ℕ
  pub sizes : Sizes
  pub awaited : Option NeedBlock

abbrev pub state_of : TypeState ℕ → Sizes → Option NeedBlock → AwaitingState
state_of t sizes awaited = record { is_host = t.is_host; granularity = t.granularity; slots = t.slots; budget = t.budget; sizes = sizes; awaited = awaited }

-- the memory type of a state; how much host memory its slots have does not count
abbrev pub type_of : AwaitingState → TypeState ℕ
type_of s = record { is_host = s.is_host; granularity = s.granularity; slots = s.slots; room = 0; budget = s.budget }

-- the block that is awaited can be put in
abbrev pub CanAwait : TypeState ℕ → Option NeedBlock → Type 0
CanAwait t None = Unit {0}
CanAwait t (Some need) = CanInstall t need.size need.dedicated need.room × (capacity_of t.slots + need.size < 2 ^ 64)

-- ---- made from settings

-- the sizes of blocks that the settings ask for
abbrev pub sizes_of : MemoryTypeSettings → Sizes
sizes_of s = record {
  device = with_largest (only_size s.device_block_size) s.largest_device_block_size;
  host = with_largest (only_size s.host_block_size) s.largest_host_block_size;
}

-- a number that counts only where there is one
abbrev pub number_if : Bool → ℕ → Option ℕ
number_if exists n = cond exists (Some n) None

-- no blocks, none awaited
abbrev pub fresh_memory_type : MemoryTypeSettings → AwaitingState
fresh_memory_type s = record { is_host = s.is_host; granularity = s.granularity; slots = []; budget = number_if s.has_budget s.budget; sizes = sizes_of s; awaited = None }

-- ---- pieces as C sees them

-- a piece as C sees it
abbrev pub memory_piece : Piece ℕ → MemoryPiece
memory_piece p = record { slot = p.slot; number = non_zero_u64_get p.chunk_id; offset = p.offset; size = p.size; block = p.handle }

-- the slot's block has the piece, whole
abbrev pub SlotHasPiece : MemoryPiece → Option (Slot ℕ) → Type 0
SlotHasPiece p None = ⊥
SlotHasPiece p (Some s) = (s.handle ≡ p.block) × HoldsPiece s.block p.number p.offset p.size

-- the caller's record is that of a live piece; no piece has the number 0
abbrev pub IsLiveIn : AwaitingState → MemoryPiece → Type 0
IsLiveIn s p = (0 < p.number) × SlotHasPiece p (slot_at s.slots p.slot)

-- each block is sound and has the type's pages, pieces of different kinds share none, and at most one block is without pieces
pub record AreWellFormed (s : AwaitingState) : Type 0 where
  pub sound : AreSound s.granularity s.slots
  pub empty : KeepsOneEmptyAtMost s.slots

-- ---- prepare

abbrev pub asked_of_type : MemoryRequest → List ℕ → Request
asked_of_type r name = request r.size r.alignment (kind_named r.kind) name

-- whether the request has a block of its own
abbrev pub requests_dedicated : AwaitingState → MemoryRequest → Bool
requests_dedicated s r = has_dedicated_block (type_of s) s.sizes r.dedicated r.size

-- a shared block has the piece; nothing else changes
pub record AllocatesPiece (old : AwaitingState) (r : MemoryRequest) (name : List ℕ) (out : MemoryPiece) (new : AwaitingState) : Type 0 where
  pub piece : Piece ℕ
  pub reported : out ≡ memory_piece piece
  pub shared : requests_dedicated old r ≡ false
  pub takes : PreparesPiece old.slots (asked_of_type r name) piece new.slots
  pub capacity : capacity_of new.slots ≡ capacity_of old.slots
  pub formed : AreWellFormed new
  pub same : new ≡ record old { slots = new.slots }

-- a new block of that size is needed: the request has its own, or no shared block has a place
pub record NeedsNew (old : AwaitingState) (r : MemoryRequest) (name : List ℕ) (size : ℕ) : Type 0 where
  pub size_is : size ≡ cond (requests_dedicated old r) r.size (next_shared_size (type_of old) old.sizes)
  pub none : requests_dedicated old r ≡ false → NoneServes old.slots (asked_of_type r name)

-- the block that is needed is awaited, with the piece in it; nothing else changes
abbrev pub AwaitsNeeded : (old : AwaitingState) → MemoryRequest → List ℕ → (size : ℕ) → (is_dedicated : Bool) → Option NeedBlock → Type 0
AwaitsNeeded old r name size is_dedicated None = ⊥
AwaitsNeeded old r name size is_dedicated (Some need) =
    (need.size ≡ size) × (need.dedicated ≡ is_dedicated) × NeedsBlock (type_of old) old.sizes r.dedicated (asked_of_type r name) need.size need.dedicated need.room

pub record Awaits (old : AwaitingState) (r : MemoryRequest) (name : List ℕ) (size : ℕ) (is_dedicated : Bool) (new : AwaitingState) : Type 0 where
  pub needed : AwaitsNeeded old r name size is_dedicated new.awaited
  pub fits : capacity_of old.slots + size < 2 ^ 64
  pub in_budget : fits_budget old.budget (capacity_of old.slots + size) ≡ true
  pub same : new ≡ record old { awaited = new.awaited }

-- what is reported where there is no piece
abbrev pub no_memory_piece : MemoryPiece
no_memory_piece = record { slot = 0; number = 0; offset = 0; size = 0; block = 0 }

abbrev pub PreparesBy : Bool → AwaitingState → MemoryRequest → List ℕ → MemoryPrepared → AwaitingState → Type 0
PreparesBy false old r name out new = (out.block_size ≡ 0) × (out.dedicated ≡ false) × AllocatesPiece old r name out.piece new
PreparesBy true old r name out new = (out.piece ≡ no_memory_piece) × Awaits old r name out.block_size out.dedicated new

-- what a request that is served results in
pub record Prepares (old : AwaitingState) (r : MemoryRequest) (name : List ℕ) (out : MemoryPrepared) (new : AwaitingState) : Type 0 where
  pub idle : old.awaited ≡ None
  pub served : IsRequestServed r.size r.alignment r.kind name
  pub prepares : PreparesBy out.needs_block old r name out new

-- nothing is awaited, and the request is one that is served
abbrev pub IsIdleAndServed : AwaitingState → MemoryRequest → List ℕ → Type 0
IsIdleAndServed s r name = (s.awaited ≡ None) × IsRequestServed r.size r.alignment r.kind name

-- a block is needed with which the sum of the blocks' sizes would pass 64 bits
pub record IsTooLarge (s : AwaitingState) (r : MemoryRequest) (name : List ℕ) : Type 0 where
  pub idle : IsIdleAndServed s r name
  pub size : ℕ
  pub needs : NeedsNew s r name size
  pub passes : 2 ^ 64 ≤ capacity_of s.slots + size

-- a block is needed with which the sum would pass the budget
pub record IsPastBudget (s : AwaitingState) (r : MemoryRequest) (name : List ℕ) : Type 0 where
  pub idle : IsIdleAndServed s r name
  pub size : ℕ
  pub needs : NeedsNew s r name size
  pub fits : capacity_of s.slots + size < 2 ^ 64
  pub passes : fits_budget s.budget (capacity_of s.slots + size) ≡ false

-- ---- install, free, rename

-- the block that was awaited stands in its slot under the driver's handle, the piece in it is reported, and nothing is awaited
pub record InstallsNeeded (old : AwaitingState) (need : NeedBlock) (number : ℕ) (out : MemoryPiece) (new : AwaitingState) : Type 0 where
  pub piece : Piece ℕ
  pub reported : out ≡ memory_piece piece
  pub installs : Installs old.slots need.dedicated need.room number piece new.slots
  pub capacity : capacity_of new.slots ≡ capacity_of old.slots + need.size
  pub formed : AreWellFormed new
  pub same : new ≡ record old { slots = new.slots; awaited = None }

abbrev pub InstallsBy : Option NeedBlock → AwaitingState → ℕ → MemoryPiece → AwaitingState → Type 0
InstallsBy None old number out new = ⊥
InstallsBy (Some need) old number out new = InstallsNeeded old need number out new

abbrev pub InstallsAwaited : AwaitingState → ℕ → MemoryPiece → AwaitingState → Type 0
InstallsAwaited old number out new = InstallsBy old.awaited old number out new

-- the block that was awaited is forgotten
abbrev pub Abandons : AwaitingState → AwaitingState → Type 0
Abandons old new = IsSome old.awaited × (new ≡ record old { awaited = None })

-- a block as C sees it, or none
abbrev pub memory_block : Option ℕ → MemoryBlock
memory_block block = record { exists = is_some block; block = unwrap_or block 0 }

-- the piece is freed, and the block that goes with it is reported
pub record FreesPiece (old : AwaitingState) (p : MemoryPiece) (gone : MemoryBlock) (new : AwaitingState) : Type 0 where
  pub idle : old.awaited ≡ None
  pub live : IsLiveIn old p
  pub piece : Piece ℕ
  pub named : memory_piece piece ≡ p
  pub went : Option ℕ
  pub releases : ReleasesPiece (IsTrue (has_others old.slots)) old.slots piece went new.slots
  pub reported : gone ≡ memory_block went
  pub capacity : capacity_of new.slots ≤ capacity_of old.slots
  pub formed : AreWellFormed new
  pub same : new ≡ record old { slots = new.slots }

-- the piece has that name
pub record NamesMemory (old : AwaitingState) (p : MemoryPiece) (name : List ℕ) (new : AwaitingState) : Type 0 where
  pub idle : old.awaited ≡ None
  pub live : IsLiveIn old p
  pub piece : Piece ℕ
  pub named : memory_piece piece ≡ p
  pub renames : RenamesPiece old.slots piece name new.slots
  pub capacity : capacity_of new.slots ≡ capacity_of old.slots
  pub formed : AreWellFormed new
  pub same : new ≡ record old { slots = new.slots }

-- this word is kept with the piece
pub record SetsWord (old : AwaitingState) (p : MemoryPiece) (word : ℕ) (new : AwaitingState) : Type 0 where
  pub idle : old.awaited ≡ None
  pub live : IsLiveIn old p
  pub piece : Piece ℕ
  pub named : memory_piece piece ≡ p
  pub sets : SetsWordOf old.slots piece word new.slots
  pub capacity : capacity_of new.slots ≡ capacity_of old.slots
  pub formed : AreWellFormed new
  pub same : new ≡ record old { slots = new.slots }

-- ---- readings

abbrev pub statistics_of : AwaitingState → MemoryStatistics
statistics_of s = record {
  capacity = capacity_of s.slots;
  slots = length s.slots;
  shared_blocks = shared_count s.slots;
  has_budget = is_some s.budget;
  budget = unwrap_or s.budget 0;
  awaits_block = is_some s.awaited;
}

-- a block's size, whether pieces share it, and what is counted of it; or that there is none
abbrev pub block_counts : Option Block → MemoryBlockStatistics
block_counts None = record { exists = false; shared = false; size = 0; pieces = 0; piece_bytes = 0; gaps = 0; longest_gap = 0 }
block_counts (Some b) = record {
  exists = true;
  shared = is_shared b;
  size = size_of b;
  pieces = (counted_of b).pieces;
  piece_bytes = (counted_of b).piece_bytes;
  gaps = (counted_of b).gaps;
  longest_gap = (counted_of b).longest_gap;
}
