-- What the calls do to a virtual block.
use Rattle.std.specs.Prelude.{◌≡◌, ℕ, ◌<◌, List, Contains, true, IsTrue}
use Rattle.std.specs.Int.{is_power_of_two}
use Rattle.gpu_values.specs.declared.error.AllocationError.{AllocationError}
use Rattle.gpu_block_pieces.specs.FreeList.{Extent, fresh_free_list}
use Rattle.gpu_block.specs.Dedicated.{empty_dedicated}
use Rattle.gpu_block.specs.Block.{Block, free_list, dedicated, extents_of, size_of, is_shared, HasPages, TakesIn, ReleasesIn, RenamesIn, SetsWordIn, IsAllocateRefusalIn, IsFitLaw, IsSoundBlock, IsOrderedBlock}
use Rattle.gpu_block.specs.Block.{HasPagesApart, IsCoveredBlock}
use Rattle.gpu_block.specs.BlockViews.{statistics_of}
use Rattle.gpu_block_pieces.specs.Request.{Request, request}
use Rattle.gpu_c.specs.Request.{IsRequestServed, kind_named}
use Rattle.gpu_c.specs.declared.virtual_block_values.VirtualRequest.{VirtualRequest}
use Rattle.gpu_c.specs.declared.virtual_block_values.VirtualPiece.{VirtualPiece}
use Rattle.gpu_c.specs.declared.virtual_block_values.VirtualStatistics.{VirtualStatistics}

-- a block that is cut into pieces, with pages of that size
pub record IsCut (b : Block) (granularity : ℕ) : Type 0 where
  pub shared : is_shared b ≡ true
  pub pages : HasPages b granularity
  pub paged : IsTrue (is_power_of_two granularity)
  pub sized : 0 < size_of b
  pub sound : IsSoundBlock b

-- what a block can be made with, in bytes
abbrev pub CanCreate : (size granularity : ℕ) → Type 0
CanCreate size granularity = (0 < size) × IsTrue (is_power_of_two granularity)

-- a block without pieces
abbrev pub fresh_virtual_block : (size granularity : ℕ) → Block
fresh_virtual_block size granularity = free_list (fresh_free_list size granularity 2)

-- what is asked of the block
abbrev pub asked : VirtualRequest → List ℕ → Request
asked r name = request r.size r.alignment (kind_named r.kind) name

-- the caller's record is that of a live piece; no piece has the number 0
abbrev pub IsLivePiece : Block → VirtualPiece → Type 0
IsLivePiece b piece = (0 < piece.number) × ((x : Extent) × Contains (extents_of b) x × (x.chunk_id ≡ piece.number) × (x.offset ≡ piece.offset))

-- no two pieces share a byte or a number, they and the gaps stand in order and cover the block, and pieces of different kinds share no page
pub record IsWellFormed (b : Block) : Type 0 where
  pub sound : IsSoundBlock b
  pub ordered : IsOrderedBlock b
  pub separated : HasPagesApart b
  pub covered : IsCoveredBlock b

-- a request that is served has been refused for that cause: it has no place, or host memory was refused. Where a gap is long enough for it whatever its neighbours are, lack of a place is never the
-- cause while the block has numbers
pub record IsRefusedFor (b : Block) (r : VirtualRequest) (name : List ℕ) (e : AllocationError) : Type 0 where
  pub served : IsRequestServed r.size r.alignment r.kind name
  pub cause : IsAllocateRefusalIn b (asked r name) e
  pub law : IsFitLaw b (asked r name) e

-- the piece was allocated
pub record BlockAllocates (old : Block) (r : VirtualRequest) (name : List ℕ) (piece : VirtualPiece) (new : Block) : Type 0 where
  pub served : IsRequestServed r.size r.alignment r.kind name
  pub takes : TakesIn old (asked r name) piece.offset piece.number new
  pub numbered : 0 < piece.number
  pub formed : IsWellFormed new

-- the piece was freed
pub record BlockFrees (old : Block) (piece : VirtualPiece) (new : Block) : Type 0 where
  pub live : IsLivePiece old piece
  pub releases : ReleasesIn old piece.number new
  pub formed : IsWellFormed new

-- the piece has that name
pub record NamesPiece (old : Block) (piece : VirtualPiece) (name : List ℕ) (new : Block) : Type 0 where
  pub live : IsLivePiece old piece
  pub renames : RenamesIn old piece.number name new
  pub formed : IsWellFormed new

-- this word is kept with the piece
pub record SetsWord (old : Block) (piece : VirtualPiece) (word : ℕ) (new : Block) : Type 0 where
  pub live : IsLivePiece old piece
  pub sets : SetsWordIn old piece.number word new
  pub formed : IsWellFormed new

-- the block without its pieces
abbrev pub cleared : Block → Block
cleared (free_list b) = fresh_virtual_block b.size b.granularity
cleared (dedicated b) = dedicated (empty_dedicated b.size)

-- what is counted of the block
abbrev pub counts_of : Block → VirtualStatistics
counts_of b = record {
  size = size_of b;
  pieces = (statistics_of b).pieces;
  piece_bytes = (statistics_of b).piece_bytes;
  gaps = (statistics_of b).gaps;
  longest_gap = (statistics_of b).longest_gap;
}
