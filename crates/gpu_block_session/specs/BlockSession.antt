-- A block whose pieces are bound to numbers of the caller's, and what may be answered.
use Rattle.std.specs.Prelude.{◌≡◌, ◌≢◌, ℕ, ◌<◌, List, [], Option, Some, None, IsTrue, Contains, map, true, string_bytes}
use Rattle.std.specs.Ordering.{nat_cmp}
use Rattle.std.specs.Int.{is_power_of_two}
use Rattle.std.specs.Int.NonZero.{non_zero_u64_get}
use Rattle.std.specs.declared.num.NonZeroU64.{NonZeroU64}
use Rattle.std.specs.BTreeMap.{insert_entry, is_at}
use Rattle.std.specs.Map.{lookup, remove_entry}
use Rattle.gpu_values.specs.declared.error.AllocationError.TheVariants.{OutOfMemory}
use Rattle.gpu_block_pieces.specs.FreeList.{Extent, fresh_free_list}
use Rattle.gpu_block_pieces.specs.Request.{Request, request}
use Rattle.gpu_block.specs.Block.{Block, free_list, extents_of, size_of, allocated_bytes, is_shared, TakesIn, ReleasesIn, IsAllocateRefusalIn, IsSoundBlock}
use Rattle.gpu_values.specs.Report.{row_of}
use Rattle.gpu_block_pieces.specs.Rows.{extent_row}
use Rattle.gpu_block_session.specs.BlockCommand.{type_of_kind}
use Rattle.gpu_block_session.specs.declared.block.command.Command.{Command}
use Rattle.gpu_block_session.specs.declared.block.command.Command.TheVariants as commands
use Rattle.gpu_block_session.specs.declared.block.reply.Report.{Report}
use Rattle.gpu_block_session.specs.declared.error_number.ErrorNumber.{ErrorNumber}
use Rattle.gpu_block_session.specs.declared.error_number.ErrorNumber.TheVariants.{E1, E2, E3, E4, E5, E6, E7, E8, E9, E10, E11}
use Rattle.gpu_block_session.specs.declared.block.reply.Reply.{Reply}
use Rattle.gpu_block_session.specs.declared.block.reply.Reply.TheVariants as replies

-- the block, and the numbers of its pieces by the caller's numbers, in the order of these
pub record State : Type 0 where
  pub block : Block
  pub bound : List (ℕ × NonZeroU64)

-- a block without pieces
abbrev pub unused : ℕ → ℕ → State
unused size granularity = record { block = free_list (fresh_free_list size granularity 2); bound = [] }

-- the piece that a number of the caller's stands for
abbrev pub piece_at : State → ℕ → Option NonZeroU64
piece_at s key = lookup (is_at (nat_cmp key)) s.bound

-- a live piece of the block is so
abbrev pub SomePiece : State → (Extent → Type 0) → Type 0
SomePiece s P = (x : Extent) × Contains (extents_of s.block) x × P x

-- each bound number is a live piece's, and no two of the caller's numbers stand for one piece
pub record OwnsPieces (s : State) : Type 0 where
  pub shared : is_shared s.block ≡ true
  pub sound : IsSoundBlock s.block
  pub live : (key : ℕ) (n : NonZeroU64) → piece_at s key ≡ Some n → SomePiece s (λ x. x.chunk_id ≡ non_zero_u64_get n)
  pub apart : (j k : ℕ) (n m : NonZeroU64) → piece_at s j ≡ Some n → piece_at s k ≡ Some m → non_zero_u64_get n ≡ non_zero_u64_get m → j ≡ k

-- what may be asked of a block
abbrev pub IsValid : Request → Type 0
IsValid r = (0 < r.size) × IsTrue (is_power_of_two r.alignment)

-- which errors a request may meet
abbrev pub RefusesAllocate : Block → Request → ErrorNumber → Type 0
RefusesAllocate b r E1 = IsValid r × IsAllocateRefusalIn b r OutOfMemory
RefusesAllocate b r E4 = IsValid r → ⊥
RefusesAllocate b r E10 = IsValid r
RefusesAllocate b r E2 = ⊥
RefusesAllocate b r E3 = ⊥
RefusesAllocate b r E5 = ⊥
RefusesAllocate b r E6 = ⊥
RefusesAllocate b r E7 = ⊥
RefusesAllocate b r E8 = ⊥
RefusesAllocate b r E9 = ⊥
RefusesAllocate b r E11 = ⊥

-- a request under a number of the caller's, its reply, and the state that it leaves
abbrev pub Allocating : State → ℕ → Request → Reply → State → Type 0
Allocating old key r replies.Busy new = (piece_at old key ≢ None) × (new ≡ old)
Allocating old key r (replies.Allocated offset chunk) new = (piece_at old key ≡ None) × IsValid r
    × TakesIn old.block r offset (non_zero_u64_get chunk) new.block × (new.bound ≡ insert_entry nat_cmp old.bound key chunk)
Allocating old key r (replies.Refused number) new = (piece_at old key ≡ None) × RefusesAllocate old.block r number × (new ≡ old)
Allocating old key r (replies.Block size) new = ⊥
Allocating old key r replies.Freed new = ⊥
Allocating old key r replies.Unbound new = ⊥
Allocating old key r (replies.Report report) new = ⊥

-- a piece is given back, if the number stands for one
abbrev pub Freeing : State → ℕ → Reply → State → Type 0
Freeing old key replies.Freed new = (chunk : NonZeroU64) × (piece_at old key ≡ Some chunk)
    × ReleasesIn old.block (non_zero_u64_get chunk) new.block × (new.bound ≡ remove_entry (is_at (nat_cmp key)) old.bound)
Freeing old key replies.Unbound new = (piece_at old key ≡ None) × (new ≡ old)
Freeing old key (replies.Allocated offset chunk) new = ⊥
Freeing old key (replies.Refused number) new = ⊥
Freeing old key (replies.Block size) new = ⊥
Freeing old key replies.Busy new = ⊥
Freeing old key (replies.Report report) new = ⊥

-- the live pieces by offset, the bytes that they take with their padding, and the size of the block
pub record Shows (s : State) (r : Report) : Type 0 where
  pub pieces : map row_of r.pieces.items ≡ map extent_row (extents_of s.block)
  pub total : r.total ≡ allocated_bytes s.block
  pub capacity : r.capacity ≡ size_of s.block

-- a report changes nothing; host memory for it may be refused
abbrev pub Reporting : State → Reply → Type 0
Reporting s (replies.Report report) = Shows s report
Reporting s (replies.Refused number) = number ≡ E10
Reporting s (replies.Allocated offset chunk) = ⊥
Reporting s (replies.Block size) = ⊥
Reporting s replies.Freed = ⊥
Reporting s replies.Busy = ⊥
Reporting s replies.Unbound = ⊥

-- a command, its reply, and the state that it leaves; the block is there already
abbrev pub SessionServes : State → Command → Reply → State → Type 0
SessionServes old (commands.Block side min max count granularity) reply new = (reply ≡ replies.Busy) × (new ≡ old)
SessionServes old (commands.Allocate key size alignment kind name) reply new = Allocating old key (request size alignment (type_of_kind kind) (string_bytes name)) reply new
SessionServes old (commands.Free key) reply new = Freeing old key reply new
SessionServes old commands.Report reply new = Reporting old reply × (new ≡ old)
