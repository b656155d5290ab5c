-- A block that is one piece's own.
use Rattle.std.specs.Prelude.{◌≡◌, ◌≢◌, ◌⊎◌, ℕ, List, Option, Some, None, IfSome, IsSome, IsSomeAnd, codes}
use Rattle.std.specs.Option.{option_map, option_to_list}
use Rattle.std.specs.Int.NonZero.{non_zero_u64_get}
use Rattle.std.specs.declared.num.NonZeroU64.{NonZeroU64}
use Rattle.gpu_block_pieces.specs.FreeList.{Extent}
use Rattle.gpu_block_pieces.specs.Request.{Request}
use Rattle.gpu_block_pieces.specs.Changes.{Said, named, worded, relabel}
use Rattle.gpu_values.specs.Refusal.{Refusal, internal, out_of_memory, host_out_of_memory}

-- its size in bytes, and the piece that it holds, if any
pub record Dedicated : Type 0 where
  pub size : ℕ
  pub piece : Option Extent

-- without a piece
abbrev pub empty_dedicated : ℕ → Dedicated
empty_dedicated size = record { size = size; piece = None }

-- the piece as a list of one, or of none
abbrev pub held_extents : Dedicated → List Extent
held_extents b = option_to_list b.piece

-- the piece is the whole block, with number 1
abbrev pub whole_extent : Request → Extent
whole_extent r = record { start = 0; offset = 0; end = r.size; kind = r.kind; chunk_id = 1; name = r.name; word = 0 }

-- a piece is the whole block
abbrev pub IsWhole : Dedicated → Type 0
IsWhole b = IfSome b.piece (λ x. (x.start ≡ 0) × (x.offset ≡ 0) × (x.end ≡ b.size) × (x.chunk_id ≡ 1))

-- the request took the block, which was empty and of its size
abbrev pub DedicatedTakes : Dedicated → Request → (offset chunk_id : ℕ) → Dedicated → Type 0
DedicatedTakes old r offset chunk_id new =
    (old.piece ≡ None) × (r.size ≡ old.size) × (offset ≡ 0) × (chunk_id ≡ 1) × (new ≡ record { size = old.size; piece = Some (whole_extent r) })

-- why a take is refused: the block is taken, or it is of another size, or the host's memory was refused
abbrev pub IsDedicatedAllocateRefusal : Dedicated → Request → Refusal → Type 0
IsDedicatedAllocateRefusal b r refusal =
    (IsSome b.piece × (refusal ≡ out_of_memory))
    ⊎ (((b.piece ≡ None) × (r.size ≢ b.size) × (refusal ≡ internal (codes "DedicatedBlockAllocator size must match allocation size.") None))
    ⊎ ((b.piece ≡ None) × (r.size ≡ b.size) × (refusal ≡ host_out_of_memory)))

-- the piece went
abbrev pub DedicatedReleases : Dedicated → ℕ → Dedicated → Type 0
DedicatedReleases old chunk_id new = IsSome old.piece × (chunk_id ≡ 1) × (new ≡ empty_dedicated old.size)

-- the piece has another name or word
abbrev pub DedicatedRelabels : Dedicated → ℕ → Said → Dedicated → Type 0
DedicatedRelabels old chunk_id said new =
    IsSome old.piece × (chunk_id ≡ 1) × (new ≡ record old { piece = option_map (relabel said) old.piece })

abbrev pub DedicatedRenames : Dedicated → ℕ → List ℕ → Dedicated → Type 0
DedicatedRenames old chunk_id name new = DedicatedRelabels old chunk_id (named name) new

abbrev pub DedicatedSetsWord : Dedicated → (chunk_id word : ℕ) → Dedicated → Type 0
DedicatedSetsWord old chunk_id word new = DedicatedRelabels old chunk_id (worded word) new

-- why a number names no piece of the block: it is missing or not 1, or else nothing is held, which `freed` says
abbrev pub IsNotHeld : Dedicated → Option NonZeroU64 → List ℕ → Refusal → Type 0
IsNotHeld b None freed refusal = refusal ≡ internal (codes "Chunk ID must be 1.") None
IsNotHeld b (Some n) freed refusal =
    ((non_zero_u64_get n ≢ 1) × (refusal ≡ internal (codes "Chunk ID must be 1.") None))
    ⊎ ((non_zero_u64_get n ≡ 1) × (b.piece ≡ None) × (refusal ≡ internal freed None))

-- why a release is refused
abbrev pub IsDedicatedReleaseRefusal : Dedicated → Option NonZeroU64 → Refusal → Type 0
IsDedicatedReleaseRefusal b id refusal = IsNotHeld b id (codes "Attempting to free a freed allocation.") refusal

-- a new name or word is refused so; a name also for lack of host memory, where the number is the piece's
abbrev pub IsDedicatedRenameRefusal : Dedicated → Option NonZeroU64 → Refusal → Type 0
IsDedicatedRenameRefusal b id refusal =
    IsNotHeld b id (codes "Attempting to rename a freed allocation.") refusal
    ⊎ (IsSome b.piece × IsSomeAnd id (λ n. non_zero_u64_get n ≡ 1) × (refusal ≡ host_out_of_memory))
