-- The live pieces of a block in order of offset, and the gaps before, between and behind them.
use Rattle.std.specs.Prelude.{ℕ, ◌+◌, ◌-◌, ◌^◌, ◌<◌, ◌≤◌, List, [], ◌∷◌, ◌++◌, max, nat_lt, if◌then◌else◌, All}
use Rattle.gpu_block_chunks.specs.declared.chunk.Chunk.{Chunk}
use Rattle.gpu_block_chunks.specs.ChunkList.{Covers}
use Rattle.gpu_block_pieces.specs.FreeList.{Extent}
use Rattle.gpu_block_pieces.specs.Chunks.{IsChunk}

-- the extents lie in [from, to) one behind another, each with its offset in it
abbrev pub LieBetween : ℕ → List Extent → ℕ → Type 0
LieBetween from [] to = from ≤ to
LieBetween from (x ∷ xs) to = (from ≤ x.start) × (x.start ≤ x.offset) × (x.offset < x.end) × LieBetween x.end xs to

-- the gap from one place to another, where it isn't empty
abbrev pub gap_between : ℕ → ℕ → List (ℕ × ℕ)
gap_between start end = if nat_lt start end then (start, end) ∷ [] else []

-- the gaps in [from, to) before, between and behind the extents, each with its start and its end
abbrev pub gaps_between : ℕ → List Extent → ℕ → List (ℕ × ℕ)
gaps_between from [] to = gap_between from to
gaps_between from (x ∷ xs) to = gap_between from x.start ++ gaps_between x.end xs to

-- the length of the longest gap, 0 where there is none
abbrev pub longest : List (ℕ × ℕ) → ℕ
longest [] = 0
longest (g ∷ gaps) = max (g.1 - g.0) (longest gaps)

-- ---- what a walk along a block's chunks knows of them

-- the chunk ends below 2^64, and its offset lies in it
abbrev pub IsPlaced : Chunk → Type 0
IsPlaced c = (c.start ≤ c.offset) × (c.offset < c.start + c.size) × (c.start + c.size < 2 ^ 64)

-- the chunks are a run of a block's
pub record IsRun (cs : List Chunk) : Type 0 where
  pub from : ℕ
  pub to : ℕ
  pub counter : ℕ
  pub bounded : to < 2 ^ 64
  pub covers : Covers cs from to
  pub each : All (IsChunk counter) cs
