-- What holds of all live allocations: each lies inside its block, and no two share a byte.
use Rattle.std.specs.Prelude.{◌≢◌, ◌⊎◌, ◌+◌, ◌≤◌}
use Rattle.gpu_core.specs.Apart as pieces
use Rattle.gpu_d3d12.specs.Blocks.{Slots}
use Rattle.gpu_pool.specs.Allocation.{piece_of}
use Rattle.gpu_d3d12.specs.Live.{Allocation}

-- the allocation ends inside its block
abbrev pub IsInside : Slots → Allocation → Type 0
IsInside slots a = pieces.IsInside slots a.memory_type_index (piece_of a)

-- two allocations lie in different heaps, or one ends before the other begins
abbrev pub SharesNoByte : Allocation → Allocation → Type 0
SharesNoByte a b = (a.heap.0 ≢ b.heap.0) ⊎ ((a.offset + a.size ≤ b.offset) ⊎ (b.offset + b.size ≤ a.offset))
