-- What holds of all live allocations: each lies inside its block, no two share a byte, and kinds keep to pages of their own.
use Rattle.std.specs.Prelude.{◌≡◌, ◌≢◌, ◌⊎◌, ℕ, ◌+◌, ◌-◌, ◌<◌, ◌≤◌, Contains}
use Rattle.gpu_block_pieces.specs.FreeList.{Extent}
use Rattle.gpu_block_pieces.specs.Place.{page}
use Rattle.gpu_values.specs.declared.allocation_type.AllocationType.{AllocationType}
use Rattle.gpu_vulkan.specs.Blocks.{Slots}
use Rattle.gpu_core.specs.Apart.{EndsInside, pieces_in}
use Rattle.gpu_core.specs.Blocks.{block_at}
use Rattle.gpu_vulkan.specs.Lends.{number_in}
use Rattle.gpu_vulkan.specs.declared.allocation.Allocation.{Allocation}

-- the allocation ends inside its block
abbrev pub IsInside : Slots → Allocation → Type 0
IsInside slots a = EndsInside (block_at slots a.memory_type_index a.memory_block_index) (a.offset + a.size)

-- two allocations lie in different memory, or one ends before the other begins
abbrev pub SharesNoByte : Allocation → Allocation → Type 0
SharesNoByte a b = (a.device_memory.0 ≢ b.device_memory.0) ⊎ ((a.offset + a.size ≤ b.offset) ⊎ (b.offset + b.size ≤ a.offset))

-- the allocation's piece is of the kind
abbrev pub HasKind : Slots → Allocation → AllocationType → Type 0
HasKind slots a kind =
    (x : Extent) × Contains (pieces_in (block_at slots a.memory_type_index a.memory_block_index)) x × (x.chunk_id ≡ number_in a.chunk_id) × (x.kind ≡ kind)

-- of two allocations of different kinds in one block, the earlier one's last byte lies on a page before that of the later one's first
abbrev pub KeepsPages : (granularity : ℕ) → Slots → Allocation → Allocation → Type 0
KeepsPages granularity slots a b =
    a.memory_type_index ≡ b.memory_type_index → a.memory_block_index ≡ b.memory_block_index → (j k : AllocationType) → HasKind slots a j → HasKind slots b k → j ≢ k
    → a.offset + a.size ≤ b.offset → page granularity (a.offset + a.size - 1) < page granularity b.offset
