-- Which allocations are live: heaps are compared by their numbers.
use Rattle.gpu_device.specs.declared.d3d12.types.ID3D12Heap.{ID3D12Heap}
use Rattle.gpu_pool.specs.Allocation as pool
use Rattle.gpu_pool.specs.declared.allocation.Allocation as owned
use Rattle.gpu_d3d12.specs.Blocks.{Slots, is_same_heap}

-- a piece of a heap, as its owner holds it
abbrev pub Allocation : Type 0
Allocation = owned.Allocation ID3D12Heap

-- the allocator has a record with the allocation's type, slot, number, offset, size and heap
abbrev pub IsLive : Slots → Allocation → Type 0
IsLive = pool.IsLive is_same_heap
