-- Which allocations are live: heaps are compared by their numbers.
use Rattle.gpu_device.specs.declared.metal.types.MTLHeap.{MTLHeap}
use Rattle.gpu_pool.specs.Allocation as pool
use Rattle.gpu_pool.specs.declared.allocation.Allocation as owned
use Rattle.gpu_metal.specs.Blocks.{Slots, is_same_heap}

-- a piece of a heap, as its owner holds it
abbrev pub Allocation : Type 0
Allocation = owned.Allocation MTLHeap

-- the allocator has a record with the allocation's type, slot, number, offset, size and heap
abbrev pub IsLive : Slots → Allocation → Type 0
IsLive = pool.IsLive is_same_heap
