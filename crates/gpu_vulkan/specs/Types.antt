-- The memory types that a device tells of.
use Rattle.std.specs.Prelude.{ℕ, Bool, false, List, slice_get, map, Option, Some, None}
use Rattle.gpu_device.specs.Properties.{Properties}
use Rattle.gpu_device.specs.declared.vulkan.types.MemoryHeap.{MemoryHeap}
use Rattle.gpu_device.specs.declared.vulkan.types.MemoryTypeInfo.{MemoryTypeInfo}
use Rattle.gpu_vulkan.specs.Choice.{has_flags}

abbrev pub is_host_visible : MemoryTypeInfo → Bool
is_host_visible info = has_flags info 2

abbrev pub mapped_by : Option MemoryTypeInfo → Bool
mapped_by None = false
mapped_by (Some info) = is_host_visible info

-- blocks of the t-th memory type are mapped: the host can see its memory
abbrev pub is_mapped : Properties → (t : ℕ) → Bool
is_mapped p t = mapped_by (slice_get p.types t)

-- of each type, whether the host can map it, and its page size
abbrev pub kinds_of_device : Properties → List (Bool × ℕ)
kinds_of_device p = map (λ info. (is_host_visible info, p.granularity)) p.types

-- ---- heaps

abbrev pub size_in : Option MemoryHeap → ℕ
size_in None = 0
size_in (Some heap) = heap.size

abbrev pub heap_of : Properties → Option MemoryTypeInfo → ℕ
heap_of p None = 0
heap_of p (Some info) = size_in (slice_get p.heaps info.heap_index)

-- the size of the heap that memory of the t-th type lies in
abbrev pub heap_size : Properties → (t : ℕ) → ℕ
heap_size p t = heap_of p (slice_get p.types t)
