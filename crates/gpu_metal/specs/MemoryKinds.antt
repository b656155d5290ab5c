-- The memory types of a device, which of them serves a location, and what their heaps are.
use Rattle.std.specs.Prelude.{◌≡◌, ◌<◌, ◌⊎◌, ℕ, Bool, true, false, not, List, [], ◌∷◌, slice_get, Some, IsSomeAnd, codes}
use Rattle.gpu_device.specs.declared.metal.types.CpuCacheMode.{CpuCacheMode}
use Rattle.gpu_device.specs.declared.metal.types.CpuCacheMode.TheVariants.{DefaultCache, WriteCombined}
use Rattle.gpu_device.specs.declared.metal.types.HeapDescriptor.{HeapDescriptor}
use Rattle.gpu_device.specs.declared.metal.types.StorageMode.{StorageMode}
use Rattle.gpu_device.specs.declared.metal.types.StorageMode.TheVariants.{Shared, Managed, Private, Memoryless, Other}
use Rattle.gpu_values.specs.declared.memory_location.MemoryLocation.{MemoryLocation}
use Rattle.gpu_values.specs.declared.memory_location.MemoryLocation.TheVariants.{Unknown, GpuOnly, CpuToGpu, GpuToCpu}

-- the locations that have memory types, in order
abbrev pub locations : List MemoryLocation
locations = GpuOnly ∷ CpuToGpu ∷ GpuToCpu ∷ []

-- ---- which serves

-- a memory type serves its own location, and any serves an unknown one
abbrev pub LocationServes : (asked location : MemoryLocation) → Type 0
LocationServes asked location = (asked ≡ Unknown) ⊎ (location ≡ asked)

-- the memory type at the index serves, and none before it does
pub record IsFirstServing (asked : MemoryLocation) (index : ℕ) : Type 0 where
  pub serves : IsSomeAnd (slice_get locations index) (λ location. LocationServes asked location)
  pub first : (i : ℕ) (location : MemoryLocation) → i < index → slice_get locations i ≡ Some location → LocationServes asked location → ⊥

-- ---- what their heaps are

abbrev pub heap_of : StorageMode → CpuCacheMode → HeapDescriptor
heap_of storage_mode cache_mode = record { storage_mode = storage_mode; cpu_cache_mode = cache_mode }

-- the heaps of a location: the GPU's own memory, or memory shared with the CPU, where writes are gathered for uploads and cached for reading back
abbrev pub heap_descriptor : MemoryLocation → HeapDescriptor
heap_descriptor Unknown = heap_of Private DefaultCache
heap_descriptor GpuOnly = heap_of Private DefaultCache
heap_descriptor CpuToGpu = heap_of Shared WriteCombined
heap_descriptor GpuToCpu = heap_of Shared DefaultCache

abbrev pub heap_label : MemoryLocation → List ℕ
heap_label Unknown = codes "MemoryBlock Unknown"
heap_label GpuOnly = codes "MemoryBlock GpuOnly"
heap_label CpuToGpu = codes "MemoryBlock CpuToGpu"
heap_label GpuToCpu = codes "MemoryBlock GpuToCpu"

abbrev pub is_private : StorageMode → Bool
is_private Private = true
is_private Shared = false
is_private Managed = false
is_private Memoryless = false
is_private (Other mode) = false

-- blocks have the sizes of memory that the host can see, where their heap isn't private
abbrev pub is_host : MemoryLocation → Bool
is_host location = not (is_private (heap_descriptor location).storage_mode)
