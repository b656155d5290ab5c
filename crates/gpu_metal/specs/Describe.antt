-- What descriptions of allocations ask the device and a memory type.
use Rattle.std.specs.Prelude.{◌≡◌, pos, codes, Some}
use Rattle.gpu_block_pieces.specs.Request.{Request}
use Rattle.gpu_device.specs.declared.metal.types.StorageMode.{StorageMode}
use Rattle.gpu_device.specs.declared.metal.types.StorageMode.TheVariants.{Shared, Managed, Private, Memoryless, Other}
use Rattle.gpu_values.specs.Refusal.{Refusal, internal}
use Rattle.gpu_values.specs.declared.allocation_type.AllocationType.TheVariants.{Linear}
use Rattle.gpu_values.specs.declared.memory_location.MemoryLocation.{MemoryLocation}
use Rattle.gpu_values.specs.declared.memory_location.MemoryLocation.TheVariants.{Unknown, GpuOnly, CpuToGpu, GpuToCpu}
use Rattle.gpu_metal.specs.declared.describe.AllocationCreateDesc.{AllocationCreateDesc}

-- the storage mode by which a buffer's size is asked: the GPU's own memory for the GPU alone, else shared memory
abbrev pub buffer_storage_mode : MemoryLocation → StorageMode
buffer_storage_mode GpuOnly = Private
buffer_storage_mode CpuToGpu = Shared
buffer_storage_mode GpuToCpu = Shared
buffer_storage_mode Unknown = Shared

-- where a texture of this storage mode is allocated
abbrev pub IsTextureLocation : StorageMode → MemoryLocation → Type 0
IsTextureLocation Private location = location ≡ GpuOnly
IsTextureLocation Shared location = location ≡ Unknown
IsTextureLocation Managed location = location ≡ Unknown
IsTextureLocation Memoryless location = location ≡ Unknown
IsTextureLocation (Other mode) location = ⊥

-- the storage mode has no name, and the refusal tells its value
abbrev pub IsUnknownMode : StorageMode → Refusal → Type 0
IsUnknownMode Private refusal = ⊥
IsUnknownMode Shared refusal = ⊥
IsUnknownMode Managed refusal = ⊥
IsUnknownMode Memoryless refusal = ⊥
IsUnknownMode (Other mode) refusal = refusal ≡ internal (codes "Unknown storage mode") (Some (pos mode))

-- what a block sees of the description
abbrev pub request_of : AllocationCreateDesc → Request
request_of d = record { size = d.size; alignment = d.alignment; kind = Linear; name = d.name.now }
