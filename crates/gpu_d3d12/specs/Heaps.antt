-- The heaps of a memory type's blocks.
use Rattle.std.specs.Prelude.{ℕ, Bool, true, false, not}
use Rattle.gpu_values.specs.declared.memory_location.MemoryLocation.{MemoryLocation}
use Rattle.gpu_values.specs.declared.memory_location.MemoryLocation.TheVariants as locations
use Rattle.gpu_device.specs.declared.d3d12.types.HeapType.{HeapType}
use Rattle.gpu_device.specs.declared.d3d12.types.HeapType.TheVariants.{Default, Upload, Readback, Custom}
use Rattle.gpu_device.specs.declared.d3d12.types.CpuPageProperty.{CpuPageProperty}
use Rattle.gpu_device.specs.declared.d3d12.types.CpuPageProperty.TheVariants as pages
use Rattle.gpu_device.specs.declared.d3d12.types.MemoryPool.{MemoryPool}
use Rattle.gpu_device.specs.declared.d3d12.types.MemoryPool.TheVariants as pools
use Rattle.gpu_device.specs.declared.d3d12.types.HeapProperties.{HeapProperties}
use Rattle.gpu_device.specs.declared.d3d12.types.HeapDesc.{HeapDesc}
use Rattle.gpu_d3d12.specs.declared.memory_kind.MemoryKind.{MemoryKind}

-- on a system with one GPU
abbrev pub properties_with : HeapType → CpuPageProperty → MemoryPool → HeapProperties
properties_with heap_type page pool = record {
  heap_type = heap_type;
  cpu_page_property = page;
  memory_pool_preference = pool;
  creation_node_mask = 0;
  visible_node_mask = 0;
}

-- where heaps of a location lie: the GPU's own memory, or the system's, with writes gathered for uploads and cached for readback
abbrev pub heap_properties : MemoryLocation → HeapProperties
heap_properties locations.Unknown = properties_with Default pages.Unknown pools.Unknown
heap_properties locations.GpuOnly = properties_with Default pages.Unknown pools.Unknown
heap_properties locations.CpuToGpu = properties_with Custom pages.WriteCombine pools.L0
heap_properties locations.GpuToCpu = properties_with Custom pages.WriteBack pools.L0

abbrev pub is_default : HeapType → Bool
is_default Default = true
is_default Upload = false
is_default Readback = false
is_default Custom = false

-- blocks have the sizes of memory that the host can see, where their heap's type isn't the default
abbrev pub is_host : MemoryKind → Bool
is_host k = not (is_default (heap_properties k.location).heap_type)

-- the heap that is asked for a block; textures with several samples may lie in it (`D3D12_DEFAULT_MSAA_RESOURCE_PLACEMENT_ALIGNMENT`)
abbrev pub heap_desc : MemoryKind → (size : ℕ) → HeapDesc
heap_desc k size = record { size = size; properties = heap_properties k.location; alignment = 4194304; content = k.content }
