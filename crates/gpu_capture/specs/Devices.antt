-- The lines in front of `new`.
use Rattle.std.specs.Prelude.{ℕ, List, [], ◌∷◌, ◌++◌, Bool, codes}
use Rattle.std.specs.List.{flat_map}
use Rattle.gpu_device.specs.declared.d3d12.types.ResourceHeapTier.{ResourceHeapTier}
use Rattle.gpu_device.specs.declared.vulkan.types.MemoryTypeInfo.{MemoryTypeInfo}
use Rattle.gpu_capture.specs.declared.device.BlockSizes.{BlockSizes}
use Rattle.gpu_capture.specs.declared.device.VulkanDevice.{VulkanDevice}
use Rattle.gpu_capture.specs.Line.{line_of}
use Rattle.gpu_capture.specs.Words.{sizes_words}
use Rattle.gpu_capture.specs.Vulkan.{heap_words, type_words, granularity_words}
use Rattle.gpu_capture.specs.D3D12.{tier_words}
use Rattle.gpu_capture.specs.Metal.{residency_words}

abbrev pub sizes_line : BlockSizes → List ℕ
sizes_line s = line_of (sizes_words s.device s.host s.max_device s.max_host)

abbrev pub heap_line : (size : ℕ) → List ℕ
heap_line size = line_of (heap_words size)

abbrev pub type_line : MemoryTypeInfo → List ℕ
type_line t = line_of (type_words t.property_flags.0 t.heap_index)

-- heaps and memory types in their order
abbrev pub vulkan_lines : VulkanDevice → BlockSizes → List ℕ
vulkan_lines d sizes = flat_map heap_line d.heaps.now ++ (flat_map type_line d.types.now ++ (line_of (granularity_words d.granularity) ++ sizes_line sizes))

abbrev pub d3d12_lines : ResourceHeapTier → BlockSizes → List ℕ
d3d12_lines tier sizes = line_of (codes "d3d12" ∷ []) ++ (line_of (tier_words tier) ++ sizes_line sizes)

abbrev pub metal_lines : (has_set : Bool) → BlockSizes → List ℕ
metal_lines has_set sizes = line_of (codes "metal" ∷ []) ++ (line_of (residency_words has_set) ++ sizes_line sizes)
