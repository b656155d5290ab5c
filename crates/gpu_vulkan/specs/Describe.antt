-- What a description of an allocation asks of a memory type.
use Rattle.std.specs.Prelude.{Bool, true, false, if◌then◌else◌}
use Rattle.gpu_block_pieces.specs.Request.{Request}
use Rattle.gpu_values.specs.declared.allocation_type.AllocationType.{AllocationType}
use Rattle.gpu_values.specs.declared.allocation_type.AllocationType.TheVariants.{Linear, NonLinear}
use Rattle.gpu_device.specs.declared.vulkan.types.AllocationScheme.{AllocationScheme}
use Rattle.gpu_device.specs.declared.vulkan.types.AllocationScheme.TheVariants.{DedicatedBuffer, DedicatedImage, GpuAllocatorManaged}
use Rattle.gpu_vulkan.specs.declared.describe.AllocationCreateDesc.{AllocationCreateDesc}

abbrev pub kind_of : (linear : Bool) → AllocationType
kind_of linear = if linear then Linear else NonLinear

-- the scheme asks for memory of the allocation's own
abbrev pub requests_dedicated : AllocationScheme → Bool
requests_dedicated (DedicatedBuffer _) = true
requests_dedicated (DedicatedImage _) = true
requests_dedicated GpuAllocatorManaged = false

-- what a block sees of the description
abbrev pub request_of : AllocationCreateDesc → Request
request_of d = record { size = d.requirements.size; alignment = d.requirements.alignment; kind = kind_of d.linear; name = d.name.now }
