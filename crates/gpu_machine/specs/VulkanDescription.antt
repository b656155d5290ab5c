-- A request that outlives its call.
use Rattle.std.specs.Prelude.{ℕ, ◌-◌, ◌^◌, Bool, List, ◌<◌, IsTrue}
use Rattle.std.specs.Int.{is_power_of_two}
use Rattle.gpu_values.specs.declared.memory_location.MemoryLocation.{MemoryLocation}
use Rattle.gpu_device.specs.declared.vulkan.types.AllocationScheme.{AllocationScheme}
use Rattle.gpu_device.specs.declared.vulkan.types.MemoryRequirements.{MemoryRequirements}
use Rattle.gpu_vulkan.specs.declared.describe.AllocationCreateDesc.{AllocationCreateDesc}

-- what a description says, wherever its name lies
pub record Description : Type 0 where
  pub name : List ℕ
  pub requirements : MemoryRequirements
  pub location : MemoryLocation
  pub linear : Bool
  pub scheme : AllocationScheme

abbrev pub description_of : AllocationCreateDesc → Description
description_of d = record { name = d.name.now; requirements = d.requirements; location = d.location; linear = d.linear; scheme = d.allocation_scheme }

-- the size isn't 0, and the alignment is a power of two
abbrev pub IsWellFormed : Description → Type 0
IsWellFormed k = (0 < k.requirements.size) × IsTrue (is_power_of_two k.requirements.alignment)

-- the same request without the t-th memory type, which is one of its bits
abbrev pub without : (t : ℕ) → Description → Description
without t k = record k { requirements = record k.requirements { memory_type_bits = k.requirements.memory_type_bits - 2 ^ t } }
