-- Which memory type serves a location.
use Rattle.std.specs.Prelude.{ℕ, suc, ◌==◌, ◌&&◌, Bool, if◌then◌else◌, List, [], ◌∷◌, Option, Some, None}
use Rattle.std.specs.Int.{bit_at}
use Rattle.std.specs.Int.RustNames.{bit_and}
use Rattle.gpu_values.specs.declared.memory_location.MemoryLocation.{MemoryLocation}
use Rattle.gpu_values.specs.declared.memory_location.MemoryLocation.TheVariants.{Unknown, GpuOnly, CpuToGpu, GpuToCpu}
use Rattle.gpu_device.specs.declared.vulkan.types.MemoryTypeInfo.{MemoryTypeInfo}

-- the flags of a memory type: 1 is DEVICE_LOCAL, 2 HOST_VISIBLE, 4 HOST_COHERENT, 8 HOST_CACHED

-- all of what a location would best have
abbrev pub preferred : MemoryLocation → ℕ
preferred Unknown = 0
preferred GpuOnly = 1
preferred CpuToGpu = 7
preferred GpuToCpu = 14

-- what it must have
abbrev pub required : MemoryLocation → ℕ
required Unknown = 0
required GpuOnly = 1
required CpuToGpu = 6
required GpuToCpu = 6

-- the memory type has all the flags
abbrev pub has_flags : MemoryTypeInfo → ℕ → Bool
has_flags info flags = bit_and info.property_flags.0 flags == flags

-- the memory type's bit is set, and it has all the flags
abbrev pub serves : (bits flags index : ℕ) → MemoryTypeInfo → Bool
serves bits flags index info = (bit_at bits index == 1) && has_flags info flags

-- the first memory type that serves, counted from `index`
abbrev pub first_from : (bits flags index : ℕ) → List MemoryTypeInfo → Option ℕ
first_from bits flags index [] = None
first_from bits flags index (info ∷ more) =
    if serves bits flags index info then Some index else first_from bits flags (suc index) more

abbrev pub first_type : List MemoryTypeInfo → (bits flags : ℕ) → Option ℕ
first_type types bits flags = first_from bits flags 0 types

abbrev pub or_else : Option ℕ → Option ℕ → Option ℕ
or_else None other = other
or_else (Some index) other = Some index

-- the first with all that the location prefers, else the first with all that it must have
abbrev pub best_type : List MemoryTypeInfo → (bits : ℕ) → MemoryLocation → Option ℕ
best_type types bits location = or_else (first_type types bits (preferred location)) (first_type types bits (required location))
