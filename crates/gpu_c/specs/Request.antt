-- What a caller may ask for.
use Rattle.std.specs.Prelude.{◌≡◌, ℕ, ◌<◌, ◌⊎◌, ◌==◌, if◌then◌else◌, List, Option, Some, None, IsTrue, IsUtf8}
use Rattle.std.specs.Int.{is_power_of_two}
use Rattle.gpu_values.specs.declared.allocation_type.AllocationType.{AllocationType}
use Rattle.gpu_values.specs.declared.allocation_type.AllocationType.TheVariants as kinds
use Rattle.gpu_values.specs.declared.memory_location.MemoryLocation.{MemoryLocation}
use Rattle.gpu_values.specs.declared.memory_location.MemoryLocation.TheVariants as locations

-- the numbers of the kinds: of buffers and linear images, and of images in the device's own layout
abbrev pub linear : ℕ
linear = 1

abbrev pub non_linear : ℕ
non_linear = 2

-- a request that an allocator serves, by its size and alignment in bytes, its kind and its name
pub record IsRequestServed (size alignment kind : ℕ) (name : List ℕ) : Type 0 where
  pub sized : 0 < size
  pub aligned : IsTrue (is_power_of_two alignment)
  pub named : (kind ≡ linear) ⊎ (kind ≡ non_linear)
  pub text : IsUtf8 name

-- the kind of that number
abbrev pub kind_named : ℕ → AllocationType
kind_named kind = if kind == linear then kinds.Linear else kinds.NonLinear

-- the location of that number
abbrev pub location_named : ℕ → Option MemoryLocation
location_named n =
    if n == 1 then Some locations.Unknown else
    (if n == 2 then Some locations.GpuOnly else
    (if n == 3 then Some locations.CpuToGpu else
    (if n == 4 then Some locations.GpuToCpu else None)))
