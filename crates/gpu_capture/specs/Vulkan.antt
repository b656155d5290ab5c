-- The words of a Vulkan trace.
use Rattle.std.specs.Prelude.{ℕ, List, [], ◌∷◌, ◌++◌, Bool, true, false, codes}
use Rattle.std.specs.Fmt.{decimal}
use Rattle.gpu_values.specs.declared.memory_location.MemoryLocation.{MemoryLocation}
use Rattle.gpu_device.specs.declared.vulkan.types.AllocationScheme.{AllocationScheme}
use Rattle.gpu_device.specs.declared.vulkan.types.AllocationScheme.TheVariants.{DedicatedBuffer, DedicatedImage, GpuAllocatorManaged}
use Rattle.gpu_device.specs.declared.vulkan.types.MemoryRequirements.{MemoryRequirements}
use Rattle.gpu_capture.specs.Words.{location_word}

abbrev pub linear_word : Bool → List ℕ
linear_word true = codes "linear"
linear_word false = codes "nonlinear"

abbrev pub scheme_word : AllocationScheme → List ℕ
scheme_word GpuAllocatorManaged = codes "managed"
scheme_word (DedicatedBuffer b) = codes "buffer:" ++ decimal b.0
scheme_word (DedicatedImage i) = codes "image:" ++ decimal i.0

-- a request's words, behind the numbers that it is asked under
abbrev pub vulkan_words : MemoryRequirements → MemoryLocation → (is_linear : Bool) → AllocationScheme → (name : List ℕ) → List (List ℕ)
vulkan_words needs location is_linear scheme name =
    decimal needs.size ∷ decimal needs.alignment ∷ decimal needs.memory_type_bits ∷ location_word location ∷ linear_word is_linear
    ∷ scheme_word scheme ∷ name ∷ []

abbrev pub heap_words : (size : ℕ) → List (List ℕ)
heap_words size = codes "heap" ∷ decimal size ∷ []

abbrev pub type_words : (flags heap : ℕ) → List (List ℕ)
type_words flags heap = codes "type" ∷ decimal flags ∷ decimal heap ∷ []

abbrev pub granularity_words : (bytes : ℕ) → List (List ℕ)
granularity_words bytes = codes "granularity" ∷ decimal bytes ∷ []
