-- What a command of a device trace says that is no other API's. Each has one spelling: its words, with decimal numbers and no leading zeros.
use Rattle.std.specs.Prelude.{ℕ, ◌<◌, ◌≤◌, ◌^◌, List, [], ◌∷◌, length, codes, string_bytes}
use Rattle.std.specs.Fmt.{decimal}
use Rattle.gpu_capture.specs.Words.{rename_words}
use Rattle.gpu_capture.specs.Vulkan.{vulkan_words}
use Rattle.gpu_device.specs.declared.vulkan.types.AllocationScheme.{AllocationScheme}
use Rattle.gpu_device.specs.declared.vulkan.types.AllocationScheme.TheVariants.{DedicatedBuffer, DedicatedImage, GpuAllocatorManaged}
use Rattle.gpu_device.specs.declared.vulkan.types.MemoryRequirements.{MemoryRequirements}
use Rattle.gpu_run.specs.declared.vulkan.command.Other.{Other}
use Rattle.gpu_run.specs.declared.vulkan.command.Other.TheVariants.{Null, Rename, Write, Read, Leaks}
use Rattle.gpu_run.specs.declared.vulkan.command.Request.{Request}
use Rattle.gpu_trace_text.specs.Hex.{hex, AreBytes}
use Rattle.gpu_block_session.specs.Words.{IsName}

-- a request's words, behind the numbers that it is asked under
abbrev pub request_words : Request → List (List ℕ)
request_words r = vulkan_words r.requirements r.location r.linear r.scheme (string_bytes r.name)

abbrev pub words : Other → List (List ℕ)
words (Null key) = codes "null" ∷ decimal key ∷ []
words (Rename key name) = rename_words key (string_bytes name)
words (Write key at bytes) = codes "write" ∷ decimal key ∷ decimal at ∷ hex bytes.items ∷ []
words (Read key at size) = codes "read" ∷ decimal key ∷ decimal at ∷ decimal size ∷ []
words Leaks = codes "leaks" ∷ []

abbrev pub FitsScheme : AllocationScheme → Type 0
FitsScheme GpuAllocatorManaged = Unit {0}
FitsScheme (DedicatedBuffer b) = b.0 < 2 ^ 64
FitsScheme (DedicatedImage i) = i.0 < 2 ^ 64

pub record FitsRequirements (r : MemoryRequirements) : Type 0 where
  pub size_fits : r.size < 2 ^ 64
  pub alignment_fits : r.alignment < 2 ^ 64
  pub bits_fit : r.memory_type_bits < 2 ^ 32

-- what a request's numbers and name may be
pub record FitsRequest (r : Request) : Type 0 where
  pub requirements_fit : FitsRequirements r.requirements
  pub scheme_fits : FitsScheme r.scheme
  pub name_fits : IsName (string_bytes r.name)

-- 1 to 4096
abbrev pub IsLength : ℕ → Type 0
IsLength n = (0 < n) × (n ≤ 4096)

pub record IsPayload (bytes : List ℕ) : Type 0 where
  pub are_bytes : AreBytes bytes
  pub is_length : IsLength (length bytes)

-- what its numbers, names and bytes may be
abbrev pub OtherFits : Other → Type 0
OtherFits (Null key) = key < 2 ^ 64
OtherFits (Rename key name) = (key < 2 ^ 64) × IsName (string_bytes name)
OtherFits (Write key at bytes) = (key < 2 ^ 64) × (at < 2 ^ 64) × IsPayload bytes.items
OtherFits (Read key at size) = (key < 2 ^ 64) × (at < 2 ^ 64) × IsLength size
OtherFits Leaks = Unit {0}
