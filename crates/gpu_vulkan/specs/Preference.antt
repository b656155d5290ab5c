-- Which memory type serves a preference: the cheapest of those that have what it requires.
use Rattle.std.specs.Prelude.{◌≡◌, ℕ, ◌+◌, ◌<◌, ◌≤◌, ◌⊎◌, true, List, Option, Some, None, slice_get}
use Rattle.std.specs.Int.{w32, bit_not}
use Rattle.std.specs.Int.RustNames.{bit_and, count_ones}
use Rattle.gpu_device.specs.declared.vulkan.types.MemoryTypeInfo.{MemoryTypeInfo}
use Rattle.gpu_vulkan.specs.Choice.{serves}
use Rattle.gpu_vulkan.specs.declared.preference.Preference.{Preference}

-- as many as the preferred flags that the memory type lacks, and the avoided ones that it has
abbrev pub cost : Preference → MemoryTypeInfo → ℕ
cost p info = count_ones (bit_and p.preferred.0 (bit_not w32 info.property_flags.0)) + count_ones (bit_and p.avoided.0 info.property_flags.0)

-- the memory type at the index, which is one of the bits, and has all required flags
pub record ServesAt (types : List MemoryTypeInfo) (bits : ℕ) (p : Preference) (index : ℕ) (info : MemoryTypeInfo) : Type 0 where
  pub there : slice_get types index ≡ Some info
  pub serves : serves bits p.required.0 index info ≡ true

-- it costs less than another one, or as much and comes first
abbrev pub ComesBefore : Preference → (index : ℕ) → MemoryTypeInfo → (other : ℕ) → MemoryTypeInfo → Type 0
ComesBefore p index info other rest = (cost p info < cost p rest) ⊎ ((cost p info ≡ cost p rest) × (index ≤ other))

-- the one that comes before all others that serve, of the first `count` memory types; none where none of them serves
abbrev pub IsCheapestOf : (count : ℕ) → List MemoryTypeInfo → (bits : ℕ) → Preference → Option ℕ → Type 0
IsCheapestOf count types bits p None = (i : ℕ) (info : MemoryTypeInfo) → i < count → ServesAt types bits p i info → ⊥
IsCheapestOf count types bits p (Some t) =
    (chosen : MemoryTypeInfo) × ServesAt types bits p t chosen × ((i : ℕ) (info : MemoryTypeInfo) → i < count → ServesAt types bits p i info → ComesBefore p t chosen i info)

-- the cheapest of all that serve
abbrev pub IsCheapest : List MemoryTypeInfo → (bits : ℕ) → Preference → Option ℕ → Type 0
IsCheapest types bits p found = (count : ℕ) → IsCheapestOf count types bits p found
