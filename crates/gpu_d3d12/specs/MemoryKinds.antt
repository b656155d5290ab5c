-- The memory types of a device, and which of them serves a request.
use Rattle.std.specs.Prelude.{◌≡◌, ◌<◌, ◌⊎◌, ℕ, List, [], ◌∷◌, map, slice_get, Some, IsSomeAnd}
use Rattle.std.specs.List.{flat_map}
use Rattle.gpu_values.specs.declared.memory_location.MemoryLocation.{MemoryLocation}
use Rattle.gpu_values.specs.declared.memory_location.MemoryLocation.TheVariants.{Unknown, GpuOnly, CpuToGpu, GpuToCpu}
use Rattle.gpu_device.specs.declared.d3d12.types.HeapContent.{HeapContent}
use Rattle.gpu_device.specs.declared.d3d12.types.HeapContent.TheVariants.{All, Buffers, RtDsTextures, NonRtDsTextures}
use Rattle.gpu_device.specs.declared.d3d12.types.ResourceHeapTier.{ResourceHeapTier}
use Rattle.gpu_device.specs.declared.d3d12.types.ResourceHeapTier.TheVariants.{Tier1, Tier2}
use Rattle.gpu_d3d12.specs.declared.category.ResourceCategory.{ResourceCategory}
use Rattle.gpu_d3d12.specs.declared.category.ResourceCategory.TheVariants.{Buffer, RtvDsvTexture, OtherTexture}
use Rattle.gpu_d3d12.specs.declared.memory_kind.MemoryKind.{MemoryKind}

-- ---- which there are

-- the locations that have memory types, in order
abbrev pub locations : List MemoryLocation
locations = GpuOnly ∷ CpuToGpu ∷ GpuToCpu ∷ []

-- what the heaps of a location's memory types may hold at tier 1, in order
abbrev pub contents : List HeapContent
contents = Buffers ∷ RtDsTextures ∷ NonRtDsTextures ∷ []

abbrev pub kind : MemoryLocation → HeapContent → MemoryKind
kind location content = record { location = location; content = content }

-- the memory types: at tier 1 one for each location and content, else one for each location, whose heaps may hold all
abbrev pub memory_kinds : ResourceHeapTier → List MemoryKind
memory_kinds Tier1 = flat_map (λ location. map (kind location) contents) locations
memory_kinds Tier2 = map (λ location. kind location All) locations

-- ---- which serves

-- heaps for this category alone
abbrev pub category_content : ResourceCategory → HeapContent
category_content Buffer = Buffers
category_content RtvDsvTexture = RtDsTextures
category_content OtherTexture = NonRtDsTextures

-- the memory type has the location, where one is asked for, and its heaps may hold the category
abbrev pub KindServes : MemoryLocation → ResourceCategory → MemoryKind → Type 0
KindServes location category k = ((location ≡ Unknown) ⊎ (k.location ≡ location)) × ((k.content ≡ All) ⊎ (k.content ≡ category_content category))

-- the memory type at the index serves, and none before it does
pub record IsFirstServing (location : MemoryLocation) (category : ResourceCategory) (kinds : List MemoryKind) (index : ℕ) : Type 0 where
  pub serves : IsSomeAnd (slice_get kinds index) (λ k. KindServes location category k)
  pub first : (i : ℕ) (k : MemoryKind) → i < index → slice_get kinds i ≡ Some k → KindServes location category k → ⊥

-- ---- where they stand

-- any memory type serves an unknown location, so the first one does
abbrev pub location_index : MemoryLocation → ℕ
location_index Unknown = 0
location_index GpuOnly = 0
location_index CpuToGpu = 1
location_index GpuToCpu = 2

-- the place of a category among the memory types of a location
abbrev pub category_index : ResourceCategory → ℕ
category_index Buffer = 0
category_index RtvDsvTexture = 1
category_index OtherTexture = 2
