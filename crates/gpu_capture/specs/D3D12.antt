-- The words of a DirectX 12 trace.
use Rattle.std.specs.Prelude.{ℕ, ◌+◌, ◌*◌, ◌/◌, ◌^◌, nat_lt, if◌then◌else◌, List, [], ◌∷◌, codes}
use Rattle.std.specs.Fmt.{decimal}
use Rattle.gpu_values.specs.declared.memory_location.MemoryLocation.{MemoryLocation}
use Rattle.gpu_device.specs.declared.d3d12.types.ResourceHeapTier.{ResourceHeapTier}
use Rattle.gpu_device.specs.declared.d3d12.types.ResourceHeapTier.TheVariants.{Tier1, Tier2}
use Rattle.gpu_capture.specs.declared.request.Category.{Category}
use Rattle.gpu_capture.specs.declared.request.Category.TheVariants.{Buffer, Target, Texture}
use Rattle.gpu_capture.specs.Words.{location_word}

-- render targets and depth stencils are targets
abbrev pub category_word : Category → List ℕ
category_word Buffer = codes "buffer"
category_word Target = codes "target"
category_word Texture = codes "texture"

abbrev pub d3d12_words : (size alignment : ℕ) → MemoryLocation → (category : List ℕ) → (name : List ℕ) → List (List ℕ)
d3d12_words size alignment location category name =
    decimal size ∷ decimal alignment ∷ location_word location ∷ category ∷ name ∷ []

abbrev pub tier_word : ResourceHeapTier → List ℕ
tier_word Tier1 = codes "1"
tier_word Tier2 = codes "2"

abbrev pub tier_words : ResourceHeapTier → List (List ℕ)
tier_words tier = codes "tier" ∷ tier_word tier ∷ []

-- a committed resource, as a buffer of so many bytes
abbrev pub committed_words : (number : ℕ) → MemoryLocation → (category : List ℕ) → (size : ℕ) → (name : List ℕ) → List (List ℕ)
committed_words number location category size name =
    codes "create" ∷ decimal number ∷ codes "committed" ∷ location_word location ∷ category ∷ codes "buffer" ∷ decimal size
    ∷ codes "1" ∷ codes "1" ∷ codes "0" ∷ codes "state:0" ∷ codes "none" ∷ codes "none" ∷ name ∷ []

abbrev pub release_words : (number : ℕ) → List (List ℕ)
release_words number = codes "release" ∷ decimal number ∷ []

-- a size in whole units of 65,536 bytes, where 64 bits hold that
abbrev pub whole_units : (size : ℕ) → ℕ
whole_units size = let whole = (size + 65535) / 65536 * 65536 in if nat_lt whole (2 ^ 64) then whole else size
