-- What the words of a request for a resource say.
use Rattle.std.specs.Prelude.{◌≡◌, ℕ, ◌<◌, ◌≤◌, ◌^◌, List, [], ◌∷◌, ◌++◌, length, map, All, Option, Some, None, codes, string_bytes}
use Rattle.std.specs.Fmt.{decimal}
use Rattle.gpu_values.specs.declared.memory_location.MemoryLocation.{MemoryLocation}
use Rattle.gpu_device.specs.declared.d3d12.types.ClearValue.{ClearValue}
use Rattle.gpu_device.specs.declared.d3d12.types.Format.{Format}
use Rattle.gpu_device.specs.declared.d3d12.types.ResourceDesc.{ResourceDesc}
use Rattle.gpu_device.specs.declared.d3d12.types.ResourceDimension.{ResourceDimension}
use Rattle.gpu_device.specs.declared.d3d12.types.ResourceDimension.TheVariants as dimensions
use Rattle.gpu_d3d12.specs.Heaps.{heap_properties}
use Rattle.gpu_d3d12.specs.declared.category.ResourceCategory.{ResourceCategory}
use Rattle.gpu_d3d12.specs.declared.category.ResourceCategory.TheVariants as categories
use Rattle.gpu_d3d12.specs.declared.question.ResourceStateOrBarrierLayout.{ResourceStateOrBarrierLayout}
use Rattle.gpu_d3d12.specs.declared.question.ResourceStateOrBarrierLayout.TheVariants.{ResourceState, BarrierLayout}
use Rattle.gpu_run.specs.declared.d3d12.command.Memory.{Memory}
use Rattle.gpu_run.specs.declared.d3d12.command.Memory.TheVariants.{Own, Placed}
use Rattle.gpu_run.specs.declared.d3d12.command.WantedResource.{WantedResource}
use Rattle.gpu_capture.specs.Words.{location_word}
use Rattle.gpu_block_session.specs.Words.{IsName}
use Rattle.gpu_trace_text.specs.D3D12Numbers.{AreNumbers, numbers_word}

-- ---- words

-- the word for a category
abbrev pub category_word : ResourceCategory → List ℕ
category_word categories.Buffer = codes "buffer"
category_word categories.RtvDsvTexture = codes "target"
category_word categories.OtherTexture = codes "texture"

-- whether a resource has memory of its own or lies in a piece
abbrev pub place_word : Memory → List ℕ
place_word (Own properties flags) = codes "committed"
place_word Placed = codes "placed"

-- the word for a dimension
abbrev pub dimension_word : ResourceDimension → List ℕ
dimension_word dimensions.Unknown = codes "unknown"
dimension_word dimensions.Buffer = codes "buffer"
dimension_word dimensions.Texture1D = codes "texture1d"
dimension_word dimensions.Texture2D = codes "texture2d"
dimension_word dimensions.Texture3D = codes "texture3d"

-- how a resource begins: in a state or in a layout, by its number
abbrev pub initial_word : ResourceStateOrBarrierLayout → List ℕ
initial_word (ResourceState state) = codes "state:" ++ decimal state
initial_word (BarrierLayout layout) = codes "layout:" ++ decimal layout

-- a format's number
abbrev pub format_number : Format → ℕ
format_number f = f.0

-- the formats in their order, with `,` between each two
abbrev pub formats_word : List Format → List ℕ
formats_word [] = codes "none"
formats_word (f ∷ fs) = numbers_word 44 (map format_number (f ∷ fs))

-- the format and the four words of the value, with `:` between each two
abbrev pub clear_word : Option ClearValue → List ℕ
clear_word None = codes "none"
clear_word (Some v) = numbers_word 58 (v.format.0 ∷ v.value)

-- ---- what may stand in them

-- states and layouts have 32 bits
abbrev pub FitsInitial : ResourceStateOrBarrierLayout → Type 0
FitsInitial (ResourceState state) = state < 2 ^ 32
FitsInitial (BarrierLayout layout) = layout < 2 ^ 32

-- at most sixteen formats, each of 32 bits
pub record FitsFormats (fs : List Format) : Type 0 where
  pub few : length fs ≤ 16
  pub fit : All (λ f. f.0 < 2 ^ 32) fs

-- the format and each of the four words have 32 bits
abbrev pub FitsClear : Option ClearValue → Type 0
FitsClear None = Unit {0}
FitsClear (Some v) = AreNumbers (v.format.0 ∷ v.value) × (length v.value ≡ 4)

-- a description of which a line tells five fields: it has one mip level and one sample, and zeros
abbrev pub plain_desc : ResourceDimension → (width height depth flags : ℕ) → ResourceDesc
plain_desc dimension width height depth flags = record {
  dimension = dimension;
  alignment = 0;
  width = width;
  height = height;
  depth_or_array_size = depth;
  mip_levels = 1;
  format = record { 0 = 0 };
  sample_count = 1;
  sample_quality = 0;
  layout = 0;
  flags = flags;
}

-- a line can tell of it what it is
pub record FitsDesc (d : ResourceDesc) : Type 0 where
  pub width_fits : d.width < 2 ^ 64
  pub height_fits : d.height < 2 ^ 32
  pub depth_fits : d.depth_or_array_size < 2 ^ 16
  pub flags_fit : d.flags < 2 ^ 32
  pub plain : d ≡ plain_desc d.dimension d.width d.height d.depth_or_array_size d.flags

-- these words are the description's
pub record SpellsDesc (dimension width height depth flags : List ℕ) (d : ResourceDesc) : Type 0 where
  pub dimension_is : dimension ≡ dimension_word d.dimension
  pub width_is : width ≡ decimal d.width
  pub height_is : height ≡ decimal d.height
  pub depth_is : depth ≡ decimal d.depth_or_array_size
  pub flags_are : flags ≡ decimal d.flags
  pub fits : FitsDesc d

-- memory of its own lies where heaps of the location lie, and has no flags
abbrev pub FitsMemory : MemoryLocation → Memory → Type 0
FitsMemory location (Own properties flags) = (properties ≡ heap_properties location) × (flags.0 ≡ 0)
FitsMemory location Placed = Unit {0}

-- ---- a whole request

-- a request's words
abbrev pub wanted_words : WantedResource → List (List ℕ)
wanted_words w =
    place_word w.memory ∷ location_word w.location ∷ category_word w.category
    ∷ dimension_word w.desc.dimension ∷ decimal w.desc.width ∷ decimal w.desc.height ∷ decimal w.desc.depth_or_array_size ∷ decimal w.desc.flags
    ∷ initial_word w.initial ∷ formats_word w.castable_formats.items ∷ clear_word w.clear_value ∷ string_bytes w.name ∷ []

-- what a request's numbers and name may be
pub record FitsWanted (w : WantedResource) : Type 0 where
  pub memory_fits : FitsMemory w.location w.memory
  pub desc_fits : FitsDesc w.desc
  pub initial_fits : FitsInitial w.initial
  pub formats_fit : FitsFormats w.castable_formats.items
  pub clear_fits : FitsClear w.clear_value
  pub name_fits : IsName (string_bytes w.name)

-- these words are the request's
pub record SpellsWanted (line : List (List ℕ)) (w : WantedResource) : Type 0 where
  pub is : line ≡ wanted_words w
  pub fits : FitsWanted w

-- the words are this request's, or no request's
abbrev pub SaysWanted : List (List ℕ) → Option WantedResource → Type 0
SaysWanted line (Some w) = SpellsWanted line w
SaysWanted line None = (w : WantedResource) → SpellsWanted line w → ⊥
