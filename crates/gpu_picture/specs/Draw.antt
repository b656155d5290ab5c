-- What is written of the blocks that a trace leaves.
use Rattle.std.specs.Prelude.{◌≡◌, ℕ, ◌+◌, List, [], ◌∷◌, ◌++◌, map, Bool, Option}
use Rattle.std.specs.Io.KnownBytes.{Appends}
use Rattle.gpu_block.specs.Block.{HasPages}
use Rattle.gpu_core.specs.Blocks.{Slots}
use Rattle.gpu_core.specs.Types.{Types, slots_of, kinds}
use Rattle.gpu_d3d12.specs.Setup as d3d12_setup
use Rattle.gpu_metal.specs.Setup as metal_setup
use Rattle.gpu_vulkan.specs.Types as vulkan_types
use Rattle.gpu_report.specs.declared.view.BlockView.{BlockView}
use Rattle.gpu_report.specs.View.{ShownBlock, shown, shown_from}
use Rattle.gpu_report.specs.BlocksJson.{blocks_json}
use Rattle.gpu_report.specs.BlocksSvg.{blocks_svg}
use Rattle.gpu_block_session.specs.declared.block_stage.BlockStage.{BlockStage}
use Rattle.gpu_block_session.specs.declared.block_stage.BlockStage.TheVariants as block_stages
use Rattle.gpu_trace_text.specs.declared.stage.Stage as vulkan
use Rattle.gpu_trace_text.specs.declared.stage.Stage.TheVariants.{Block, Device}
use Rattle.gpu_trace_text.specs.declared.metal.stage.Stage as metal
use Rattle.gpu_trace_text.specs.declared.metal.stage.Stage.TheVariants as metal_stages
use Rattle.gpu_trace_text.specs.declared.d3d12.stage.Stage as d3d12
use Rattle.gpu_trace_text.specs.declared.d3d12.stage.Stage.TheVariants as d3d12_stages
use Rattle.gpu_trace_text.specs.declared.any.AnyTrace.{AnyTrace}
use Rattle.gpu_trace_text.specs.declared.any.AnyTrace.TheVariants.{Vulkan, Metal, D3D12}
use Rattle.gpu_picture.specs.declared.draw.Form.{Form}
use Rattle.gpu_picture.specs.declared.draw.Form.TheVariants.{Svg, Json}

-- a picture, or a line of JSON
abbrev pub drawing : Form → List BlockView → List ℕ
drawing Svg views = blocks_svg views
drawing Json views = blocks_json views ++ 10 ∷ []

-- the live blocks by memory type and slot, where the first memory type has the index `first`
abbrev pub shown_types : {H : Type 0} → (first : ℕ) → Types H → List ShownBlock
shown_types first [] = []
shown_types first (t ∷ types) = shown_from first t.granularity 0 t.slots ++ shown_types (first + 1) types

-- the one block of a block trace in pages of its size, and none where it made none
abbrev pub BlockIsShown : BlockStage → List ShownBlock → Type 0
BlockIsShown (block_stages.Open s) (v ∷ []) = (v.memory_type ≡ 0) × (v.slot ≡ 0) × (v.block ≡ s.block) × HasPages s.block v.page_size
BlockIsShown (block_stages.Open s) _ = ⊥
BlockIsShown _ views = views ≡ []

abbrev pub DrawsBlock : Form → BlockStage → (old new : Option (List ℕ)) → Type 0
DrawsBlock form stage old new = (views : List BlockView) × BlockIsShown stage (map shown views) × Appends old new (drawing form views)

-- all live blocks of memory types, each in pages of its memory type
abbrev pub DrawsTypes : {H : Type 0} → Form → Types H → (old new : Option (List ℕ)) → Type 0
DrawsTypes form types old new = (views : List BlockView) × (map shown views ≡ shown_types 0 types) × Appends old new (drawing form views)

-- all live blocks of an allocator with these slots, whose memory types are of these kinds
abbrev pub DrawsSlots : {H : Type 0} → Form → Slots H → List (Bool × ℕ) → (old new : Option (List ℕ)) → Type 0
DrawsSlots {H} form slots told old new = (types : Types H) × (slots_of types ≡ slots) × (kinds types ≡ told) × DrawsTypes form types old new

-- of a block trace its block, of a device trace what its allocator holds, in pages of the device's granularity
abbrev pub DrawsVulkan : Form → vulkan.Stage → (old new : Option (List ℕ)) → Type 0
DrawsVulkan form (Block stage) old new = DrawsBlock form stage old new
DrawsVulkan form (Device s) old new = DrawsSlots form s.allocator.slots (vulkan_types.kinds_of_device s.allocator.setup.properties) old new
DrawsVulkan form _ old new = Appends old new (drawing form [])

-- what a Metal trace's allocator holds, where pages don't matter
abbrev pub DrawsMetal : Form → metal.Stage → (old new : Option (List ℕ)) → Type 0
DrawsMetal form (metal_stages.Running s) old new = DrawsSlots form s.allocator.slots metal_setup.kinds_of_device old new
DrawsMetal form _ old new = Appends old new (drawing form [])

-- what a DirectX 12 trace's allocator holds in its heaps, where pages don't matter
abbrev pub DrawsD3D12 : Form → d3d12.Stage → (old new : Option (List ℕ)) → Type 0
DrawsD3D12 form (d3d12_stages.Running s) old new = DrawsSlots form s.allocator.slots (d3d12_setup.kinds_of_device s.allocator.setup.tier) old new
DrawsD3D12 form _ old new = Appends old new (drawing form [])

-- what is drawn of a trace, by its sort
abbrev pub Draws : Form → AnyTrace → (old new : Option (List ℕ)) → Type 0
Draws form (Vulkan stage) old new = DrawsVulkan form stage old new
Draws form (Metal stage) old new = DrawsMetal form stage old new
Draws form (D3D12 stage) old new = DrawsD3D12 form stage old new
