-- A trace of any sort: the first line tells which it is.
use Rattle.std.specs.Prelude.{◌≡◌, ◌≢◌, ◌⊎◌, ℕ, List, codes}
use Rattle.gpu_trace_text.specs.Reply as vulkan_replies
use Rattle.gpu_trace_text.specs.D3D12Configuration as d3d12_configuration
use Rattle.gpu_trace_text.specs.D3D12Reply as d3d12_replies
use Rattle.gpu_trace_text.specs.D3D12Stage as d3d12
use Rattle.gpu_trace_text.specs.declared.d3d12.stage.Stage as d3d12_stages
use Rattle.gpu_trace_text.specs.declared.d3d12.stage.Stage.TheVariants as d3d12_variants
use Rattle.gpu_trace_text.specs.MetalConfiguration.{nothing_configured}
use Rattle.gpu_trace_text.specs.MetalReply as metal_replies
use Rattle.gpu_trace_text.specs.MetalStage as metal
use Rattle.gpu_trace_text.specs.declared.metal.stage.Stage as metal_stages
use Rattle.gpu_trace_text.specs.declared.metal.stage.Stage.TheVariants.{Configuring}
use Rattle.gpu_trace_text.specs.BlockOrDevice as vulkan
use Rattle.gpu_trace_text.specs.declared.stage.Stage as vulkan_stages
use Rattle.gpu_trace_text.specs.declared.stage.Stage.TheVariants.{Before}
use Rattle.gpu_block_session.specs.declared.outcome.Outcome.{Outcome}
use Rattle.gpu_block_session.specs.declared.outcome.Outcome.TheVariants.{Nothing, Replied, Bad}
use Rattle.gpu_trace_text.specs.declared.any.AnyReply.{AnyReply}
use Rattle.gpu_trace_text.specs.declared.any.AnyReply.TheVariants as replies
use Rattle.gpu_trace_text.specs.declared.any.AnyTrace.{AnyTrace}
use Rattle.gpu_trace_text.specs.declared.any.AnyTrace.TheVariants.{Vulkan, Metal, D3D12}

-- a line does in a block trace or a device trace what it does there
abbrev pub DidVulkan : vulkan_stages.Stage → List ℕ → Outcome AnyReply → AnyTrace → Type 0
DidVulkan old line Nothing (Vulkan new) = vulkan.AnyStageServes old line Nothing new
DidVulkan old line (Replied (replies.Vulkan r)) (Vulkan new) = vulkan.AnyStageServes old line (Replied r) new
DidVulkan old line Bad (Vulkan new) = vulkan.AnyStageServes old line Bad new
DidVulkan old line _ _ = ⊥

-- a line does in a Metal trace what it does there
abbrev pub DidMetal : metal_stages.Stage → List ℕ → Outcome AnyReply → AnyTrace → Type 0
DidMetal old line Nothing (Metal new) = metal.DoesText old line Nothing new
DidMetal old line (Replied (replies.Metal r)) (Metal new) = metal.DoesText old line (Replied r) new
DidMetal old line Bad (Metal new) = metal.DoesText old line Bad new
DidMetal old line _ _ = ⊥

-- a line does in a DirectX 12 trace what it does there
abbrev pub DidD3D12 : d3d12_stages.Stage → List ℕ → Outcome AnyReply → AnyTrace → Type 0
DidD3D12 old line Nothing (D3D12 new) = d3d12.DoesText old line Nothing new
DidD3D12 old line (Replied (replies.D3D12 r)) (D3D12 new) = d3d12.DoesText old line (Replied r) new
DidD3D12 old line Bad (D3D12 new) = d3d12.DoesText old line Bad new
DidD3D12 old line _ _ = ⊥

-- the line that a Metal trace begins with
abbrev pub metal_line : List ℕ
metal_line = codes "metal"

-- the line that a DirectX 12 trace begins with
abbrev pub d3d12_line : List ℕ
d3d12_line = codes "d3d12"

-- the first line that isn't blank begins a Metal trace or a DirectX 12 trace, or is the first of another sort
abbrev pub DoesFirst : List ℕ → Outcome AnyReply → AnyTrace → Type 0
DoesFirst line did new =
    ((line ≡ metal_line) × (did ≡ Nothing) × (new ≡ Metal (Configuring nothing_configured)))
    ⊎ ((line ≡ d3d12_line) × (did ≡ Nothing) × (new ≡ D3D12 (d3d12_variants.Configuring d3d12_configuration.nothing_configured)))
    ⊎ ((line ≢ metal_line) × (line ≢ d3d12_line) × DidVulkan Before line did new)

-- what a line does
abbrev pub Does : AnyTrace → List ℕ → Outcome AnyReply → AnyTrace → Type 0
Does (Vulkan Before) line did new = DoesFirst line did new
Does (Vulkan old) line did new = DidVulkan old line did new
Does (Metal old) line did new = DidMetal old line did new
Does (D3D12 old) line did new = DidD3D12 old line did new

-- a reply's text and the end of its line, as its sort of traces writes it
abbrev pub reply_line : AnyReply → List ℕ
reply_line (replies.Vulkan r) = vulkan_replies.reply_line r
reply_line (replies.Metal r) = metal_replies.reply_line r
reply_line (replies.D3D12 r) = d3d12_replies.reply_line r

-- the stage and the outcome that a call answers are what the line does
abbrev pub MatchDone : (Outcome AnyReply → AnyTrace → Type 0) → AnyTrace × Outcome AnyReply → Type 0
MatchDone does r = does r.1 r.0
