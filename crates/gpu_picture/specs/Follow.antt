-- A trace of any sort, with what its memory types held after each of its commands.
use Rattle.std.specs.Prelude.{◌≡◌, ℕ, ◌+◌, Bool, true, false, List, [], ◌∷◌, ◌++◌, map}
use Rattle.gpu_block.specs.Block.{Block, size_of, allocated_bytes}
use Rattle.gpu_block_session.specs.declared.block.reply.Reply.TheVariants as block_replies
use Rattle.gpu_run.specs.declared.vulkan.reply.Reply.TheVariants as vulkan_replies
use Rattle.gpu_run.specs.declared.d3d12.reply.Reply.TheVariants as d3d12_session_replies
use Rattle.gpu_trace_text.specs.declared.d3d12.reply.Reply as d3d12_told
use Rattle.gpu_trace_text.specs.declared.d3d12.reply.Reply.TheVariants as d3d12_replies
use Rattle.gpu_trace_text.specs.declared.d3d12.stage.Stage as d3d12
use Rattle.gpu_trace_text.specs.declared.d3d12.stage.Stage.TheVariants as d3d12_stages
use Rattle.gpu_run.specs.declared.metal.reply.Reply.TheVariants as metal_session_replies
use Rattle.gpu_trace_text.specs.declared.metal.reply.Reply as metal_told
use Rattle.gpu_trace_text.specs.declared.metal.reply.Reply.TheVariants as metal_replies
use Rattle.gpu_trace_text.specs.declared.metal.stage.Stage as metal
use Rattle.gpu_trace_text.specs.declared.metal.stage.Stage.TheVariants.{Running}
use Rattle.gpu_report.specs.Svg.{capped}
use Rattle.gpu_report.specs.Samples.{usage_of}
use Rattle.gpu_report.specs.declared.timeline.samples.Sample.{Sample}
use Rattle.gpu_report.specs.declared.timeline.samples.Usage.{Usage}
use Rattle.gpu_trace_text.specs.declared.device.reply.Reply.TheVariants as device_replies
use Rattle.gpu_trace_text.specs.declared.reply.Reply as vulkan_told
use Rattle.gpu_trace_text.specs.declared.reply.Reply.TheVariants as line_replies
use Rattle.gpu_block_session.specs.declared.block_stage.BlockStage.TheVariants.{Open}
use Rattle.gpu_trace_text.specs.declared.stage.Stage as vulkan
use Rattle.gpu_trace_text.specs.declared.stage.Stage.TheVariants.{Before, Block as InBlock, Device}
use Rattle.gpu_trace_text.specs.Any.{Does}
use Rattle.gpu_trace_text.specs.declared.any.AnyReply.{AnyReply}
use Rattle.gpu_trace_text.specs.declared.any.AnyReply.TheVariants as replies
use Rattle.gpu_trace_text.specs.declared.any.AnyTrace.{AnyTrace}
use Rattle.gpu_trace_text.specs.declared.any.AnyTrace.TheVariants.{Vulkan, Metal, D3D12}
use Rattle.gpu_block_session.specs.declared.outcome.Outcome.{Outcome}
use Rattle.gpu_block_session.specs.declared.outcome.Outcome.TheVariants.{Nothing, Replied, Bad}
use Rattle.gpu_picture.specs.declared.follow.Followed.{Followed}

-- ---- refused commands

-- a command that is answered by an error
abbrev pub is_vulkan_refusal : vulkan_told.Reply → Bool
is_vulkan_refusal (line_replies.Block (block_replies.Refused number)) = true
is_vulkan_refusal (line_replies.Device (device_replies.Refused number)) = true
is_vulkan_refusal (line_replies.Device (device_replies.Served (vulkan_replies.Error e))) = true
is_vulkan_refusal _ = false

-- the same of a Metal trace
abbrev pub is_metal_refusal : metal_told.Reply → Bool
is_metal_refusal (metal_replies.Refused number) = true
is_metal_refusal (metal_replies.Served (metal_session_replies.Error e)) = true
is_metal_refusal _ = false

-- the same of a DirectX 12 trace
abbrev pub is_d3d12_refusal : d3d12_told.Reply → Bool
is_d3d12_refusal (d3d12_replies.Refused number) = true
is_d3d12_refusal (d3d12_replies.Served (d3d12_session_replies.Error e)) = true
is_d3d12_refusal _ = false

-- the same of a trace of any sort
abbrev pub is_refusal : AnyReply → Bool
is_refusal (replies.Vulkan r) = is_vulkan_refusal r
is_refusal (replies.Metal r) = is_metal_refusal r
is_refusal (replies.D3D12 r) = is_d3d12_refusal r

-- ---- what memory types hold

-- a block, as the one memory type of its trace
abbrev pub usage_of_block : Block → Usage
usage_of_block b = record { blocks = size_of b; pieces = allocated_bytes b }

-- what each memory type holds, by index: there is none before an allocator is made and behind its end
abbrev pub usages_in_vulkan : vulkan.Stage → List Usage
usages_in_vulkan (InBlock (Open s)) = usage_of_block s.block ∷ []
usages_in_vulkan (Device s) = map usage_of s.allocator.slots
usages_in_vulkan _ = []

-- the same of a Metal trace
abbrev pub usages_in_metal : metal.Stage → List Usage
usages_in_metal (Running s) = map usage_of s.allocator.slots
usages_in_metal _ = []

-- the same of a DirectX 12 trace, whose committed resources are no blocks
abbrev pub usages_in_d3d12 : d3d12.Stage → List Usage
usages_in_d3d12 (d3d12_stages.Running s) = map usage_of s.allocator.slots
usages_in_d3d12 _ = []

-- the same of a trace of any sort
abbrev pub usages_in : AnyTrace → List Usage
usages_in (Vulkan stage) = usages_in_vulkan stage
usages_in (Metal stage) = usages_in_metal stage
usages_in (D3D12 stage) = usages_in_d3d12 stage

-- ---- what is noted

-- what a sample tells: the command's line, whether it was refused, and what memory types held then
pub record Told : Type 0 where
  pub line : ℕ
  pub refused : Bool
  pub usages : List Usage

-- what is told by the sample that is kept
abbrev pub told : Sample → Told
told s = record { line = s.line; refused = s.refused; usages = s.usages.items }

-- what is noted of the line of that number, and how far the trace has come then: a sample where it was answered
abbrev pub noted : (line : ℕ) → Outcome AnyReply → AnyTrace → List Told
noted line Nothing trace = []
noted line (Replied r) trace = record { line = line; refused = is_refusal r; usages = usages_in trace } ∷ []
noted line Bad trace = []

-- before the first line
pub record IsStart (f : Followed) : Type 0 where
  pub trace : f.trace ≡ Vulkan Before
  pub lines : f.lines ≡ 0
  pub samples : f.samples.items ≡ []

-- a line does what it does, and is noted by its number, which stops at the largest number of 64 bits
pub record Follows (old : Followed) (line : List ℕ) (did : Outcome AnyReply) (new : Followed) : Type 0 where
  pub does : Does old.trace line did new.trace
  pub counted : new.lines ≡ capped (old.lines + 1)
  pub notes : map told new.samples.items ≡ map told old.samples.items ++ noted new.lines did new.trace
