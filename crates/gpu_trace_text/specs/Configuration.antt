-- The configuration of a device trace: the simulated device and the block sizes that its lines describe.
use Rattle.std.specs.Prelude.{ℕ, ◌-◌, ◌^◌, List, [], ◌∷◌, ◌++◌, Option, Some, None}
use Rattle.std.specs.Option.{unwrap_or}
use Rattle.gpu_values.specs.Sizes.{Sizes, default_sizes}
use Rattle.gpu_device.specs.Properties.{Properties}
use Rattle.gpu_device.specs.declared.vulkan.types.MemoryHeap.{MemoryHeap}
use Rattle.gpu_device.specs.declared.vulkan.types.MemoryTypeInfo.{MemoryTypeInfo}
use Rattle.gpu_sim.specs.Plan.{Plan}
use Rattle.gpu_device.specs.declared.refusal.Refusal.{Refusal}
use Rattle.gpu_trace_text.specs.declared.device.setting.Setting.{Setting}
use Rattle.gpu_trace_text.specs.declared.device.setting.Setting.TheVariants.{Heap, MemoryType, Granularity, Sizes as BlockSizes, Refuse}
use Rattle.gpu_trace_text.specs.Setting.{sizes_of}

pub record Configured : Type 0 where
  pub heaps : List MemoryHeap
  pub types : List MemoryTypeInfo
  pub granularity : Option ℕ
  pub sizes : Option Sizes
  -- which questions of the device are refused, by their number
  pub refusals : List (ℕ × Refusal)

abbrev pub nothing_configured : Configured
nothing_configured = record { heaps = []; types = []; granularity = None; sizes = None; refusals = [] }

-- a page size and block sizes are set once
abbrev pub with_granularity : Configured → Option ℕ → ℕ → Option Configured
with_granularity c None bytes = Some (record c { granularity = Some bytes })
with_granularity c (Some was) bytes = None

abbrev pub with_sizes : Configured → Option Sizes → Sizes → Option Configured
with_sizes c None sizes = Some (record c { sizes = Some sizes })
with_sizes c (Some was) sizes = None

-- the configuration with one line more, None where that was set before
abbrev pub configured_by : Configured → Setting → Option Configured
configured_by c (Heap size) = Some (record c { heaps = c.heaps ++ record { size = size; flags = 0 } ∷ [] })
configured_by c (MemoryType flags heap) = Some (record c { types = c.types ++ record { property_flags = record { 0 = flags }; heap_index = heap } ∷ [] })
configured_by c (Granularity bytes) = with_granularity c c.granularity bytes
configured_by c (BlockSizes device host max_device max_host) = with_sizes c c.sizes (sizes_of device host max_device max_host)
configured_by c (Refuse question refusal) = Some (record c { refusals = c.refusals ++ (question, refusal) ∷ [] })

abbrev pub properties_by : Configured → Properties
properties_by c = record { types = c.types; heaps = c.heaps; granularity = unwrap_or c.granularity 1 }

-- the device refuses the questions that the lines name, and no memory for its size
abbrev pub plan_by : Configured → Plan
plan_by c = record { properties = properties_by c; limit = 2 ^ 64 - 1; script = c.refusals; questions = 0; issued = 0 }

abbrev pub sizes_by : Configured → Sizes
sizes_by c = unwrap_or c.sizes default_sizes
