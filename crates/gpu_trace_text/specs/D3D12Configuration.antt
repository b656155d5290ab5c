-- The configuration of a DirectX 12 trace: the simulated device by its interface, and the block sizes.
use Rattle.std.specs.Prelude.{ℕ, ℤ, List, [], ◌∷◌, ◌++◌, Option, Some, None, Result, Ok}
use Rattle.std.specs.Option.{unwrap_or}
use Rattle.gpu_values.specs.Sizes.{Sizes, default_sizes}
use Rattle.gpu_device.specs.declared.d3d12.types.ResourceHeapTier.{ResourceHeapTier}
use Rattle.gpu_device.specs.declared.d3d12.types.ResourceHeapTier.TheVariants.{Tier2}
use Rattle.gpu_d3d12.specs.declared.device_version.ID3D12DeviceVersion.{ID3D12DeviceVersion}
use Rattle.gpu_d3d12.specs.declared.device_version.ID3D12DeviceVersion.TheVariants as versions
use Rattle.gpu_device.specs.declared.refusal.Refusal.{Refusal}
use Rattle.gpu_sim_d3d12.specs.Simulation.{Plan}
use Rattle.gpu_trace_text.specs.Setting.{sizes_of}
use Rattle.gpu_trace_text.specs.declared.device.setting.Setting as device
use Rattle.gpu_trace_text.specs.declared.device.setting.Setting.TheVariants.{Heap, MemoryType, Granularity, Sizes as BlockSizes, Refuse}
use Rattle.gpu_trace_text.specs.declared.d3d12.setting.Setting.{Setting}
use Rattle.gpu_trace_text.specs.declared.d3d12.setting.Setting.TheVariants.{Tier, Interface, Shared}
use Rattle.gpu_trace_text.specs.declared.d3d12.setting.Version.{Version}
use Rattle.gpu_trace_text.specs.declared.d3d12.setting.Version.TheVariants.{Device, Device10, Device12}

-- what the lines of the configuration said
pub record Configured : Type 0 where
  -- the heap tier, or the code with which the device can't tell it
  pub tier : Option (Result ResourceHeapTier ℤ)
  -- the newest interface
  pub version : Option Version
  pub sizes : Option Sizes
  -- which questions of the device are refused, by their number
  pub refusals : List (ℕ × Refusal)

-- before the first of them
abbrev pub nothing_configured : Configured
nothing_configured = record { tier = None; version = None; sizes = None; refusals = [] }

-- what is set once: None where it was set before
abbrev pub once : {A : Type 0} → Option A → Configured → Option Configured
once None c = Some c
once (Some was) c = None

-- block sizes are set once, and each refusal is one more; a heap, a memory type and a page size are none of a DirectX 12 trace
abbrev pub configured_shared : Configured → device.Setting → Option Configured
configured_shared c (BlockSizes device host max_device max_host) = once c.sizes (record c { sizes = Some (sizes_of device host max_device max_host) })
configured_shared c (Refuse question refusal) = Some (record c { refusals = c.refusals ++ (question, refusal) ∷ [] })
configured_shared c (Heap size) = None
configured_shared c (MemoryType flags heap) = None
configured_shared c (Granularity bytes) = None

-- the configuration with one line more, None where that was set before
abbrev pub configured_by : Configured → Setting → Option Configured
configured_by c (Tier tier) = once c.tier (record c { tier = Some tier })
configured_by c (Interface version) = once c.version (record c { version = Some version })
configured_by c (Shared s) = configured_shared c s

-- tier 2, unless a line says another
abbrev pub tier_by : Configured → Result ResourceHeapTier ℤ
tier_by c = unwrap_or c.tier (Ok Tier2)

-- the device refuses the questions that the lines name
abbrev pub plan_by : Configured → Plan
plan_by c = record { script = c.refusals; questions = 0; issued = 0 }

-- the latest interface, unless a line says another
abbrev pub version_by : Configured → Version
version_by c = unwrap_or c.version Device12

-- the sizes that were set, or those without a choice
abbrev pub sizes_by : Configured → Sizes
sizes_by c = unwrap_or c.sizes default_sizes

-- a device by this interface
abbrev pub by_version : {D : Type 0} → Version → D → ID3D12DeviceVersion D
by_version Device d = versions.Device d
by_version Device10 d = versions.Device10 d
by_version Device12 d = versions.Device12 d
