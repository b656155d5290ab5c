-- The configuration of a Metal trace: the simulated device, the block sizes and the wish for a residency set.
use Rattle.std.specs.Prelude.{ℕ, Bool, true, false, List, [], ◌∷◌, ◌++◌, Option, Some, None}
use Rattle.std.specs.Option.{unwrap_or}
use Rattle.gpu_values.specs.Sizes.{Sizes, default_sizes}
use Rattle.gpu_device.specs.declared.refusal.Refusal.{Refusal}
use Rattle.gpu_sim_metal.specs.Simulation.{Plan}
use Rattle.gpu_trace_text.specs.declared.device.setting.Setting as device
use Rattle.gpu_trace_text.specs.declared.device.setting.Setting.TheVariants.{Heap, MemoryType, Granularity, Sizes as BlockSizes, Refuse}
use Rattle.gpu_trace_text.specs.Setting.{sizes_of}
use Rattle.gpu_trace_text.specs.declared.metal.setting.Setting.{Setting}
use Rattle.gpu_trace_text.specs.declared.metal.setting.Setting.TheVariants.{Sets, Residency, Shared}

-- what the lines of the configuration said
pub record Configured : Type 0 where
  -- whether the device can make residency sets, and whether one is asked for
  pub sets : Option Bool
  pub residency : Option Bool
  pub sizes : Option Sizes
  -- which questions of the device are refused, by their number
  pub refusals : List (ℕ × Refusal)

-- before the first of them
abbrev pub nothing_configured : Configured
nothing_configured = record { sets = None; residency = None; sizes = None; refusals = [] }

-- what is set once: None where it was set before
abbrev pub once : {A : Type 0} → Option A → Configured → Option Configured
once None c = Some c
once (Some was) c = None

-- block sizes are set once, and each refusal is one more; a heap, a memory type and a page size are none of a Metal trace
abbrev pub configured_shared : Configured → device.Setting → Option Configured
configured_shared c (BlockSizes device host max_device max_host) = once c.sizes (record c { sizes = Some (sizes_of device host max_device max_host) })
configured_shared c (Refuse question refusal) = Some (record c { refusals = c.refusals ++ (question, refusal) ∷ [] })
configured_shared c (Heap size) = None
configured_shared c (MemoryType flags heap) = None
configured_shared c (Granularity bytes) = None

-- the configuration with one line more, None where that was set before
abbrev pub configured_by : Configured → Setting → Option Configured
configured_by c (Sets b) = once c.sets (record c { sets = Some b })
configured_by c (Residency b) = once c.residency (record c { residency = Some b })
configured_by c (Shared s) = configured_shared c s

-- the device makes sets unless a line says no
abbrev pub makes_sets : Configured → Bool
makes_sets c = unwrap_or c.sets true

-- the device refuses the questions that the lines name
abbrev pub plan_by : Configured → Plan
plan_by c = record { residency = makes_sets c; script = c.refusals; questions = 0; issued = 0 }

-- a set is asked for where a line says yes
abbrev pub wants_set : Configured → Bool
wants_set c = unwrap_or c.residency false

-- the sizes that were set, or those without a choice
abbrev pub sizes_by : Configured → Sizes
sizes_by c = unwrap_or c.sizes default_sizes
