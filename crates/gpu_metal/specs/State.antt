-- What callers see of an allocator.
use Rattle.std.specs.Prelude.{List, Option}
use Rattle.gpu_device.specs.declared.metal.device.MetalDevice.{Ghosts}
use Rattle.gpu_device.specs.declared.metal.event.Event.{Event}
use Rattle.gpu_device.specs.declared.metal.types.MTLHeap.{MTLHeap}
use Rattle.gpu_device.specs.declared.metal.types.MTLResidencySet.{MTLResidencySet}
use Rattle.gpu_core.specs.Budgets.{Budgets}
use Rattle.gpu_pool.specs.State as pools
use Rattle.gpu_pool.specs.State.{over}
use Rattle.gpu_values.specs.Sizes.{Sizes}
use Rattle.gpu_values.specs.declared.allocator_debug_settings.AllocatorDebugSettings.{AllocatorDebugSettings}
use Rattle.gpu_metal.specs.Blocks.{Slots, Residency}
use Rattle.gpu_metal.specs.Source.{SourceState, set_of}

-- what an allocator is made with, and never changes: how large its blocks are, what is logged, and the residency set, where one was wanted
pub record Setup : Type 0 where
  pub sizes : Sizes
  pub debug : AllocatorDebugSettings
  pub residency_set : Option MTLResidencySet

-- the device, what it was when it was handed in, what the allocator is made with, the blocks, and the budgets of memory types
pub record State (D : Type 0) : Type 0 where
  pub device : D
  pub first : D
  pub setup : Setup
  pub slots : Slots
  pub budgets : Budgets

-- a pool over a device and its residency set
abbrev pub Pool : (D : Type 0) → Type 0
Pool D = pools.State (SourceState D) MTLHeap

-- the pool of an allocator
abbrev pub pool_of : {D : Type 0} → State D → Pool D
pool_of s = record {
  source = record { device = s.device; first = s.first; set = s.setup.residency_set };
  sizes = s.setup.sizes;
  slots = s.slots;
  budgets = s.budgets;
}

-- the allocator over a pool
abbrev pub state_of : {D : Type 0} → Pool D → AllocatorDebugSettings → State D
state_of p debug = record {
  device = p.source.device;
  first = p.source.first;
  setup = record { sizes = p.sizes; debug = debug; residency_set = p.source.set };
  slots = p.slots;
  budgets = p.budgets;
}

-- ---- as a model

-- what a model sees of a device: the residency set, where there is one, its members, and all that the device was asked and was given back
pub record Seen : Type 0 where
  pub set : Option MTLResidencySet
  pub residency : Option Residency
  pub history : List Event

-- the pool, over what is seen of its device
abbrev pub Model : Type 0
Model = pools.State Seen MTLHeap

-- what is seen of a device and its set
abbrev pub seen_of : {D : Type 0} → Ghosts D → SourceState D → Seen
seen_of g s = record { set = s.set; residency = set_of g s; history = g.history s.device }

-- an allocator as a model
abbrev pub model_of : {D : Type 0} → Ghosts D → State D → Model
model_of g s = over (seen_of g) (pool_of s)
