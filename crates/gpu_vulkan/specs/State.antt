-- What callers see of an allocator.
use Rattle.std.specs.Prelude.{◌≡◌}
use Rattle.gpu_device.specs.declared.vulkan.types.DeviceMemory.{DeviceMemory}
use Rattle.gpu_core.specs.Budgets.{Budgets}
use Rattle.gpu_pool.specs.State as pools
use Rattle.gpu_vulkan.specs.Setup.{Setup}
use Rattle.gpu_vulkan.specs.Blocks.{Slots}
use Rattle.gpu_vulkan.specs.Source.{SourceState}

-- the device, what it was when it was handed in, what the allocator is made with, the blocks, and the budgets of memory types
pub record State (D : Type 0) : Type 0 where
  pub device : D
  pub first : D
  pub setup : Setup
  pub slots : Slots
  pub budgets : Budgets

-- a pool over a device
abbrev pub Pool : (D : Type 0) → Type 0
Pool D = pools.State (SourceState D) DeviceMemory

-- what a pool is made with: the sizes of blocks are the pool's own
abbrev pub setup_of : {D : Type 0} → Pool D → Setup
setup_of p = record p.source.setup { sizes = p.sizes }

-- the allocator over a pool
abbrev pub state_of : {D : Type 0} → Pool D → State D
state_of p = record { device = p.source.device; first = p.source.first; setup = setup_of p; slots = p.slots; budgets = p.budgets }

-- what an allocation leaves of a pool: all but the blocks and the device
pub record IsConstant {D : Type 0} (old new : Pool D) : Type 0 where
  pub first : new.source.first ≡ old.source.first
  pub setup : setup_of new ≡ setup_of old
  pub budgets : new.budgets ≡ old.budgets
