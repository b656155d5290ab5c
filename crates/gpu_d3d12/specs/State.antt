-- What callers see of an allocator.
use Rattle.std.specs.Prelude.{List}
use Rattle.gpu_values.specs.Sizes.{Sizes}
use Rattle.gpu_values.specs.declared.allocator_debug_settings.AllocatorDebugSettings.{AllocatorDebugSettings}
use Rattle.gpu_device.specs.D3D12.{Held, Properties}
use Rattle.gpu_device.specs.declared.d3d12.device.D3D12Device.{Ghosts}
use Rattle.gpu_device.specs.declared.d3d12.event.Event.{Event}
use Rattle.gpu_device.specs.declared.d3d12.types.ID3D12Heap.{ID3D12Heap}
use Rattle.gpu_device.specs.declared.d3d12.types.ResourceHeapTier.{ResourceHeapTier}
use Rattle.gpu_core.specs.Budgets.{Budgets}
use Rattle.gpu_d3d12.specs.DeviceVersion.{device_of}
use Rattle.gpu_d3d12.specs.declared.device_version.ID3D12DeviceVersion.{ID3D12DeviceVersion}
use Rattle.gpu_d3d12.specs.declared.device_version.ID3D12DeviceVersion.TheVariants.{Device, Device10, Device12}
use Rattle.gpu_pool.specs.State as pools
use Rattle.gpu_d3d12.specs.Blocks.{Slots}
use Rattle.gpu_d3d12.specs.Committed.{Committed}
use Rattle.gpu_d3d12.specs.declared.journal.ResourceEvent.{ResourceEvent}
use Rattle.gpu_d3d12.specs.Source.{SourceState, source_beside}

-- what an allocator is made with, and never changes: the device's heap tier, how large its blocks are, and what is logged
pub record Setup : Type 0 where
  pub tier : ResourceHeapTier
  pub sizes : Sizes
  pub debug : AllocatorDebugSettings

-- the device, what it was when it was handed in, what the allocator is made with, the blocks, the budgets of memory types, the committed resources, and
-- which resources were made and released
pub record State (D : Type 0) : Type 0 where
  pub device : ID3D12DeviceVersion D
  pub first : ID3D12DeviceVersion D
  pub setup : Setup
  pub slots : Slots
  pub budgets : Budgets
  pub committed : Committed
  pub journal : List ResourceEvent

-- a pool over a device
abbrev pub Pool : (D : Type 0) → Type 0
Pool D = pools.State (SourceState D) ID3D12Heap

-- the pool of an allocator
abbrev pub pool_of : {D : Type 0} → State D → Pool D
pool_of s = record {
  source = record { device = s.device; first = s.first; tier = s.setup.tier; journal = s.journal };
  sizes = s.setup.sizes;
  slots = s.slots;
  budgets = s.budgets;
}

-- the allocator over a pool
abbrev pub state_of : {D : Type 0} → Pool D → Committed → AllocatorDebugSettings → State D
state_of p committed debug = record {
  device = p.source.device;
  first = p.source.first;
  setup = record { tier = p.source.tier; sizes = p.sizes; debug = debug };
  slots = p.slots;
  budgets = p.budgets;
  committed = committed;
  journal = p.source.journal;
}

-- what the device holds beside the live blocks
abbrev pub beside_of : {D : Type 0} → Ghosts D → State D → Held
beside_of g s = source_beside g (pool_of s).source

-- ---- what no call changes

-- the newest interface of a device, without the device
abbrev pub interface_of : {D : Type 0} → ID3D12DeviceVersion D → ID3D12DeviceVersion (Unit {0})
interface_of (Device d) = Device tt
interface_of (Device10 d) = Device10 tt
interface_of (Device12 d) = Device12 tt

-- the device's heap tier, its newest interface, and its properties
pub record Basis : Type 0 where
  pub tier : ResourceHeapTier
  pub interface : ID3D12DeviceVersion (Unit {0})
  pub properties : Properties

-- the basis of a source
abbrev pub source_basis : {D : Type 0} → Ghosts D → SourceState D → Basis
source_basis g s = record { tier = s.tier; interface = interface_of s.device; properties = g.properties (device_of s.device) }

-- the basis of an allocator
abbrev pub basis_of : {D : Type 0} → Ghosts D → State D → Basis
basis_of g s = source_basis g (pool_of s).source

-- ---- what calls change

-- the pool, and the committed resources by memory type
pub record Contents (S : Type 0) : Type 0 where
  pub pool : pools.State S ID3D12Heap
  pub committed : Committed

-- the contents of an allocator
abbrev pub contents_of : {D : Type 0} → State D → Contents (SourceState D)
contents_of s = record { pool = pool_of s; committed = s.committed }

-- what a model sees of a device: what it holds beside the blocks, and all that it was asked and was given back
pub record Seen : Type 0 where
  pub beside : Held
  pub history : List Event

-- what is seen of a device
abbrev pub seen_of : {D : Type 0} → Ghosts D → SourceState D → Seen
seen_of g s = record { beside = source_beside g s; history = g.history (device_of s.device) }

-- the contents over what is seen of the device
abbrev pub Model : Type 0
Model = Contents Seen

-- the same contents over what a model sees of the source
abbrev pub over : {S T : Type 0} → (S → T) → Contents S → Contents T
over view c = record { pool = pools.over view c.pool; committed = c.committed }

-- an allocator as a model
abbrev pub model_of : {D : Type 0} → Ghosts D → State D → Model
model_of g s = over (seen_of g) (contents_of s)

-- the same contents, where no memory type has a budget
abbrev pub without_budgets : {S : Type 0} → Contents S → Contents S
without_budgets c = record c { pool = pools.without_budgets c.pool }
