-- An allocation, as its owner holds it, and the piece that it stands for.
use Rattle.std.specs.Prelude.{◌≡◌, ℕ, ◌-◌, ◌^◌, ◌==◌, Bool, true, false, List, slice_get, Option, Some, None, IsSomeAnd, string_bytes}
use Rattle.std.specs.Option.{option_map}
use Rattle.gpu_core.specs.declared.piece.Piece.{Piece}
use Rattle.gpu_device.specs.Held.{Held, range_of}
use Rattle.gpu_device.specs.Properties.{Properties}
use Rattle.gpu_device.specs.declared.vulkan.types.DeviceMemory.{DeviceMemory}
use Rattle.gpu_core.specs.Live as all
use Rattle.gpu_vulkan.specs.Types.{is_host_visible, is_mapped}
use Rattle.gpu_vulkan.specs.Blocks.{Slots}
use Rattle.gpu_vulkan.specs.Describe.{requests_dedicated}
use Rattle.gpu_vulkan.specs.Setup.{Setup}
use Rattle.gpu_vulkan.specs.declared.allocation.Allocation.{Allocation}
use Rattle.gpu_vulkan.specs.declared.describe.AllocationCreateDesc.{AllocationCreateDesc}

-- no piece
abbrev pub null_allocation : Allocation
null_allocation = record {
  chunk_id = None;
  offset = 0;
  size = 0;
  memory_block_index = 2 ^ 64 - 1;
  memory_type_index = 2 ^ 64 - 1;
  device_memory = record { 0 = 0 };
  memory_properties = record { 0 = 0 };
  mapped = false;
  dedicated = false;
  name = None;
}

-- the memory's number, as the device compares it
abbrev pub is_same_memory : DeviceMemory → DeviceMemory → Bool
is_same_memory m n = m.0 == n.0

-- the piece is live in the t-th memory type
abbrev pub IsLiveIn : Slots → (t : ℕ) → Option (Piece DeviceMemory) → Type 0
IsLiveIn slots t p = all.IsLiveIn is_same_memory slots t p

-- the piece that an allocation stands for, None where it is null
abbrev pub piece_of : Allocation → Option (Piece DeviceMemory)
piece_of a =
    option_map (λ n. record { slot = a.memory_block_index; chunk_id = n; offset = a.offset; size = a.size; handle = a.device_memory }) a.chunk_id

-- the allocator has a record with the allocation's type, slot, number, offset, size and memory
abbrev pub IsLive : Slots → Allocation → Type 0
IsLive slots a = IsLiveIn slots a.memory_type_index (piece_of a)

-- the allocation that is given for a piece of the t-th memory type
pub record IsAllocated (setup : Setup) (t : ℕ) (d : AllocationCreateDesc) (p : Piece DeviceMemory) (a : Allocation) : Type 0 where
  pub piece : piece_of a ≡ Some p
  pub memory_type : a.memory_type_index ≡ t
  pub memory : IsSomeAnd (slice_get setup.properties.types t) (λ info. (a.memory_properties ≡ info.property_flags) × (a.mapped ≡ is_host_visible info))
  pub dedicated : a.dedicated ≡ requests_dedicated d.allocation_scheme
  pub name : IsSomeAnd a.name (λ s. string_bytes s ≡ d.name.now)

-- the allocation is live, and lies in memory that the host can see
abbrev pub IsMapped : Properties → Slots → Allocation → Type 0
IsMapped p slots a = IsLive slots a × (is_mapped p a.memory_type_index ≡ true)

-- the bytes at an allocation's place
abbrev pub bytes_at : Held → Allocation → Option (List ℕ)
bytes_at held a = range_of held a.device_memory.0 a.offset a.size
