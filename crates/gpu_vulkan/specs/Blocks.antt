-- The live blocks of all memory types, and what the device holds of them.
use Rattle.std.specs.Prelude.{◌≡◌, ℕ}
use Rattle.std.specs.Option.{is_some}
use Rattle.gpu_device.specs.Held.{Held, Entry}
use Rattle.gpu_device.specs.Properties.{Properties}
use Rattle.gpu_device.specs.declared.vulkan.types.DeviceMemory.{DeviceMemory}
use Rattle.gpu_core.specs.Blocks as all
use Rattle.gpu_core.specs.Blocks.{slots_at}
use Rattle.gpu_core.specs.Held.{HoldsBlocks}
use Rattle.gpu_vulkan.specs.Types.{is_mapped}

-- the slots of each memory type
abbrev pub Slots : Type 0
Slots = all.Slots DeviceMemory

-- the device's number of a memory
abbrev pub memory_number : DeviceMemory → ℕ
memory_number memory = memory.0

-- the device's entry of a block: of its size and type, and mapped where blocks of its type are
abbrev pub IsBlockEntry : Properties → (t size : ℕ) → Entry → Type 0
IsBlockEntry p t size e = (e.size ≡ size) × (e.memory_type_index ≡ t) × (is_some e.bytes ≡ is_mapped p t)

-- the device holds what it held at first, and just the live blocks
abbrev pub HoldsJustLiveBlocks : Properties → (first held : Held) → Slots → Type 0
HoldsJustLiveBlocks p first held slots = HoldsBlocks memory_number (IsBlockEntry p) first held slots
