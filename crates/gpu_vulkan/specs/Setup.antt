-- What an allocator is made with, and never changes.
use Rattle.std.specs.Prelude.{◌≡◌, ℕ, ◌≤◌, ◌==◌, Bool, false, List, length, Option, Some, None, codes, IsTrue, if◌then◌else◌, nat_le, nat_lt, not}
use Rattle.std.specs.List.{list_any}
use Rattle.std.specs.Int.{is_power_of_two}
use Rattle.gpu_values.specs.Refusal.{Refusal, invalid_allocator_create_desc}
use Rattle.gpu_values.specs.Sizes.{Sizes}
use Rattle.gpu_values.specs.declared.allocator_debug_settings.AllocatorDebugSettings.{AllocatorDebugSettings}
use Rattle.gpu_device.specs.Properties.{Properties}
use Rattle.gpu_device.specs.declared.vulkan.types.MemoryHeap.{MemoryHeap}
use Rattle.gpu_device.specs.declared.vulkan.types.MemoryTypeInfo.{MemoryTypeInfo}

-- what the device told, and what the allocator's maker chose
pub record Setup : Type 0 where
  pub properties : Properties
  pub sizes : Sizes
  pub debug : AllocatorDebugSettings
  pub device_address : Bool

-- what a device told, taken together
abbrev pub properties_told : List MemoryTypeInfo → List MemoryHeap → (granularity : ℕ) → Properties
properties_told types heaps granularity = record { types = types; heaps = heaps; granularity = granularity }

-- the memory type lies in a heap that isn't there
abbrev pub lacks_heap : Properties → MemoryTypeInfo → Bool
lacks_heap p info = nat_le (length p.heaps) info.heap_index

abbrev pub fault : (text : List ℕ) → Option Refusal
fault text = Some (invalid_allocator_create_desc text None)

-- each memory type lies in a heap that is there, there are at most 32, and the pages are a power of two
pub record IsValid (p : Properties) : Type 0 where
  pub granularity : IsTrue (is_power_of_two p.granularity)
  pub few : length p.types ≤ 32
  pub heaps : list_any (lacks_heap p) p.types ≡ false

-- why no allocator is made of a device, the first reason that holds
abbrev pub setup_fault : (physical_device : ℕ) → Properties → Option Refusal
setup_fault physical_device p =
    if physical_device == 0 then fault (codes "AllocatorCreateDesc field `physical_device` is null.") else
    (if not (is_power_of_two p.granularity) then fault (codes "buffer image granularity is not a power of two.") else
    (if nat_lt 32 (length p.types) then fault (codes "more than 32 memory types.") else
    (if list_any (lacks_heap p) p.types then fault (codes "memory type with a heap index out of range.") else None)))
