-- The greatest sum that the blocks of a memory type may have now, whatever bounds it: its budget, the limit of its heap, or how many blocks there may be.
use Rattle.std.specs.Prelude.{◌≡◌, ℕ, ◌+◌, ◌-◌, ◌<◌, min, if◌then◌else◌, ◌||◌, not, List, Option, Some, None, slice_get}
use Rattle.std.specs.Option.{option_map}
use Rattle.gpu_core.specs.Blocks.{Slots, slots_at}
use Rattle.gpu_core.specs.Budgets.{budget_at}
use Rattle.gpu_core.specs.TypeState.{capacity_of, fits_budget}
use Rattle.gpu_device.specs.declared.vulkan.types.MemoryTypeInfo.{MemoryTypeInfo}
use Rattle.gpu_machine.specs.VulkanAttempt.{is_forbidden}
use Rattle.gpu_machine.specs.VulkanBlockCount.{has_most}
use Rattle.gpu_machine.specs.VulkanHeapLimit.{Limits, limit_at, held_in, is_above}
use Rattle.gpu_machine.specs.VulkanState.{State}

-- the lesser of two bounds
abbrev pub lesser : Option ℕ → Option ℕ → Option ℕ
lesser None b = b
lesser (Some a) None = Some a
lesser (Some a) (Some b) = Some (min a b)

-- what the blocks of the other memory types leave of the limit of the t-th one's heap
abbrev pub heap_left : {H : Type 0} → Option MemoryTypeInfo → List MemoryTypeInfo → Limits → Slots H → (t : ℕ) → Option ℕ
heap_left None infos limits slots t = None
heap_left (Some info) infos limits slots t =
    option_map (λ limit. limit - (held_in infos info.heap_index slots - capacity_of (slots_at slots t))) (limit_at limits info.heap_index)

-- the sum as it is, where no block may come
abbrev pub held_where_full : {H : Type 0} → (most : Option ℕ) → Slots H → (t : ℕ) → Option ℕ
held_where_full most slots t = if has_most most slots then Some (capacity_of (slots_at slots t)) else None

-- the least of all three
abbrev pub bound_at : {H : Type 0} → State H → (t : ℕ) → Option ℕ
bound_at s t =
    lesser (budget_at s.requests.budgets t)
    (lesser (held_where_full s.most_blocks s.requests.slots t) (heap_left (slice_get s.setup.properties.types t) s.setup.properties.types s.limits s.requests.slots t))

-- a block, which isn't empty, brings the sum above that bound just where it brings it above the budget, or is forbidden
abbrev pub BoundsBlocks : {H : Type 0} → State H → (t : ℕ) → (bound : Option ℕ) → Type 0
BoundsBlocks s t bound =
    let held = capacity_of (slots_at s.requests.slots t) in (size : ℕ) → 0 < size
    → is_above held bound size ≡ (not (fits_budget (budget_at s.requests.budgets t) (held + size)) || is_forbidden s t size)
