-- Smaller blocks: in a small heap, within bounds, and where the driver has no room for one.
use Rattle.std.specs.Prelude.{ℕ, ◌*◌, ◌/◌, ◌&&◌, not, nat_lt, nat_le, if◌then◌else◌, Bool, true, false, Option, Some, None}
use Rattle.gpu_values.specs.Refusal.{Refusal}
use Rattle.gpu_values.specs.Sizes.{Sizes, mb, sizes_at_most}
use Rattle.gpu_core.specs.Blocks.{slots_at}
use Rattle.gpu_core.specs.Budgets.{budget_at}
use Rattle.gpu_core.specs.TypeState.{capacity_of}
use Rattle.gpu_pool.specs.declared.requests.Question.{Question}
use Rattle.gpu_vulkan.specs.Types.{heap_size}
use Rattle.gpu_machine.specs.VulkanHeapLimit.{within, within_limit}
use Rattle.gpu_machine.specs.VulkanRoom.{lacks_room}
use Rattle.gpu_machine.specs.VulkanState.{State}
use Rattle.gpu_machine.specs.declared.vulkan.smaller_blocks.Portion.{Portion}
use Rattle.gpu_machine.specs.declared.vulkan.smaller_blocks.Portion.TheVariants as portion

-- in a heap of at most 1 GB no shared block has more than an eighth of it, or 4 MB
abbrev pub sizes_in_heap : Sizes → (heap : ℕ) → Sizes
sizes_in_heap sizes heap = if nat_le heap (1024 * mb) then sizes_at_most sizes (heap / 8) else sizes

abbrev pub sizes_if : (smaller_blocks : Bool) → Sizes → (heap : ℕ) → Sizes
sizes_if false sizes heap = sizes
sizes_if true sizes heap = sizes_in_heap sizes heap

-- the sizes of the shared blocks of the t-th memory type
abbrev pub sizes_in : {H : Type 0} → State H → (t : ℕ) → Sizes
sizes_in s t = sizes_if s.smaller_blocks s.setup.sizes (heap_size s.setup.properties t)

-- ---- within bounds

-- what the memory type's budget and its heap's limit leave for a block
abbrev pub bytes_left : {H : Type 0} → State H → (t : ℕ) → ℕ
bytes_left s t =
    within (budget_at s.requests.budgets t) (capacity_of (slots_at s.requests.slots t)) (within_limit s.setup.properties.types s.limits s.requests.slots t (256 * mb))

-- the sizes of its shared blocks then
abbrev pub sizes_left : {H : Type 0} → State H → (t : ℕ) → Sizes
sizes_left s t = sizes_at_most (sizes_in s t) (bytes_left s t)

-- ---- after a refusal

-- a half is asked for after the whole, then a quarter
abbrev pub next_portion : Portion → Option Portion
next_portion portion.Whole = Some portion.Half
next_portion portion.Half = Some portion.Quarter
next_portion portion.Quarter = None

-- the block is shared, and larger than the request, and than the smallest block
abbrev pub may_be_smaller : Question → (size : ℕ) → Bool
may_be_smaller block size = not block.dedicated && (nat_lt size block.size && nat_lt (4 * mb) block.size)

abbrev pub portion_if : Bool → Portion → Option Portion
portion_if false p = None
portion_if true p = next_portion p

-- what is asked for once this block of a request of `size` bytes was refused: a smaller one, where there are such, the refusal is for lack of room, and a
-- smaller one may serve
abbrev pub smaller_portion : (smaller_blocks : Bool) → Portion → Question → (size : ℕ) → Refusal → Option Portion
smaller_portion smaller_blocks p block size refusal = portion_if (smaller_blocks && (lacks_room refusal && may_be_smaller block size)) p

-- the sizes of which it is then: at most half as large
abbrev pub smaller_sizes : {H : Type 0} → State H → Question → Sizes
smaller_sizes s block = sizes_at_most s.setup.sizes (block.size / 2)
