-- Limits of heaps: what the blocks of all memory types that lie in one may sum up to.
use Rattle.std.specs.Prelude.{◌≡◌, ℕ, ◌+◌, ◌-◌, ◌==◌, min, suc, nat_lt, if◌then◌else◌, Bool, false, List, [], ◌∷◌, All, Option, Some, None, slice_get}
use Rattle.std.specs.List.{slice_index_or}
use Rattle.gpu_core.specs.Blocks.{Slots, slots_at}
use Rattle.gpu_core.specs.TypeState.{capacity_of}
use Rattle.gpu_device.specs.declared.vulkan.types.MemoryTypeInfo.{MemoryTypeInfo}

-- of each heap its limit in bytes, where it has one
abbrev pub Limits : Type 0
Limits = List (Option ℕ)

-- a heap that isn't there has none
abbrev pub limit_at : Limits → (heap : ℕ) → Option ℕ
limit_at limits heap = slice_index_or limits heap None

abbrev pub HasNoLimits : Limits → Type 0
HasNoLimits limits = All (λ limit. limit ≡ None) limits

-- the sum of the sizes of a heap's blocks, of the memory types from the t-th on
abbrev pub held_from : {H : Type 0} → List MemoryTypeInfo → (heap t : ℕ) → Slots H → ℕ
held_from [] heap t slots = 0
held_from (info ∷ infos) heap t slots = (if info.heap_index == heap then capacity_of (slots_at slots t) else 0) + held_from infos heap (suc t) slots

-- the sum of the sizes of a heap's blocks
abbrev pub held_in : {H : Type 0} → List MemoryTypeInfo → (heap : ℕ) → Slots H → ℕ
held_in infos heap slots = held_from infos heap 0 slots

-- what is left of a limit, unless more is held
abbrev pub left_of : (limit held : ℕ) → Option ℕ
left_of limit held = if nat_lt limit held then None else Some (limit - held)

-- of so many bytes those that a bound leaves
abbrev pub within : (bound : Option ℕ) → (held most : ℕ) → ℕ
within None held most = most
within (Some bound) held most = min most (bound - held)

abbrev pub within_of : {H : Type 0} → Option MemoryTypeInfo → List MemoryTypeInfo → Limits → Slots H → (most : ℕ) → ℕ
within_of None infos limits slots most = most
within_of (Some info) infos limits slots most = within (limit_at limits info.heap_index) (held_in infos info.heap_index slots) most

-- of so many bytes those that the limit of the t-th memory type's heap leaves
abbrev pub within_limit : {H : Type 0} → List MemoryTypeInfo → Limits → Slots H → (t most : ℕ) → ℕ
within_limit infos limits slots t most = within_of (slice_get infos t) infos limits slots most

abbrev pub is_above : (held : ℕ) → (limit : Option ℕ) → (size : ℕ) → Bool
is_above held None size = false
is_above held (Some limit) size = nat_lt limit (held + size)

-- a block of that size, of such a memory type, would be above its heap's limit
abbrev pub passes_of : {H : Type 0} → Option MemoryTypeInfo → List MemoryTypeInfo → Limits → Slots H → (size : ℕ) → Bool
passes_of None infos limits slots size = false
passes_of (Some info) infos limits slots size = is_above (held_in infos info.heap_index slots) (limit_at limits info.heap_index) size

-- the same of the t-th memory type
abbrev pub passes_limit : {H : Type 0} → List MemoryTypeInfo → Limits → Slots H → (t size : ℕ) → Bool
passes_limit infos limits slots t size = passes_of (slice_get infos t) infos limits slots size
