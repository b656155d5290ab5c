-- The statuses of the library's errors.
use Rattle.std.specs.Prelude.{◌≡◌, ◌⊎◌, ℕ, List, [], ◌∷◌}
use Rattle.gpu_values.specs.Refusal as refusals
use Rattle.gpu_values.specs.Refusal.{Refusal}
use Rattle.gpu_values.specs.declared.error.AllocationError.{AllocationError}
use Rattle.gpu_values.specs.declared.error.AllocationError.TheVariants as errors

-- ---- what calls return: 1 to 11 are the numbers of the library's errors, 12 and 13 split the sixth, 14 and 15 the fifth, from 100 on a handle is in the wrong state

-- the call did what it says
abbrev pub ok : ℕ
ok = 0

-- no place in the block, or a sum of blocks' sizes past 64 bits
abbrev pub out_of_memory : ℕ
out_of_memory = 1

-- the driver granted memory and didn't map it
abbrev pub failed_to_map : ℕ
failed_to_map = 2

-- no memory type that the request allows is what its location needs
abbrev pub no_memory_type : ℕ
no_memory_type = 3

-- a request or a setting that nobody serves
abbrev pub invalid : ℕ
invalid = 4

-- a device's page size is no power of two
abbrev pub invalid_device : ℕ
invalid_device = 5

-- no live piece, or no record of a committed resource, is the one that was named
abbrev pub not_live : ℕ
not_live = 6

-- a resource begins in a barrier layout, and the device is no ID3D12Device10
abbrev pub layout_needs_device10 : ℕ
layout_needs_device10 = 7

-- a resource has castable formats, and begins in a state
abbrev pub formats_need_layout : ℕ
formats_need_layout = 8

-- a resource has castable formats, and the device is no ID3D12Device12
abbrev pub formats_need_device12 : ℕ
formats_need_device12 = 9

-- the host refused memory
abbrev pub host_out_of_memory : ℕ
host_out_of_memory = 10

-- a block more would pass the budget
abbrev pub budget_exceeded : ℕ
budget_exceeded = 11

-- the driver refused memory for a cause without a status of its own
abbrev pub driver_refused : ℕ
driver_refused = 12

-- no memory type has that index
abbrev pub no_such_type : ℕ
no_such_type = 13

-- a device has more memory types than Vulkan has bits for
abbrev pub too_many_types : ℕ
too_many_types = 14

-- a device's memory type lies in a heap that isn't there
abbrev pub no_such_heap : ℕ
no_such_heap = 15

-- a device's resource heap tier is 0
abbrev pub invalid_tier : ℕ
invalid_tier = 16

-- the handle is empty
abbrev pub no_handle : ℕ
no_handle = 100

-- the handle isn't empty
abbrev pub in_use : ℕ
in_use = 101

-- a block is awaited
abbrev pub awaits_block : ℕ
awaits_block = 102

-- no block is awaited
abbrev pub awaits_no_block : ℕ
awaits_no_block = 103

-- a question is open
abbrev pub awaits_answer : ℕ
awaits_answer = 104

-- no question is open
abbrev pub awaits_no_answer : ℕ
awaits_no_answer = 105

-- there is no room for a frame more in flight
abbrev pub too_many_frames : ℕ
too_many_frames = 106

-- blocks and memory types return no other error than the first five; Internal is theirs for a piece that isn't live
abbrev pub status_of : AllocationError → ℕ
status_of errors.OutOfMemory = out_of_memory
status_of errors.HostOutOfMemory = host_out_of_memory
status_of errors.InvalidAllocationCreateDesc = invalid
status_of errors.BudgetExceeded = budget_exceeded
status_of (errors.Internal _) = not_live
status_of (errors.FailedToMap _) = not_live
status_of errors.NoCompatibleMemoryTypeFound = not_live
status_of (errors.InvalidAllocatorCreateDesc _) = not_live
status_of errors.BarrierLayoutNeedsDevice10 = not_live
status_of errors.CastableFormatsRequiresEnhancedBarriers = not_live
status_of errors.CastableFormatsRequiresAtLeastDevice12 = not_live

-- the status of an allocator's refusal; what the driver refused for a cause without an error of its own is driver_refused
abbrev pub refusal_status : Refusal → ℕ
refusal_status refusals.out_of_memory = out_of_memory
refusal_status (refusals.failed_to_map text code) = failed_to_map
refusal_status refusals.no_compatible_memory_type_found = no_memory_type
refusal_status refusals.invalid_allocation_create_desc = invalid
refusal_status (refusals.invalid_allocator_create_desc text code) = invalid_device
refusal_status (refusals.internal text code) = driver_refused
refusal_status refusals.barrier_layout_needs_device10 = layout_needs_device10
refusal_status refusals.castable_formats_requires_enhanced_barriers = formats_need_layout
refusal_status refusals.castable_formats_requires_at_least_device12 = formats_need_device12
refusal_status refusals.host_out_of_memory = host_out_of_memory
refusal_status refusals.budget_exceeded = budget_exceeded

-- a call returns no other status than these
abbrev pub IsOneOf : ℕ → List ℕ → Type 0
IsOneOf status [] = ⊥
IsOneOf status (s ∷ statuses) = (status ≡ s) ⊎ IsOneOf status statuses
