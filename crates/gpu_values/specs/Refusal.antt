-- Why a call is refused, as contracts compare it.
use Rattle.std.specs.Prelude.{ℕ, ℤ, List, Option, Some, None, Result, Ok, Err}
use Rattle.gpu_values.specs.declared.error.AllocationError.{AllocationError}
use Rattle.gpu_values.specs.declared.error.AllocationError.TheVariants as errors

-- a refusal: a fault is its text's bytes and its code
pub data Refusal : Type 0 where
  out_of_memory : Refusal
  failed_to_map : List ℕ → Option ℤ → Refusal
  no_compatible_memory_type_found : Refusal
  invalid_allocation_create_desc : Refusal
  invalid_allocator_create_desc : List ℕ → Option ℤ → Refusal
  internal : List ℕ → Option ℤ → Refusal
  barrier_layout_needs_device10 : Refusal
  castable_formats_requires_enhanced_barriers : Refusal
  castable_formats_requires_at_least_device12 : Refusal
  host_out_of_memory : Refusal
  budget_exceeded : Refusal

abbrev pub refusal_of : AllocationError → Refusal
refusal_of errors.OutOfMemory = out_of_memory
refusal_of (errors.FailedToMap fault) = failed_to_map fault.text.now fault.code
refusal_of errors.NoCompatibleMemoryTypeFound = no_compatible_memory_type_found
refusal_of errors.InvalidAllocationCreateDesc = invalid_allocation_create_desc
refusal_of (errors.InvalidAllocatorCreateDesc fault) = invalid_allocator_create_desc fault.text.now fault.code
refusal_of (errors.Internal fault) = internal fault.text.now fault.code
refusal_of errors.BarrierLayoutNeedsDevice10 = barrier_layout_needs_device10
refusal_of errors.CastableFormatsRequiresEnhancedBarriers = castable_formats_requires_enhanced_barriers
refusal_of errors.CastableFormatsRequiresAtLeastDevice12 = castable_formats_requires_at_least_device12
refusal_of errors.HostOutOfMemory = host_out_of_memory
refusal_of errors.BudgetExceeded = budget_exceeded

-- the refusal that a result holds
abbrev pub refusal_in : {V : Type 0} → Result V AllocationError → Option Refusal
refusal_in (Ok _) = None
refusal_in (Err e) = Some (refusal_of e)
