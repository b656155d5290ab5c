-- What errors print.
use Rattle.std.specs.Prelude.{ℕ, List, ◌++◌, codes, Some, None}
use Rattle.std.specs.Fmt.{signed_decimal}
use Rattle.gpu_values.specs.declared.error.Fault.{Fault}
use Rattle.gpu_values.specs.declared.error.AllocationError.{AllocationError}
use Rattle.gpu_values.specs.declared.error.AllocationError.TheVariants as errors

-- a fault's text, and its code where it has one
abbrev pub fault_text : Fault → List ℕ
fault_text fault =
    elim fault.code [ None ↦ fault.text.now | Some code ↦ fault.text.now ++ (codes " (code " ++ (signed_decimal code ++ codes ")")) ]

abbrev pub error_text : AllocationError → List ℕ
error_text errors.OutOfMemory = codes "Out of memory"
error_text (errors.FailedToMap fault) = codes "Failed to map memory: " ++ fault_text fault
error_text errors.NoCompatibleMemoryTypeFound = codes "No compatible memory type available"
error_text errors.InvalidAllocationCreateDesc = codes "Invalid AllocationCreateDesc"
error_text (errors.InvalidAllocatorCreateDesc fault) = codes "Invalid AllocatorCreateDesc " ++ fault_text fault
error_text (errors.Internal fault) = codes "Internal error: " ++ fault_text fault
error_text errors.BarrierLayoutNeedsDevice10 = codes "Initial `BARRIER_LAYOUT` needs at least `Device10`"
error_text errors.CastableFormatsRequiresEnhancedBarriers = codes "Castable formats require enhanced barriers"
error_text errors.CastableFormatsRequiresAtLeastDevice12 = codes "Castable formats require at least `Device12`"
error_text errors.HostOutOfMemory = codes "Out of host memory"
error_text errors.BudgetExceeded = codes "Memory budget exceeded"
