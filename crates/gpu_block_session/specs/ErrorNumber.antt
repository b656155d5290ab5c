-- The numbers of errors in a trace.
use Rattle.std.specs.Prelude.{ℕ, List, codes}
use Rattle.gpu_values.specs.declared.error.AllocationError.{AllocationError}
use Rattle.gpu_values.specs.declared.error.AllocationError.TheVariants as errors
use Rattle.gpu_block_session.specs.declared.error_number.ErrorNumber.{ErrorNumber}
use Rattle.gpu_block_session.specs.declared.error_number.ErrorNumber.TheVariants.{E1, E2, E3, E4, E5, E6, E7, E8, E9, E10, E11}

abbrev pub number_of : AllocationError → ErrorNumber
number_of errors.OutOfMemory = E1
number_of (errors.FailedToMap _) = E2
number_of errors.NoCompatibleMemoryTypeFound = E3
number_of errors.InvalidAllocationCreateDesc = E4
number_of (errors.InvalidAllocatorCreateDesc _) = E5
number_of (errors.Internal _) = E6
number_of errors.BarrierLayoutNeedsDevice10 = E7
number_of errors.CastableFormatsRequiresEnhancedBarriers = E8
number_of errors.CastableFormatsRequiresAtLeastDevice12 = E9
number_of errors.HostOutOfMemory = E10
number_of errors.BudgetExceeded = E11

abbrev pub number_text : ErrorNumber → List ℕ
number_text E1 = codes "E1"
number_text E2 = codes "E2"
number_text E3 = codes "E3"
number_text E4 = codes "E4"
number_text E5 = codes "E5"
number_text E6 = codes "E6"
number_text E7 = codes "E7"
number_text E8 = codes "E8"
number_text E9 = codes "E9"
number_text E10 = codes "E10"
number_text E11 = codes "E11"
