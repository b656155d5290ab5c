-- What allocators say of their blocks, and of budgets.
use Rattle.std.specs.Prelude.{◌≡◌, ℕ, ◌<◌, ◌≤◌, Vec, String, length, map, Option, Result, IfOk, IfErr, IsOk, IsErr, string_bytes}
use Rattle.std.specs.Global.{Global}
use Rattle.gpu_values.specs.Refusal.{refusal_in}
use Rattle.gpu_values.specs.Report.{report_of}
use Rattle.gpu_values.specs.declared.error.AllocationError.{AllocationError}
use Rattle.gpu_values.specs.declared.error.AllocationError.TheVariants.{HostOutOfMemory}
use Rattle.gpu_values.specs.declared.report.AllocatorReport.{AllocatorReport}
use Rattle.gpu_block_pieces.specs.Leak.{leak_text}
use Rattle.gpu_core.specs.Blocks.{Slots, total_capacity}
use Rattle.gpu_core.specs.Budgets.{Budgets, SetsBudget}
use Rattle.gpu_core.specs.Leaks.{all_leaks}
use Rattle.gpu_core.specs.Reports.{whole_report}

-- the report of these blocks, or a host without memory for it
pub record Reports {H : Type 0} (slots : Slots H) (result : Result AllocatorReport AllocationError) : Type 0 where
  pub report : IfOk result (λ r. report_of r ≡ whole_report slots)
  pub capacity : IfOk result (λ r. r.total_capacity_bytes ≡ total_capacity slots)
  pub cause : IfErr result (λ e. e ≡ HostOutOfMemory)

-- the texts of all live pieces of these blocks, or a host without memory for them
pub record TextsLeaks {H : Type 0} (slots : Slots H) (result : Result (Vec (String Global) Global) AllocationError) : Type 0 where
  pub texts : IfOk result (λ v. map string_bytes v.items ≡ map leak_text (all_leaks slots))
  pub cause : IfErr result (λ e. e ≡ HostOutOfMemory)

-- the memory type at the index has this budget from now on, which is refused just where there is no such type
pub record SetsBudgetAt {H : Type 0} (slots : Slots H) (index : ℕ) (budget : Option ℕ) (old : Budgets) (result : Result (Unit {0}) AllocationError) (new : Budgets) : Type 0 where
  pub sets : SetsBudget index budget old (refusal_in result) new
  pub found : index < length slots → IsOk result
  pub missing : length slots ≤ index → IsErr result
