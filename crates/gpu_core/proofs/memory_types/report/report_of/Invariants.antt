use Rattle.std.proofs.Common.{◌≡◌, ◌+◌, ◌≤◌, drop}
use Rattle.gpu_values.specs.Report.{report_of}
use Rattle.gpu_core.specs.Blocks.{total_capacity}
use Rattle.gpu_core.specs.Reports.{whole_report}
use Rattle.gpu_core.specs.Types.{slots_of}
use Rattle.gpu_core.proofs.Reporting.{with_all}
use Rattle.gpu_core.proofs.memory_types.report.report_of.Given as goal

abbrev pub invariant-loop-memory_type : goal.invariant-loop-memory_type
invariant-loop-memory_type g l = record {
  added : with_all (report_of l.report) (slots_of (drop l.memory_type-index l.types)) ≡ whole_report (slots_of l.types);
  within : l.report.total_allocated_bytes ≤ l.report.total_capacity_bytes;
  sum : l.report.total_capacity_bytes + total_capacity (slots_of (drop l.memory_type-index l.types)) ≡ total_capacity (slots_of l.types);
}
