use Rattle.std.proofs.Common.{◌≡◌, ◌+◌, ◌≤◌, drop}
use Rattle.gpu_core.specs.TypeState.{capacity_of}
use Rattle.gpu_core.specs.TypeReport.{with_type}
use Rattle.gpu_values.specs.Report.{report_of}
use Rattle.gpu_core.specs.Slots.{slots_of}
use Rattle.gpu_core.proofs.report.add_slots.Given as goal

abbrev pub invariant-loop-slot : goal.invariant-loop-slot
invariant-loop-slot g l = record {
  added : with_type (report_of l.report) (slots_of (drop l.slot-index l.slots)) ≡ with_type (report_of l.initial.report) (slots_of l.slots);
  within : l.report.total_allocated_bytes + l.initial.report.total_capacity_bytes ≤ l.report.total_capacity_bytes + l.initial.report.total_allocated_bytes;
  allocated : l.report.total_allocated_bytes + capacity_of (slots_of (drop l.slot-index l.slots)) ≤ l.initial.report.total_allocated_bytes + capacity_of (slots_of l.slots);
  sum : l.report.total_capacity_bytes + capacity_of (slots_of (drop l.slot-index l.slots)) ≡ l.initial.report.total_capacity_bytes + capacity_of (slots_of l.slots);
}
