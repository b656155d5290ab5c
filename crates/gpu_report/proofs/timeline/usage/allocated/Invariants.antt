use Rattle.std.proofs.Common.{◌≡◌, ◌+◌, ◌≤◌, drop}
use Rattle.gpu_core.specs.TypeState.{capacity_of}
use Rattle.gpu_core.specs.TypeReport.{allocated_of}
use Rattle.gpu_report.proofs.timeline.usage.allocated.Given as goal

abbrev pub invariant-loop-slot : goal.invariant-loop-slot
invariant-loop-slot g l =
    (l.taken + allocated_of (drop l.slot l.memory_type.slots) ≡ allocated_of l.memory_type.slots)
    × (l.taken + capacity_of (drop l.slot l.memory_type.slots) ≤ capacity_of l.memory_type.slots)
