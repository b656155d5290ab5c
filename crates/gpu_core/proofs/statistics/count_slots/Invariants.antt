use Rattle.std.proofs.Common.{◌≡◌, drop}
use Rattle.gpu_core.specs.TypeReport.{counted_with, nothing_counted}
use Rattle.gpu_core.specs.Slots.{slots_of}
use Rattle.gpu_core.proofs.statistics.count_slots.Given as goal

abbrev pub invariant-loop-slot : goal.invariant-loop-slot
invariant-loop-slot g l = counted_with l.counted (slots_of (drop l.slot-index l.slots)) ≡ counted_with nothing_counted (slots_of l.slots)
