use Rattle.std.proofs.Common.{◌≡◌, ◌-◌, drop, length}
use Rattle.gpu_core.specs.TypeReport.{leaks_from}
use Rattle.gpu_core.specs.Slots.{slots_of}
use Rattle.gpu_core.proofs.type_leaks.next_from.Given as goal

abbrev pub invariant-loop-slot : goal.invariant-loop-slot
invariant-loop-slot g l =
    leaks_from l.memory_type l.slot (slots_of (drop l.slot l.slots)) ≡ leaks_from l.memory_type l.initial.slot (slots_of (drop l.initial.slot l.slots))

abbrev pub decreases-loop-slot : goal.decreases-loop-slot
decreases-loop-slot g l = length l.slots - l.slot
