use Rattle.std.proofs.Common.{◌≡◌, ◌++◌, map, drop}
use Rattle.gpu_report.specs.View.{shown, shown_from}
use Rattle.gpu_report.proofs.view.add_views.Given as goal

abbrev pub invariant-loop-slot : goal.invariant-loop-slot
invariant-loop-slot g l =
    map shown l.views.items ++ shown_from l.index l.memory_type.granularity l.slot (drop l.slot l.memory_type.slots)
    ≡ map shown l.initial.views.items ++ shown_from l.index l.memory_type.granularity 0 l.memory_type.slots
