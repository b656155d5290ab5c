use Rattle.std.proofs.Common.{◌≡◌, ◌-◌, drop, length}
use Rattle.gpu_core.specs.Leaks.{leaks_beginning}
use Rattle.gpu_core.specs.Types.{slots_of}
use Rattle.gpu_core.proofs.memory_types.leaks.next_from.Given as goal

abbrev pub invariant-loop-index : goal.invariant-loop-index
invariant-loop-index g l =
    leaks_beginning l.index (slots_of (drop l.index l.types)) ≡ leaks_beginning l.initial.index (slots_of (drop l.initial.index l.types))

abbrev pub decreases-loop-index : goal.decreases-loop-index
decreases-loop-index g l = length l.types - l.index
