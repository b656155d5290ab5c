use Rattle.std.proofs.Common.{◌≡◌, ◌-◌, length}
use Rattle.gpu_core.specs.Types.{slots_of}
use Rattle.gpu_pool.specs.Handles.{handles_from}
use Rattle.gpu_pool.proofs.handles.next_from.Given as goal

abbrev pub invariant-loop-at : goal.invariant-loop-at
invariant-loop-at g l =
    let slots = slots_of l.types in
    handles_from l.at l.first slots ≡ handles_from l.index l.slot slots

abbrev pub decreases-loop-at : goal.decreases-loop-at
decreases-loop-at g l = length l.types - l.at
