use Rattle.std.proofs.Common.{◌≡◌, ◌-◌, drop, length}
use Rattle.gpu_core.specs.Blocks.{slots_at}
use Rattle.gpu_core.specs.Types.{slots_of}
use Rattle.gpu_pool.specs.Handles.{handles_in}
use Rattle.gpu_pool.proofs.handles.next_in.Given as goal

abbrev pub invariant-loop-next : goal.invariant-loop-next
invariant-loop-next g l =
    let slots = slots_at (slots_of l.types) l.index in
    handles_in (drop l.next slots) ≡ handles_in (drop l.slot slots)

abbrev pub decreases-loop-next : goal.decreases-loop-next
decreases-loop-next g l = length (slots_at (slots_of l.types) l.index) - l.next
