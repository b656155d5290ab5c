use Rattle.std.proofs.Common.{◌≡◌, ◌≤◌, drop, length}
use Rattle.gpu_device.specs.D3D12History.{scripted}
use Rattle.gpu_device.proofs.d3d12.journal.Journal.with_script.Given as goal

-- the entries from this one on stand in the history
abbrev pub invariant-loop-left : goal.invariant-loop-left
invariant-loop-left l = (l.journal.history ≡ scripted (drop l.left l.entries)) × (l.left ≤ length l.entries)

abbrev pub decreases-loop-left : goal.decreases-loop-left
decreases-loop-left l = l.left
