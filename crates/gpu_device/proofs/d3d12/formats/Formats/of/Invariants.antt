use Rattle.std.proofs.Common.{◌≡◌, length, ◌≤◌, drop}
use Rattle.gpu_device.proofs.d3d12.formats.Formats.of.Given as goal

abbrev pub invariant-loop-index : goal.invariant-loop-index
invariant-loop-index l = (l.index ≤ length l.formats) × (l.list ≡ drop l.index l.formats)

abbrev pub decreases-loop-index : goal.decreases-loop-index
decreases-loop-index l = l.index
