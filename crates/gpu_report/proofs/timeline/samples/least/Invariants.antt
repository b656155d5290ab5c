use Rattle.std.proofs.Common.{◌≡◌, ◌≤◌, ◌-◌, ◌^◌, min, drop}
use Rattle.gpu_report.specs.Samples.{least}
use Rattle.gpu_report.proofs.timeline.samples.least.Given as goal

abbrev pub invariant-loop-sample : goal.invariant-loop-sample
invariant-loop-sample l = (min l.fewest (least l.measure (drop l.sample-index l.samples)) ≡ least l.measure l.fn.samples) × (l.fewest ≤ 2 ^ 64 - 1)
