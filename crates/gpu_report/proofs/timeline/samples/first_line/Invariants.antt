use Rattle.std.proofs.Common.{◌≡◌, drop}
use Rattle.gpu_report.specs.Samples.{first_line}
use Rattle.gpu_report.proofs.timeline.samples.first_line.Given as goal

abbrev pub invariant-loop-sample : goal.invariant-loop-sample
invariant-loop-sample l = first_line l.measure l.wanted (drop l.sample-index l.samples) ≡ first_line l.measure l.wanted l.fn.samples
