use Rattle.std.proofs.Common.{◌≡◌, drop}
use Rattle.gpu_report.specs.Samples.{sum}
use Rattle.gpu_report.proofs.timeline.samples.sum.Given as goal

abbrev pub invariant-loop-sample : goal.invariant-loop-sample
invariant-loop-sample l = sum l.measure l.total (drop l.sample-index l.samples) ≡ sum l.measure 0 l.fn.samples
