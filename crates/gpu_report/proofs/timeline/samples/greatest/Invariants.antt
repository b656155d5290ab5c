use Rattle.std.proofs.Common.{◌≡◌, max, drop}
use Rattle.gpu_report.specs.Samples.{greatest}
use Rattle.gpu_report.proofs.timeline.samples.greatest.Given as goal

abbrev pub invariant-loop-sample : goal.invariant-loop-sample
invariant-loop-sample l = max l.most (greatest l.measure (drop l.sample-index l.samples)) ≡ greatest l.measure l.fn.samples
