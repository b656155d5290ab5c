use Rattle.std.proofs.Common.{◌≡◌, ◌++◌, map, drop}
use Rattle.gpu_core.specs.Types.{slots_of}
use Rattle.gpu_report.specs.Samples.{usage_of}
use Rattle.gpu_picture.proofs.follow.usages_of.Given as goal

abbrev pub invariant-loop-index : goal.invariant-loop-index
invariant-loop-index g l = l.usages.items ++ map usage_of (slots_of (drop l.index l.types)) ≡ map usage_of (slots_of l.types)
