use Rattle.std.proofs.Common.{◌≡◌, drop}
use Rattle.gpu_report.specs.PlanSvg.{passes_from}
use Rattle.gpu_report.proofs.plan_svg.passes_of.Given as goal

abbrev pub invariant-loop-view : goal.invariant-loop-view
invariant-loop-view l = passes_from l.passes (drop l.view-index l.views) ≡ passes_from 0 l.fn.views
