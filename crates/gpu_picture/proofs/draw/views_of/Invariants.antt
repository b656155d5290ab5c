use Rattle.std.proofs.Common.{◌≡◌, ◌++◌, map, drop}
use Rattle.gpu_report.specs.View.{shown}
use Rattle.gpu_picture.specs.Draw.{shown_types}
use Rattle.gpu_picture.proofs.draw.views_of.Given as goal

abbrev pub invariant-loop-index : goal.invariant-loop-index
invariant-loop-index g l = map shown l.views.items ++ shown_types l.index (drop l.index l.types) ≡ shown_types 0 l.types
