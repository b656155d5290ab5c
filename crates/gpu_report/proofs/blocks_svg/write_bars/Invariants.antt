use Rattle.std.proofs.Common.{drop}
use Rattle.gpu_report.specs.BlocksSvg.{bars_svg}
use Rattle.gpu_report.proofs.Writing.{WritesBefore}
use Rattle.gpu_report.proofs.blocks_svg.write_bars.Given as goal

abbrev pub invariant-loop-i : goal.invariant-loop-i
invariant-loop-i g l = WritesBefore g.W.Write.write_str_gives l.initial.f l.f (bars_svg l.largest l.i (drop l.i l.fn.views)) (bars_svg l.largest 0 l.fn.views)
