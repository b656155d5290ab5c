use Rattle.std.specs.Fmt.{HasWritten, IsPlainFormatter}
use Rattle.gpu_report.specs.Svg.{page_ends_svg}
use Rattle.gpu_report.proofs.svg.write_page_ends.Given as goal

abbrev pub invariant-loop-k : goal.invariant-loop-k
invariant-loop-k g l =
    IsPlainFormatter l.initial.f → HasWritten g.W.Write.write_str_gives l.initial.f (page_ends_svg l.scale.size l.scale.width l.page l.k) l.f
