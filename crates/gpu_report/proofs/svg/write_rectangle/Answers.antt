use Rattle.std.proofs.Common.{refl}
use Rattle.std.proofs.Output.{has_written_append}
use Rattle.gpu_report.specs.Svg.{rectangle_svg}
use Rattle.gpu_report.proofs.svg.write_rectangle.Goals as goal

pub returns : goal.returns
unfolding rectangle_svg
returns g c = λ plain ok.
    let class = c.in_ok-write_class.ensures plain refl in
    let span = c.in_ok-write_span.ensures class.plain refl in
    has_written_append g.W.Write.write_str_gives _ _ _ _ _ class
    (has_written_append g.W.Write.write_str_gives _ _ _ _ _ span (c.write_str.ensures.writes span.plain ok))
