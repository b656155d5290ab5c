use Rattle.std.proofs.Common.{refl}
use Rattle.std.proofs.Output.{has_written_append}
use Rattle.gpu_report.specs.Svg.{title_svg}
use Rattle.gpu_report.proofs.svg.write_title.Goals as goal

pub returns : goal.returns
unfolding title_svg
returns g c = λ plain ok.
    let what = c.in_ok-write_what.ensures plain refl in
    let bytes = c.in_ok-write_bytes.ensures what.plain refl in
    let name = c.in_ok-write_named.ensures bytes.plain refl in
    has_written_append g.W.Write.write_str_gives _ _ _ _ _ what
    (has_written_append g.W.Write.write_str_gives _ _ _ _ _ bytes
    (has_written_append g.W.Write.write_str_gives _ _ _ _ _ name (c.write_str.ensures.writes name.plain ok)))
