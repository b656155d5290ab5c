use Rattle.std.proofs.Common.{refl}
use Rattle.std.proofs.Output.{has_written_append}
use Rattle.gpu_report.specs.PlanSvg.{title_svg}
use Rattle.gpu_report.proofs.plan_svg.write_title.Goals as goal

pub returns : goal.returns
unfolding title_svg
returns g c = λ plain ok.
    let took = g.W.Write.write_str_gives in
    let kind = c.in_ok-write_kind.ensures plain refl in
    let place = c.in_ok-write_place.ensures kind.plain refl in
    let lives = c.in_ok-write_lives.ensures place.plain refl in
    let name = c.in_ok-write_named.ensures lives.plain refl in
    has_written_append took _ _ _ _ _ kind
    (has_written_append took _ _ _ _ _ place
    (has_written_append took _ _ _ _ _ lives
    (has_written_append took _ _ _ _ _ name (c.write_str.ensures.writes name.plain ok))))
