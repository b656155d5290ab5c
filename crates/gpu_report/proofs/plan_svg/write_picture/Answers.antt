use Rattle.std.proofs.Common.{refl}
use Rattle.std.proofs.Output.{has_written_append}
use Rattle.gpu_report.specs.PlanSvg.{picture_svg}
use Rattle.gpu_report.proofs.plan_svg.write_picture.Goals as goal

pub returns : goal.returns
unfolding picture_svg
returns g c = λ plain ok.
    let took = g.W.Write.write_str_gives in
    let start = c.in_ok-write_picture_start.ensures plain refl in
    let style = c.in_ok-write_style.ensures start.plain refl in
    let line = c.in_ok-write_line.ensures style.plain refl in
    let legend = c.in_ok-write_plan_legend.ensures line.plain refl in
    let heap = c.in_ok-write_heap.ensures legend.plain refl in
    let resources = c.in_ok-write_resources.ensures heap.plain refl in
    let passes = c.in_ok-write_passes.ensures resources.plain refl in
    let peak = c.in_ok-write_peak.ensures passes.plain refl in
    has_written_append took _ _ _ _ _ start
    (has_written_append took _ _ _ _ _ style
    (has_written_append took _ _ _ _ _ line
    (has_written_append took _ _ _ _ _ legend
    (has_written_append took _ _ _ _ _ heap
    (has_written_append took _ _ _ _ _ resources
    (has_written_append took _ _ _ _ _ passes
    (has_written_append took _ _ _ _ _ peak (c.write_str.ensures.writes peak.plain ok))))))))
