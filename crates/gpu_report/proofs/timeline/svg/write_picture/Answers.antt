use Rattle.std.proofs.Common.{refl}
use Rattle.std.proofs.Output.{has_written_append}
use Rattle.gpu_report.specs.Timeline.{picture_svg}
use Rattle.gpu_report.proofs.timeline.svg.write_picture.Goals as goal

pub returns : goal.returns
unfolding picture_svg
returns g c = λ plain ok.
    let took = g.W.Write.write_str_gives in
    let height = c.in_ok-write_height.ensures plain refl in
    let view_box = c.in_ok-write_view_box.ensures height.plain refl in
    let style = c.in_ok-write_style.ensures view_box.plain refl in
    let totals = c.in_ok-write_totals.ensures style.plain refl in
    let legend = c.in_ok-write_legend.ensures totals.plain refl in
    let marks = c.in_ok-write_marks.ensures legend.plain refl in
    let charts = c.in_ok-write_charts.ensures marks.plain refl in
    has_written_append took _ _ _ _ _ height
    (has_written_append took _ _ _ _ _ view_box
    (has_written_append took _ _ _ _ _ style
    (has_written_append took _ _ _ _ _ totals
    (has_written_append took _ _ _ _ _ legend
    (has_written_append took _ _ _ _ _ marks
    (has_written_append took _ _ _ _ _ charts (c.write_str.ensures.writes charts.plain ok)))))))
