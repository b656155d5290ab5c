use Rattle.std.proofs.Common.{refl}
use Rattle.std.proofs.Output.{has_written_append}
use Rattle.gpu_report.specs.PlanSvg.{plan_legend_svg}
use Rattle.gpu_report.proofs.plan_svg.write_plan_legend.Goals as goal

pub returns : goal.returns
unfolding plan_legend_svg
returns g c = λ plain ok.
    let took = g.W.Write.write_str_gives in
    let linear = c.in_ok-write_entry.ensures plain refl in
    let nonlinear = c.in_ok-write_entry-2.ensures linear.plain refl in
    let gap = c.in_ok-write_entry-3.ensures nonlinear.plain refl in
    let peak = c.in_ok-write_str.ensures.writes gap.plain refl in
    has_written_append took _ _ _ _ _ linear
    (has_written_append took _ _ _ _ _ nonlinear
    (has_written_append took _ _ _ _ _ gap
    (has_written_append took _ _ _ _ _ peak (c.write_str-2.ensures.writes peak.plain ok))))
