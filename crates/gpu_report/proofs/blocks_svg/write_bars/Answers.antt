use Rattle.std.proofs.Common.{◌≡◌, ◌+◌, ◌++◌, List, ℕ, ap, refl, drop}
use Rattle.gpu_report.specs.BlocksSvg.{bar_svg, bars_svg}
use Rattle.gpu_report.proofs.Cells.{drop-step}
use Rattle.gpu_report.proofs.Writing.{WritesBefore, writes-more}
use Rattle.gpu_report.proofs.blocks_svg.write_bars.Goals as goal

pub loop-i-preserved : goal.loop-i-preserved
loop-i-preserved g c =
    let took = g.W.Write.write_str_gives in
    let view = c.index-views-i.result in
    let bar : List ℕ = bar_svg c.args.largest c.loop-i.i view in
    let rest : List ℕ = bars_svg c.args.largest (c.loop-i.i + 1) (drop (c.loop-i.i + 1) c.args.views.now) in
    let split : bars_svg c.args.largest c.loop-i.i (drop c.loop-i.i c.args.views.now) ≡ bar ++ rest =
    ap (bars_svg c.args.largest c.loop-i.i) (drop-step c.args.views.now c.loop-i.i view c.loop-i-test.true c.index-views-i.is) in
    let before : WritesBefore took c.args.f.now c.loop-i.f (bar ++ rest) (bars_svg c.args.largest 0 c.args.views.now) = rw split at c.loop-i.invariant in
    writes-more took c.args.f.now c.loop-i.f c.write_bar.new.f bar rest (bars_svg c.args.largest 0 c.args.views.now) before (λ plain. c.in_ok-write_bar.ensures plain refl)
