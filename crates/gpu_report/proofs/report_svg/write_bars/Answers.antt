use Rattle.std.proofs.Common.{◌≡◌, ◌+◌, ◌++◌, List, ℕ, ap, refl, drop, get_or}
use Rattle.gpu_report.specs.ReportSvg.{row_bar_svg, row_bars_svg}
use Rattle.gpu_report.proofs.Cells.{drop-at, no_block}
use Rattle.gpu_report.proofs.Writing.{WritesBefore, writes-more}
use Rattle.gpu_report.proofs.report_svg.write_bars.Goals as goal

pub loop-i-preserved : goal.loop-i-preserved
loop-i-preserved g c =
    let took = g.W.Write.write_str_gives in
    let block = get_or c.args.blocks.now c.loop-i.i no_block in
    let bar : List ℕ = row_bar_svg c.args.largest c.args.rows.now c.loop-i.i block in
    let rest : List ℕ = row_bars_svg c.args.largest c.args.rows.now (c.loop-i.i + 1) (drop (c.loop-i.i + 1) c.args.blocks.now) in
    let whole : List ℕ = row_bars_svg c.args.largest c.args.rows.now 0 c.args.blocks.now in
    let split : row_bars_svg c.args.largest c.args.rows.now c.loop-i.i (drop c.loop-i.i c.args.blocks.now) ≡ bar ++ rest =
    ap (row_bars_svg c.args.largest c.args.rows.now c.loop-i.i) (drop-at c.args.blocks.now c.loop-i.i no_block c.loop-i-test.true) in
    let before : WritesBefore took c.args.f.now c.loop-i.f (bar ++ rest) whole = rw split at c.loop-i.invariant in
    writes-more took c.args.f.now c.loop-i.f c.write_bar.new.f bar rest whole before (λ plain. c.in_ok-write_bar.ensures plain refl)
