use Rattle.std.proofs.Common.{sym}
use Rattle.std.proofs.lemmas.List.{length-map}
use Rattle.gpu_block_session.specs.Words.{texts}
use Rattle.gpu_block_session.proofs.Runs.{line_done, bad_done, at_end}
use Rattle.gpu_block_session.proofs.trace_run.run_lines.Goals as goal

pub returns-then-is_bad : goal.returns-then-is_bad
returns-then-is_bad g c = bad_done g.T.Trace.does g.T.Trace.reply_line c.args.start c.args.lines.now _ _ _ _ _ _ _ _ c.loop-i.invariant c.loop-i-test.true c.in_ok-next.ensures (sym c.if-is_bad.ensures) c.in_default.ensures

pub loop-i-preserved : goal.loop-i-preserved
loop-i-preserved g c = line_done g.T.Trace.does g.T.Trace.reply_line c.args.start c.args.lines.now _ _ _ _ _ _ _ _ c.loop-i.invariant c.loop-i-test.true c.in_ok-next.ensures (sym c.if-is_bad.ensures) c.in_default.ensures

pub returns : goal.returns
returns g c = at_end g.T.Trace.does g.T.Trace.reply_line c.args.start (texts c.args.lines.now) _ _ _ _ c.loop-i.invariant (rw length-map c.loop-i-test.false)
