use Rattle.std.proofs.Common.{sym, refl}
use Rattle.gpu_block_session.specs.Replay.{begin}
use Rattle.gpu_block_session.proofs.Leading.{line_more, line_bad, all_lines}
use Rattle.gpu_block_session.proofs.replay.replay_lines.Goals as goal

pub returns-then-is_bad : goal.returns-then-is_bad
returns-then-is_bad g c =
    (c.loop-i.i, refl, line_bad g.T.Trace.does c.args.start c.args.lines.now _ _ _ _ _ c.loop-i.invariant c.loop-i-test.true c.in_ok-next.ensures (sym c.if-is_bad.ensures))

pub loop-i-preserved : goal.loop-i-preserved
loop-i-preserved g c = line_more g.T.Trace.does c.args.start c.args.lines.now _ _ _ _ _ c.loop-i.invariant c.loop-i-test.true c.in_ok-next.ensures (sym c.if-is_bad.ensures)

pub loop-i-init : goal.loop-i-init
loop-i-init g c = begin

pub returns : goal.returns
returns g c = all_lines g.T.Trace.does c.args.start c.args.lines.now _ _ c.loop-i.invariant c.loop-i-test.false
