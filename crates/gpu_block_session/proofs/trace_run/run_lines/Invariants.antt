use Rattle.gpu_block_session.specs.Words.{texts}
use Rattle.gpu_block_session.proofs.Runs.{SoFar}
use Rattle.gpu_block_session.proofs.trace_run.run_lines.Given as goal

abbrev pub invariant-loop-i : goal.invariant-loop-i
invariant-loop-i g l = SoFar g.T.Trace.does g.T.Trace.reply_line l.fn.start (texts l.lines) (g.W.Write.contents l.initial.writer) (g.W.Write.contents l.writer) l.stage l.i
