use Rattle.std.proofs.Common.{take}
use Rattle.gpu_block_session.specs.Words.{texts}
use Rattle.gpu_block_session.specs.Replay.{LeadTo}
use Rattle.gpu_block_session.proofs.replay.replay_lines.Given as goal

abbrev pub invariant-loop-i : goal.invariant-loop-i
invariant-loop-i g l = LeadTo g.T.Trace.does l.fn.start (take l.i (texts l.lines)) l.stage
