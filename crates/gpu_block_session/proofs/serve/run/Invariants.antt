use Rattle.std.proofs.Common.{◌≡◌, take, length, vec_capacity}
use Rattle.gpu_block_session.specs.CommandList.{IsRun}
use Rattle.gpu_block_session.proofs.serve.run.Given as goal

abbrev pub invariant-loop-command : goal.invariant-loop-command
invariant-loop-command g l = record {
  run : IsRun g.S.Serve.serves (take l.command-index l.commands) l.replies.items l.fn.session l.session;
  count : length l.replies.items ≡ l.command-index;
  room : vec_capacity l.replies ≡ length l.commands;
}
