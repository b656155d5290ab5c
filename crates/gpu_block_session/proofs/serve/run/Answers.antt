use Rattle.std.proofs.Common.{take, arith}
use Rattle.std.proofs.lemmas.Grind.{common_steps}
use Rattle.gpu_block_session.proofs.CommandLists.{run_more, take_next}
use Rattle.gpu_block_session.proofs.serve.run.Goals as goal

pub loop-command-preserved : goal.loop-command-preserved
loop-command-preserved g c =
    let commands = take_next c.args.commands.now c.loop-command.command-index c.command-item.result c.loop-command-test.true c.command-item.is in
    record {
      run = rw (commands, c.push_reserved.ensures.items)
          (run_more g.S.Serve.serves (take c.loop-command.command-index c.args.commands.now) c.loop-command.replies.items c.command-item.result c.serve-reply.result
          c.args.session.now c.loop-command.session c.serve-reply.new.self c.loop-command.invariant.run c.serve-reply.ensures);
      count = grind (arith, common_steps, c.loop-command.invariant.count);
      room = grind (arith, common_steps, c.loop-command.invariant.room);
    }
