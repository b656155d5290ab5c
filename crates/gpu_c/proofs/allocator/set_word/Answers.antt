use Rattle.std.proofs.Common.{arith}
use Rattle.gpu_machine.proofs.VulkanBeginning.{is_closed}
use Rattle.gpu_c.proofs.AllocatorLaws.{is_live, worded_lived}
use Rattle.gpu_c.proofs.allocator.set_word.Goals as goal

pub returns-in-Ok-clause-set : goal.returns-in-Ok-clause-set
returns-in-Ok-clause-set c ok = record {
  idle = is_closed c.args.machine.now.requests.awaited _ c.if-awaits_answer.false c.awaits_answer.ensures;
  piece = c.in-Some.named;
  named = c.in-Some.ensures;
  sets = c.in-Ok.ensures.sets;
  others = c.in-Ok.ensures.others;
}

pub returns-in-Ok-clause-not_live : goal.returns-in-Ok-clause-not_live
returns-in-Ok-clause-not_live c = (
  λ is. absurd (omega (arith, is)),
  λ h. absurd (h.1 (is_live c.args.machine.now c.args.piece.now c.in-Some.named c.in-Some.ensures
      (worded_lived c.args.machine.now c.set_word.new.self c.args.piece.now.memory_type c.in-Some.named c.args.word h.0 c.in-Ok.ensures.sets))),
)
