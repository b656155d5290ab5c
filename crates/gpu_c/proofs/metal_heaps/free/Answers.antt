use Rattle.std.proofs.Common.{arith}
use Rattle.gpu_c.proofs.MetalHeapsLaws.{is_shut, is_live, freed_lived}
use Rattle.gpu_c.proofs.metal_heaps.free.Goals as goal

pub returns-in-Ok-clause-freed : goal.returns-in-Ok-clause-freed
returns-in-Ok-clause-freed c ok = record {
  idle = is_shut c.args.machine.now.requests.awaited _ c.if-awaits_answer.false c.awaits_answer.ensures;
  piece = c.in-Some.named;
  named = c.in-Some.ensures;
  back = c.in-Ok.went;
  told = c.block_told.ensures;
  frees = c.in-Ok.ensures.frees;
}

pub returns-in-Ok-clause-not_live : goal.returns-in-Ok-clause-not_live
returns-in-Ok-clause-not_live c = (
  λ is. absurd (omega (arith, is)),
  λ h. absurd (h.1 (is_live c.args.machine.now c.args.piece.now c.in-Some.named c.in-Some.ensures
      (freed_lived c.args.machine.now c.free.new.self c.args.piece.now.memory_type c.in-Some.named c.in-Ok.went h.0 c.in-Ok.ensures.frees))),
)
