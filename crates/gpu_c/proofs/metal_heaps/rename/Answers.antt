use Rattle.std.proofs.Common.{arith, List, ℕ, Ok, subst}
use Rattle.gpu_pool.specs.Idle.{RenamesIdle}
use Rattle.gpu_metal.specs.Blocks.{is_same_heap}
use Rattle.gpu_c.proofs.MetalHeapsLaws.{is_shut, is_live}
use Rattle.gpu_c.proofs.metal_heaps.rename.Goals as goal

pub returns-in-Err-clause-not_live : goal.returns-in-Err-clause-not_live
returns-in-Err-clause-not_live c = (
  λ is. absurd (omega (arith, is)),
  λ h. absurd (h.2 (is_live c.args.machine.now c.args.piece.now c.in-Some.named c.in-Some.ensures (c.is_live.ensures.0 c.if-not-is_live.false))),
)

pub returns-in-Err-clause-host_out_of_memory : goal.returns-in-Err-clause-host_out_of_memory
returns-in-Err-clause-host_out_of_memory c is = (
  is_shut c.args.machine.now.requests.awaited _ c.if-awaits_answer.false c.awaits_answer.ensures,
  c.in-Ok.ensures.cases.1,
  is_live c.args.machine.now c.args.piece.now c.in-Some.named c.in-Some.ensures (c.is_live.ensures.0 c.if-not-is_live.false),
)

pub returns-in-Ok-rename-clause-renamed : goal.returns-in-Ok-rename-clause-renamed
returns-in-Ok-rename-clause-renamed c ok = (
  c.in-Ok.ensures.cases.1,
  record {
    idle = is_shut c.args.machine.now.requests.awaited _ c.if-awaits_answer.false c.awaits_answer.ensures;
    piece = c.in-Some.named;
    named = c.in-Some.ensures;
    renames = subst (λ (name : List ℕ). RenamesIdle is_same_heap c.args.machine.now.requests c.args.piece.now.memory_type c.in-Some.named name (Ok tt) c.rename.new.self.requests) c.in-Ok.ensures.cases.0 c.in-Ok-rename.ensures.renames;
    others = c.in-Ok-rename.ensures.set;
  },
)

pub returns-in-Ok-rename-clause-not_live : goal.returns-in-Ok-rename-clause-not_live
returns-in-Ok-rename-clause-not_live c = (
  λ is. absurd (omega (arith, is)),
  λ h. absurd (h.2 (is_live c.args.machine.now c.args.piece.now c.in-Some.named c.in-Some.ensures (c.is_live.ensures.0 c.if-not-is_live.false))),
)
