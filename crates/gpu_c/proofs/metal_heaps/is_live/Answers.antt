use Rattle.gpu_c.proofs.MetalHeapsLaws.{is_live, lives}
use Rattle.gpu_c.proofs.metal_heaps.is_live.Goals as goal

pub returns-in-Some : goal.returns-in-Some
returns-in-Some c = (
  λ yes. is_live c.args.machine.now c.args.piece.now c.in-Some.named c.in-Some.ensures (c.is_live.ensures.0 yes),
  λ live. c.is_live.ensures.1 (lives c.args.machine.now c.args.piece.now c.in-Some.named c.in-Some.ensures live),
)
