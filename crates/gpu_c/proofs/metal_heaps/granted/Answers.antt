use Rattle.gpu_c.proofs.MetalHeapsLaws.{was_awaited}
use Rattle.gpu_c.proofs.metal_heaps.granted.Goals as goal

pub returns-in-Ok-clause-granted : goal.returns-in-Ok-clause-granted
returns-in-Ok-clause-granted c ok = record {
  awaits = was_awaited c.args.machine.now c.granted.new.self _ c.in-Ok.given c.in-Ok.ensures.grants;
  given = c.in-Ok.given;
  told = c.grant_told.ensures;
  grants = c.in-Ok.ensures.grants;
}
