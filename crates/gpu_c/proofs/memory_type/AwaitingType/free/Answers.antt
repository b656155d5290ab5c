use Rattle.std.proofs.Common.{arith, ◌∙◌}
use Rattle.gpu_c.proofs.MemoryTypeLaws.{frees_piece}
use Rattle.gpu_c.proofs.memory_type.AwaitingType.free.Goals.{in-Err, in-Ok}
use Rattle.gpu_c.proofs.memory_type.AwaitingType.free.Goals as goal

pub returns-after-free-clause-freed : goal.returns-after-free-clause-freed
returns-after-free-clause-freed c ok =
    elim c.match-free.branch [
      | in-Err w ↦ absurd (omega (arith, w.result-is, ok))
      | in-Ok w ↦ frees_piece c.args.self.now c.self.inside.memory_type c.free.new.self c.self.inside.sizes c.self.inside.awaited c.in-Some-named_piece.piece c.args.piece.now w.in-Ok.block c.match-free.gone
          c.self.view_is c.in-None.is c.in-Some-named_piece.ensures w.in-Ok.ensures.live w.in-Ok.ensures.released (w.gone-is ∙ w.memory_block.ensures) w.in-Ok.ensures.capacity
          (record { kind = w.in-Ok.ensures.kind; budget = w.in-Ok.ensures.budget; sound = w.in-Ok.ensures.sound; empty = w.in-Ok.ensures.empty })
    ]
