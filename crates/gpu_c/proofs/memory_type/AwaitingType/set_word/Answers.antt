use Rattle.std.proofs.Common.{arith}
use Rattle.gpu_c.proofs.MemoryTypeLaws.{words_memory}
use Rattle.gpu_c.proofs.memory_type.AwaitingType.set_word.Goals.{in-Err, in-Ok}
use Rattle.gpu_c.proofs.memory_type.AwaitingType.set_word.Goals as goal

pub returns-clause-set : goal.returns-clause-set
returns-clause-set c ok =
    elim c.match-set_word.branch [
      | in-Ok w ↦ words_memory c.args.self.now c.self.inside.memory_type c.set_word.new.self c.self.inside.sizes c.self.inside.awaited c.in-Some-named_piece.piece c.args.piece.now c.args.word
          c.self.view_is c.in-None.is c.in-Some-named_piece.ensures w.in-Ok.ensures.live w.in-Ok.ensures.set w.in-Ok.ensures.capacity
          (record { kind = w.in-Ok.ensures.kind; budget = w.in-Ok.ensures.budget; sound = w.in-Ok.ensures.sound; empty = w.in-Ok.ensures.empty })
      | in-Err w ↦ absurd (omega (arith, w.result-is, ok))
    ]
