use Rattle.std.proofs.Common.{arith, List, ℕ, subst}
use Rattle.gpu_core.specs.TypeRelease.{RenamesPiece}
use Rattle.gpu_c.proofs.MemoryTypeLaws.{names_memory}
use Rattle.gpu_c.proofs.memory_type.AwaitingType.rename.Goals.{in-Err, in-Ok-rename}
use Rattle.gpu_c.proofs.memory_type.AwaitingType.rename.Goals as goal

pub returns-after-rename-clause-renamed : goal.returns-after-rename-clause-renamed
returns-after-rename-clause-renamed c ok =
    elim c.match-rename.branch [
      | in-Err w ↦ absurd (omega (arith, w.result-is, ok))
      | in-Ok-rename w ↦ (
        c.in-Ok.ensures.cases.1,
        names_memory c.args.self.now c.self.inside.memory_type c.rename.new.self c.self.inside.sizes c.self.inside.awaited c.in-Some-named_piece.piece c.args.piece.now c.args.name.now
            c.self.view_is c.in-None.is c.in-Some-named_piece.ensures w.in-Ok-rename.ensures.live
            (subst (λ (name : List ℕ). RenamesPiece c.self.inside.memory_type.slots c.in-Some-named_piece.piece name c.rename.new.self.slots) c.in-Ok.ensures.cases.0 w.in-Ok-rename.ensures.renamed)
            w.in-Ok-rename.ensures.capacity (record {
              kind = w.in-Ok-rename.ensures.kind;
              budget = w.in-Ok-rename.ensures.budget;
              sound = w.in-Ok-rename.ensures.sound;
              empty =
                  w.in-Ok-rename.ensures.empty;
            }),
      )
    ]
