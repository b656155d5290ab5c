use Rattle.std.proofs.Common.{inl, inr}
use Rattle.gpu_core.specs.Slots.{slot_of}
use Rattle.gpu_core.proofs.Found.{other_place}
use Rattle.gpu_core.proofs.slot.find.Goals as goal
use Rattle.gpu_core.proofs.slot.find.Goals.{then-offset-piece-via-then-offset-piece, then-offset-piece-via-else-offset-piece+then-size-piece}

pub returns-then-offset-piece : goal.returns-then-offset-piece
returns-then-offset-piece g c =
    let x = c.in-Some.ensures in
    let other = other_place g.H.PartialEq.eq c.args.piece.now (slot_of c.args.block.now) c.in-Some.offset c.in-Some.size c.requires x in (
      other (elim c.then-offset-piece.branch [
        | then-offset-piece-via-then-offset-piece w ↦ inl w.if-offset-piece.true
        | then-offset-piece-via-else-offset-piece+then-size-piece w ↦ inr w.if-size-piece.true
      ]),
      (x.0, x.1, x.2),
    )
