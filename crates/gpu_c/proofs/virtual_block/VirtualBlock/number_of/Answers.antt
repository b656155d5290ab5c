use Rattle.gpu_c.proofs.VirtualBlockLaws.{none_lives, lives_elsewhere}
use Rattle.gpu_c.proofs.virtual_block.VirtualBlock.number_of.Goals as goal

pub returns-in-None-place_of : goal.returns-in-None-place_of
returns-in-None-place_of c =
    none_lives _ _ c.args.piece.now _ c.self.view_is c.in-Some.ensures c.in-None-place_of.ensures

pub returns-else-offset-piece : goal.returns-else-offset-piece
returns-else-offset-piece c =
    lives_elsewhere _ _ c.args.piece.now _ _ c.self.view_is c.in-Some.ensures c.self.invariant.shared c.self.invariant.sound c.in-Some-place_of.ensures c.if-offset-piece.false
