use Rattle.std.proofs.Common.{List, subst, sym}
use Rattle.gpu_block_pieces.specs.FreeList.{Extent}
use Rattle.gpu_block_pieces.specs.Pieces.{LieBetween}
use Rattle.gpu_block_pieces.proofs.Runs.{laid_out}
use Rattle.gpu_block_pieces.proofs.free_list.FreeListAllocator.pieces.Goals as goal

pub returns-clause-laid_out : goal.returns-clause-laid_out
returns-clause-laid_out c =
    let b = c.args.self.now.block in
    subst (λ (es : List Extent). LieBetween 0 es b.size) (sym c.new.ensures)
    (laid_out c.walk-rest.result 0 b.size b.counter c.walk-rest.ensures.covers c.walk-rest.ensures.each)
