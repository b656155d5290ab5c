use Rattle.std.proofs.Common.{subst, sym}
use Rattle.gpu_block_pieces.specs.Pieces.{IsRun}
use Rattle.gpu_block.proofs.Whole.{whole_laid_out, whole_each}
use Rattle.gpu_block.proofs.dedicated_block.DedicatedBlockAllocator.pieces.Goals as goal

pub new-requires : goal.new-requires
new-requires c =
    let w = whole_laid_out c.self.inside.piece c.as_slice.result.now c.self.inside.size c.as_slice.ensures c.self.invariant.0 c.self.invariant.1 c.self.invariant.2 in
    record {
      run = subst IsRun (sym c.of_list-rest.ensures) (record {
        from = 0;
        to = w.0;
        counter = 2;
        bounded = w.1;
        covers = w.2;
        each = whole_each c.self.inside.piece c.as_slice.result.now c.self.inside.size c.as_slice.ensures c.self.invariant.0 c.self.invariant.2;
      });
    }
