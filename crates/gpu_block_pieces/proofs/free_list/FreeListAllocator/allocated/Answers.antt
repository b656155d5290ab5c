use Rattle.std.proofs.Common.{ap, arith}
use Rattle.gpu_block_pieces.specs.FreeList.{Counted}
use Rattle.gpu_block_pieces.proofs.Amounts.{bytes_below}
use Rattle.gpu_block_pieces.proofs.free_list.FreeListAllocator.allocated.Goals as goal

pub returns-clause-within : goal.returns-clause-within
returns-clause-within c =
    let below = bytes_below c.self.inside.chunks.items 0 c.self.inside.chunks.size c.self.invariant.1.covers in
    let held = c.self.invariant.4 in
    let size = ap (λ (v : Counted). v.block.size) c.self.view_is in
    omega arith
