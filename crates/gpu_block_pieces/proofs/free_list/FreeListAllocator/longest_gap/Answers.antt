use Rattle.std.proofs.Common.{◌∙◌, ap, subst}
use Rattle.gpu_block_pieces.specs.FreeList.{Counted, IsLongestGap}
use Rattle.gpu_block_pieces.specs.Pieces.{gaps_between, longest}
use Rattle.gpu_block_pieces.specs.Chunks.{free_list_of}
use Rattle.gpu_block_pieces.proofs.LongestCounted.{longest_counted}
use Rattle.gpu_block_pieces.proofs.LongestGap.{longest_in, longer_has_none}
use Rattle.gpu_block_pieces.proofs.Runs.{laid_out}
use Rattle.gpu_block_pieces.proofs.free_list.FreeListAllocator.longest_gap.Goals as goal
use Rattle.gpu_block_pieces.proofs.free_list.FreeListAllocator.longest_gap.Goals.{After-longest_gap}

of_chunks : (c : After-longest_gap) → IsLongestGap (free_list_of c.self.inside.chunks.size c.self.inside.granularity c.self.inside.counter c.self.inside.chunks.items) c.longest_gap.result
of_chunks c =
    let i = c.self.inside in
    longest_in i.chunks.items i.chunks.size i.granularity i.counter c.longest_gap.result c.self.invariant.1 c.longest_gap.ensures.longest

the_longest : (c : After-longest_gap) → IsLongestGap c.args.self.now.block c.longest_gap.result
the_longest c = subst (λ (v : Counted). IsLongestGap v.block c.longest_gap.result) c.self.view_is (of_chunks c)

pub returns-clause-longest : goal.returns-clause-longest
returns-clause-longest c =
    let i = c.self.inside in
    longest_counted (free_list_of i.chunks.size i.granularity i.counter i.chunks.items) c.longest_gap.result
    (laid_out i.chunks.items 0 i.chunks.size i.counter c.self.invariant.1.covers c.self.invariant.1.each) (of_chunks c)
    ∙ ap (λ (v : Counted). longest (gaps_between 0 v.block.extents v.block.size)) c.self.view_is

pub returns-clause-gap : goal.returns-clause-gap
returns-clause-gap c = the_longest c

pub returns-clause-law : goal.returns-clause-law
returns-clause-law c = longer_has_none c.args.self.now.block c.longest_gap.result (the_longest c)
