use Rattle.std.proofs.Common.{[]}
use Rattle.gpu_block_chunks.proofs.Found.{nodes_none}
use Rattle.gpu_block_chunks.proofs.chain.nodes.Nodes.with_capacity.Goals as goal

pub invariant_of-result : goal.invariant_of-result
invariant_of-result c =
    let new = c.reserve_to.new.self in
    nodes_none new.eras new.heads.items new.followers.items c.in_ok-chunks.chunks.slots c.in_ok-chunks.ensures.empty (c.reserve_to.ensures.found [] c.in_ok-ids.ensures.found)
