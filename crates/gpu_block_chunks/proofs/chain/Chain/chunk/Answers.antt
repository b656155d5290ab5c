use Rattle.std.proofs.Common.{ap, sym}
use Rattle.gpu_block_chunks.specs.Chain.{Linked}
use Rattle.gpu_block_chunks.proofs.Listing.{none_held, chunk_at}
use Rattle.gpu_block_chunks.specs.Nodes.{held_at, node_value}
use Rattle.gpu_block_chunks.specs.Slots.{linked_of}
use Rattle.gpu_block_chunks.proofs.chain.Chain.chunk.Goals as goal

pub returns-in_err-node-clause-value : goal.returns-in_err-node-clause-value
returns-in_err-node-clause-value c =
    rw c.from_residual.ensures (none_held (held_at c.self.inside.nodes) c.self.inside.first c.self.inside.size _ c.args.self.now.chunks c.self.invariant
    (ap (λ (v : Linked). v.chunks) c.self.view_is) c.args.chunk_id (sym c.in_err-node.ensures.value))

pub returns-clause-value : goal.returns-clause-value
returns-clause-value c =
    rw (c.chunk_id_of.ensures, c.link_in.ensures.chunk_id) (chunk_at (held_at c.self.inside.nodes) c.self.inside.first c.self.inside.size _ c.args.self.now.chunks c.self.invariant
    (ap (λ (v : Linked). v.chunks) c.self.view_is) c.args.chunk_id (node_value c.self.inside.nodes.ids (linked_of c.in_ok-node.node)) (sym c.in_ok-node.ensures.value))

pub link_in-requires : goal.link_in-requires
link_in-requires c = c.in_ok-node.ensures.links.1
