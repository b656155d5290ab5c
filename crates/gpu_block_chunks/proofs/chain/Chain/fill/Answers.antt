use Rattle.std.proofs.Common.{ap}
use Rattle.gpu_block_chunks.specs.Chain.{Linked}
use Rattle.gpu_block_chunks.proofs.Unlinks.{opened_has}
use Rattle.gpu_block_chunks.proofs.Listing.{open_at, filled}
use Rattle.gpu_block_chunks.specs.Nodes.{held_at}
use Rattle.gpu_block_chunks.proofs.chain.Chain.fill.Goals as goal

pub link_to-at-requires : goal.link_to-at-requires
link_to-at-requires c =
    opened_has (held_at c.self.inside.nodes) c.self.inside.first c.self.inside.size _ c.args.chunk_id
    (open_at (held_at c.self.inside.nodes) c.self.inside.first c.self.inside.size _ c.args.self.now.chunks c.self.invariant (ap (λ (v : Linked). v.chunks) c.self.view_is)
    c.args.chunk_id c.requires.there)

pub set_use-requires : goal.set_use-requires
set_use-requires c = (
  c.link_to-at.ensures.leads,
  rw c.link_to-at.ensures.chunk_id
      (opened_has (held_at c.self.inside.nodes) c.self.inside.first c.self.inside.size _ c.args.chunk_id
      (open_at (held_at c.self.inside.nodes) c.self.inside.first c.self.inside.size _ c.args.self.now.chunks c.self.invariant (ap (λ (v : Linked). v.chunks) c.self.view_is)
      c.args.chunk_id c.requires.there)),
)

pub invariant_of-self : goal.invariant_of-self
invariant_of-self c =
    (filled (held_at c.self.inside.nodes) c.self.inside.first c.self.inside.size _ c.args.self.now.chunks c.self.invariant (ap (λ (v : Linked). v.chunks) c.self.view_is)
    (held_at c.set_use.new.nodes) c.args.chunk_id c.args.offset c.args.kind c.args.label
    c.requires.there (rw (c.link_to-at.ensures.chunk_id, c.of.ensures) at c.set_use.ensures.changes)).0

pub returns-clause-chunks : goal.returns-clause-chunks
returns-clause-chunks c =
    (filled (held_at c.self.inside.nodes) c.self.inside.first c.self.inside.size _ c.args.self.now.chunks c.self.invariant (ap (λ (v : Linked). v.chunks) c.self.view_is)
    (held_at c.set_use.new.nodes) c.args.chunk_id c.args.offset c.args.kind c.args.label
    c.requires.there (rw (c.link_to-at.ensures.chunk_id, c.of.ensures) at c.set_use.ensures.changes)).1
