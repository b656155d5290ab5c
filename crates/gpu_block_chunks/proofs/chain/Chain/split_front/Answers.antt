use Rattle.std.proofs.Common.{ap, sym, subst, ◌∙◌, List, Some, arith, refl, ◌<◌, ◌+◌, ◌^◌}
use Rattle.gpu_block_chunks.specs.declared.chunk.Chunk.{Chunk}
use Rattle.gpu_block_chunks.specs.Chain.{Linked, cut_node, walk, first_after, HasNoChunkId}
use Rattle.gpu_block_chunks.specs.Nodes.{held_at, link_chunk_id}
use Rattle.gpu_block_chunks.proofs.Slots.{taken_by, value_of_new}
use Rattle.gpu_block_chunks.proofs.Splits.{split_needs, still_held, split_chain_at, split_walk}
use Rattle.gpu_block_chunks.proofs.NextTo.{unlinked, still_among}
use Rattle.gpu_block_chunks.proofs.Listing.{can_split, apart_of, split_listed}
use Rattle.gpu_block_chunks.proofs.chain.Chain.split_front.Goals as goal

pub link_to-rest-requires : goal.link_to-rest-requires
link_to-rest-requires c =
    (split_needs (held_at c.self.inside.nodes) c.self.inside.first c.self.inside.size _ c.self.invariant c.args.chunk_id c.args.taken
    (can_split _ c.args.self.now.chunks c.args.chunk_id c.args.taken (ap (λ (v : Linked). v.chunks) c.self.view_is) c.self.invariant.numbered c.requires.longer) (omega arith)).0

pub ends_of-ends-requires : goal.ends_of-ends-requires
ends_of-ends-requires c = (
  c.link_to-rest.ensures.leads,
  rw c.link_to-rest.ensures.chunk_id (split_needs (held_at c.self.inside.nodes) c.self.inside.first c.self.inside.size _ c.self.invariant c.args.chunk_id c.args.taken
      (can_split _ c.args.self.now.chunks c.args.chunk_id c.args.taken (ap (λ (v : Linked). v.chunks) c.self.view_is) c.self.invariant.numbered c.requires.longer) (omega arith)).0,
)

pub put-piece-requires-clause-unlinked : goal.put-piece-requires-clause-unlinked
put-piece-requires-clause-unlinked c =
    unlinked (held_at c.self.inside.nodes) c.self.inside.first c.self.inside.size _ c.self.invariant c.args.new
    (apart_of c.args.new _ (subst (λ (xs : List Chunk). HasNoChunkId xs c.args.new) (sym (ap (λ (v : Linked). v.chunks) c.self.view_is)) c.requires.fresh) c.self.invariant.numbered)

pub link_in-prev-requires : goal.link_in-prev-requires
link_in-prev-requires c = c.ends_of-ends.ensures.links.0

pub put-piece-requires-clause-prev : goal.put-piece-requires-clause-prev
put-piece-requires-clause-prev c = rw c.new.ensures.links.0 c.ends_of-ends.ensures.links.0

pub put-piece-requires-clause-next : goal.put-piece-requires-clause-next
put-piece-requires-clause-next c = rw c.new.ensures.links.1 (taken_by c.self.inside.nodes.ids (Some c.link_to-rest.result) c.link_to-rest.ensures.leads)

pub cut_front-requires-clause-longer : goal.cut_front-requires-clause-longer
cut_front-requires-clause-longer c =
    let needs = split_needs (held_at c.self.inside.nodes) c.self.inside.first c.self.inside.size _ c.self.invariant c.args.chunk_id c.args.taken
    (can_split _ c.args.self.now.chunks c.args.chunk_id c.args.taken (ap (λ (v : Linked). v.chunks) c.self.view_is) c.self.invariant.numbered c.requires.longer) (omega arith) in
    let un = unlinked (held_at c.self.inside.nodes) c.self.inside.first c.self.inside.size _ c.self.invariant c.args.new
    (apart_of c.args.new _ (subst (λ (xs : List Chunk). HasNoChunkId xs c.args.new) (sym (ap (λ (v : Linked). v.chunks) c.self.view_is)) c.requires.fresh) c.self.invariant.numbered) in
    rw c.link_to-rest.ensures.chunk_id (still_among (held_at c.self.inside.nodes) (λ n. (c.args.taken < (n.chunk).size) × ((n.chunk).start + (n.chunk).size < 2 ^ 64)) (held_at c.put-piece.new.self)
    c.args.new c.args.chunk_id _ un needs.0 c.put-piece.ensures.sets needs.1)

pub cut_front-requires-clause-leads : goal.cut_front-requires-clause-leads
cut_front-requires-clause-leads c =
    c.put-piece.ensures.links (Some c.link_to-rest.result) (
      c.link_to-rest.ensures.leads,
      rw c.link_to-rest.ensures.chunk_id (split_needs (held_at c.self.inside.nodes) c.self.inside.first c.self.inside.size _ c.self.invariant c.args.chunk_id c.args.taken
          (can_split _ c.args.self.now.chunks c.args.chunk_id c.args.taken (ap (λ (v : Linked). v.chunks) c.self.view_is) c.self.invariant.numbered c.requires.longer) (omega arith)).0,
    )

pub set_next_of-requires-clause-there : goal.set_next_of-requires-clause-there
set_next_of-requires-clause-there c = (
  rw c.cut_front.ensures.ids (c.put-piece.ensures.links c.link_in-prev.result c.link_in-prev.ensures.reaches),
  still_held (held_at c.self.inside.nodes) (held_at c.put-piece.new.self) (held_at c.cut_front.new.nodes) c.args.chunk_id c.args.new (cut_node c.args.taken (Some c.args.new)) _
      c.put-piece.ensures.sets
      (rw (c.link_to-rest.ensures.chunk_id, c.put-piece.ensures.link.0) at c.cut_front.ensures.changes) (link_chunk_id c.link_in-prev.result) c.link_in-prev.ensures.reaches.1,
)

pub invariant_of-self : goal.invariant_of-self
invariant_of-self c =
    let ps = walk c.self.inside.size (held_at c.self.inside.nodes) (Some c.self.inside.first) in
    let view = (ap (λ (v : Linked). v.chunks) c.self.view_is) in
    let d = split_chain_at (held_at c.self.inside.nodes) (held_at c.put-piece.new.self) (held_at c.cut_front.new.nodes) (held_at c.set_next_of.new.nodes)
    c.self.inside.first c.self.inside.size ps ps c.args.new c.args.chunk_id c.args.taken c.args.offset c.args.kind c.args.label c.ends_of-ends.result.start (link_chunk_id c.link_in-prev.result)
    c.self.invariant refl (can_split ps c.args.self.now.chunks c.args.chunk_id c.args.taken view c.self.invariant.numbered c.requires.longer) c.requires.positive
    (apart_of c.args.new ps (subst (λ (xs : List Chunk). HasNoChunkId xs c.args.new) (sym view) c.requires.fresh) c.self.invariant.numbered)
    (λ n h. let e = c.ends_of-ends.ensures.ends n (rw c.link_to-rest.ensures.chunk_id h) in (e.0, c.link_in-prev.ensures.chunk_id ∙ e.1))
    (rw (value_of_new c.self.inside.nodes.ids c.new.result _ c.ends_of-ends.result.prev (Some c.link_to-rest.result.slot) (link_chunk_id c.link_in-prev.result) (Some c.link_to-rest.result.chunk_id) c.new.ensures.value c.new.ensures.links (sym c.link_in-prev.ensures.chunk_id) c.link_to-rest.ensures.leads, c.link_to-rest.ensures.chunk_id) at c.put-piece.ensures.sets)
    (rw (c.link_to-rest.ensures.chunk_id, c.put-piece.ensures.link.0) at c.cut_front.ensures.changes) (rw c.put-piece.ensures.link.0 at c.set_next_of.ensures.changes) in
    let g = first_after (link_chunk_id c.link_in-prev.result) c.args.new c.self.inside.first in
    let w = split_walk (held_at c.set_next_of.new.nodes) g c.self.inside.size ps c.args.chunk_id c.args.taken c.args.new c.args.offset c.args.kind c.args.label d in
    rw (c.first_of-self-inside.ensures, c.chunk_id_of.ensures) w.0

pub returns-clause-chunks : goal.returns-clause-chunks
returns-clause-chunks c =
    let ps = walk c.self.inside.size (held_at c.self.inside.nodes) (Some c.self.inside.first) in
    let view = (ap (λ (v : Linked). v.chunks) c.self.view_is) in
    let d = split_chain_at (held_at c.self.inside.nodes) (held_at c.put-piece.new.self) (held_at c.cut_front.new.nodes) (held_at c.set_next_of.new.nodes)
    c.self.inside.first c.self.inside.size ps ps c.args.new c.args.chunk_id c.args.taken c.args.offset c.args.kind c.args.label c.ends_of-ends.result.start (link_chunk_id c.link_in-prev.result)
    c.self.invariant refl (can_split ps c.args.self.now.chunks c.args.chunk_id c.args.taken view c.self.invariant.numbered c.requires.longer) c.requires.positive
    (apart_of c.args.new ps (subst (λ (xs : List Chunk). HasNoChunkId xs c.args.new) (sym view) c.requires.fresh) c.self.invariant.numbered)
    (λ n h. let e = c.ends_of-ends.ensures.ends n (rw c.link_to-rest.ensures.chunk_id h) in (e.0, c.link_in-prev.ensures.chunk_id ∙ e.1))
    (rw (value_of_new c.self.inside.nodes.ids c.new.result _ c.ends_of-ends.result.prev (Some c.link_to-rest.result.slot) (link_chunk_id c.link_in-prev.result) (Some c.link_to-rest.result.chunk_id) c.new.ensures.value c.new.ensures.links (sym c.link_in-prev.ensures.chunk_id) c.link_to-rest.ensures.leads, c.link_to-rest.ensures.chunk_id) at c.put-piece.ensures.sets)
    (rw (c.link_to-rest.ensures.chunk_id, c.put-piece.ensures.link.0) at c.cut_front.ensures.changes) (rw c.put-piece.ensures.link.0 at c.set_next_of.ensures.changes) in
    let g = first_after (link_chunk_id c.link_in-prev.result) c.args.new c.self.inside.first in
    let w = split_walk (held_at c.set_next_of.new.nodes) g c.self.inside.size ps c.args.chunk_id c.args.taken c.args.new c.args.offset c.args.kind c.args.label d in
    rw (c.first_of-self-inside.ensures, c.chunk_id_of.ensures)
    (split_listed ps (walk c.self.inside.size (held_at c.set_next_of.new.nodes) (Some g)) c.args.self.now.chunks c.args.chunk_id c.args.taken c.args.new c.args.offset c.args.kind c.args.label
    view c.self.invariant.numbered w.1)
