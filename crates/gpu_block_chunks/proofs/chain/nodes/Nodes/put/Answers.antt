use Rattle.gpu_block_chunks.proofs.Slots.{slotless}
use Rattle.gpu_block_chunks.proofs.Found.{nodes_put, held_put, links_put}
use Rattle.gpu_block_chunks.proofs.chain.nodes.Nodes.put.Goals as goal

pub invariant_of-self : goal.invariant_of-self
invariant_of-self c =
    let put = c.insert_reserved-slot in
    let link = c.link in
    let fresh = slotless _ _ c.self.view_is c.self.invariant.sound c.args.chunk_id c.requires.unlinked.none in
    nodes_put c.self.inside.ids.eras link.new.self.eras c.self.inside.ids.heads.items c.self.inside.ids.followers.items link.new.self.heads.items link.new.self.followers.items c.self.inside.chunks put.new.self c.args.chunk_id put.result
    c.args.chunk c.place-before.result c.self.invariant (rw (← c.self.view_is) at c.requires.room) fresh c.place-before.ensures put.ensures.was_free put.ensures.changes put.ensures.first
    c.requires.numbered link.ensures.links link.ensures.heads link.ensures.followers link.ensures.eras (rw (← c.self.view_is) at c.requires.prev) (rw (← c.self.view_is) at c.requires.next)

pub returns-clause-sets : goal.returns-clause-sets
returns-clause-sets c =
    let put = c.insert_reserved-slot in
    let link = c.link in
    let fresh = slotless _ _ c.self.view_is c.self.invariant.sound c.args.chunk_id c.requires.unlinked.none in
    rw (← c.self.view_is) (held_put c.self.inside.ids.eras link.new.self.eras c.self.inside.ids.heads.items c.self.inside.ids.followers.items link.new.self.heads.items link.new.self.followers.items c.self.inside.chunks put.new.self c.args.chunk_id put.result
    c.args.chunk c.place-before.result c.self.invariant (rw (← c.self.view_is) at c.requires.room) fresh c.place-before.ensures put.ensures.was_free put.ensures.changes put.ensures.first
    c.requires.numbered link.ensures.links link.ensures.heads link.ensures.followers link.ensures.eras (rw (← c.self.view_is) at c.requires.prev) (rw (← c.self.view_is) at c.requires.next))

pub returns-clause-links : goal.returns-clause-links
returns-clause-links c =
    let put = c.insert_reserved-slot in
    let link = c.link in
    let fresh = slotless _ _ c.self.view_is c.self.invariant.sound c.args.chunk_id c.requires.unlinked.none in
    λ l reaches. links_put c.self.inside.ids.eras link.new.self.eras c.self.inside.ids.heads.items c.self.inside.ids.followers.items link.new.self.heads.items link.new.self.followers.items c.self.inside.chunks put.new.self c.args.chunk_id put.result
    c.args.chunk c.place-before.result c.self.invariant (rw (← c.self.view_is) at c.requires.room) fresh c.place-before.ensures put.ensures.was_free put.ensures.changes put.ensures.first
    c.requires.numbered link.ensures.links link.ensures.heads link.ensures.followers link.ensures.eras l (rw (← c.self.view_is) at reaches.0)
