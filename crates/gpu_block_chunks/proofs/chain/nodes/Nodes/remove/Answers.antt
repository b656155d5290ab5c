use Rattle.gpu_block_chunks.proofs.Slots.{led}
use Rattle.gpu_block_chunks.proofs.Found.{nodes_out, held_out, links_out}
use Rattle.gpu_block_chunks.proofs.chain.nodes.Nodes.remove.Goals as goal

pub invariant_of-self : goal.invariant_of-self
invariant_of-self c =
    let there = led _ _ c.self.view_is c.self.invariant.sound c.args.link c.requires.there.0 in
    nodes_out c.self.inside.ids.eras c.unlink.new.self.eras c.self.inside.ids.heads.items c.self.inside.ids.followers.items c.unlink.new.self.heads.items c.unlink.new.self.followers.items c.self.inside.chunks c.remove.new.self
    c.args.link.chunk_id c.args.link.slot c.self.invariant there c.remove.ensures.changes c.remove.ensures.length c.unlink.ensures.chained c.unlink.ensures.heads c.unlink.ensures.eras c.unlink.ensures.followers
    (rw (← c.self.view_is) at c.requires.alone)

pub returns-clause-sets : goal.returns-clause-sets
returns-clause-sets c =
    let there = led _ _ c.self.view_is c.self.invariant.sound c.args.link c.requires.there.0 in
    rw (← c.self.view_is) (held_out c.self.inside.ids.eras c.unlink.new.self.eras c.self.inside.ids.heads.items c.self.inside.ids.followers.items c.unlink.new.self.heads.items c.unlink.new.self.followers.items c.self.inside.chunks c.remove.new.self
    c.args.link.chunk_id c.args.link.slot c.self.invariant there c.remove.ensures.changes c.remove.ensures.length c.unlink.ensures.chained c.unlink.ensures.heads c.unlink.ensures.eras c.unlink.ensures.followers
    (rw (← c.self.view_is) at c.requires.alone))

pub returns-clause-kept : goal.returns-clause-kept
returns-clause-kept c =
    let there = led _ _ c.self.view_is c.self.invariant.sound c.args.link c.requires.there.0 in
    λ l leads ne. links_out c.self.inside.ids.eras c.unlink.new.self.eras c.self.inside.ids.heads.items c.self.inside.ids.followers.items c.unlink.new.self.heads.items c.unlink.new.self.followers.items c.self.inside.chunks c.remove.new.self
    c.args.link.chunk_id c.args.link.slot c.self.invariant there c.remove.ensures.changes c.remove.ensures.length c.unlink.ensures.chained c.unlink.ensures.heads c.unlink.ensures.eras c.unlink.ensures.followers
    (rw (← c.self.view_is) at c.requires.alone) l (rw (← c.self.view_is) at leads) ne
