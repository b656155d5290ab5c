use Rattle.gpu_block_chunks.proofs.Found.{nodes_more, held_more}
use Rattle.gpu_block_chunks.proofs.chain.nodes.Nodes.reserve.Goals as goal

pub invariant_of-self-2 : goal.invariant_of-self-2
invariant_of-self-2 c =
    let new = c.reserve_to.new.self in
    rw c.reserve.ensures.same (nodes_more c.self.inside.ids.eras new.eras c.self.inside.ids.heads.items c.self.inside.ids.followers.items new.heads.items new.followers.items c.self.inside.chunks.slots c.self.invariant
    (c.reserve_to.ensures.found c.self.inside.chunks.slots c.self.invariant.found) c.reserve_to.ensures.more)

pub returns-clause-same : goal.returns-clause-same
returns-clause-same c = λ k.
    let new = c.reserve_to.new.self in
    rw (← c.self.view_is, c.reserve.ensures.same) (held_more c.self.inside.ids.eras new.eras c.self.inside.ids.heads.items c.self.inside.ids.followers.items new.heads.items new.followers.items c.self.inside.chunks.slots
    c.self.invariant (c.reserve_to.ensures.found c.self.inside.chunks.slots c.self.invariant.found) c.reserve_to.ensures.more k)
