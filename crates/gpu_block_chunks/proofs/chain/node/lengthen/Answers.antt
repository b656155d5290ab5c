use Rattle.std.proofs.Common.{◌+◌, ◌<◌, ◌^◌, refl, ap}
use Rattle.gpu_block_chunks.specs.declared.chunk.Chunk.{Chunk}
use Rattle.gpu_block_chunks.specs.Chain.{joined_node}
use Rattle.gpu_block_chunks.specs.Nodes.{link_chunk_id}
use Rattle.gpu_block_chunks.specs.Slots.{Stored, joined_linked}
use Rattle.gpu_block_chunks.proofs.Slots.{there_and, storable, changed_sound, changed_changes, given, numbers}
use Rattle.gpu_block_chunks.proofs.Found.{nodes_kept, held_kept, numbers_kept}
use Rattle.gpu_block_chunks.proofs.chain.node.lengthen.Goals as goal

pub lengthen-requires : goal.lengthen-requires
lengthen-requires c = record {
  fits = there_and _ _ c.nodes.view_is c.nodes.invariant.sound c.args.at c.requires.leads (λ (d : Chunk). d.size + c.args.more < 2 ^ 64) c.requires.fits;
  next = rw c.slot_of.ensures (storable _ _ c.nodes.view_is c.nodes.invariant.sound c.args.at c.requires.leads c.args.next c.requires.next);
}

pub invariant_of-nodes : goal.invariant_of-nodes
invariant_of-nodes c =
    nodes_kept c.nodes.inside.ids.eras c.nodes.inside.ids.heads.items c.nodes.inside.ids.followers.items c.nodes.inside.chunks.slots c.lengthen.new.self.slots c.args.at.slot (joined_linked c.args.more c.slot_of.result)
    (ap (λ (s : Stored). s.slots) c.lengthen.ensures.changes) (λ n. refl) c.nodes.invariant
    (changed_sound _ _ c.nodes.view_is c.nodes.invariant.sound c.args.at c.requires.leads c.lengthen.new.self.slots (joined_linked c.args.more c.slot_of.result)
    (ap (λ (s : Stored). s.slots) c.lengthen.ensures.changes) (λ n. refl)
    (λ n kept. kept)
    (λ n kept. rw c.slot_of.ensures (given _ _ c.nodes.view_is c.nodes.invariant.sound c.args.at c.requires.leads c.args.next c.requires.next)))

pub returns-clause-changes : goal.returns-clause-changes
returns-clause-changes c =
    held_kept c.nodes.inside.ids.eras c.nodes.inside.ids.heads.items c.nodes.inside.ids.followers.items c.nodes.inside.chunks.slots c.lengthen.new.self.slots c.args.at.slot (joined_linked c.args.more c.slot_of.result)
    (ap (λ (s : Stored). s.slots) c.lengthen.ensures.changes) (λ n. refl) _ _ _
    (changed_changes _ _ c.nodes.view_is c.nodes.invariant.sound c.args.at c.requires.leads c.lengthen.new.self.slots (joined_linked c.args.more c.slot_of.result)
    (ap (λ (s : Stored). s.slots) c.lengthen.ensures.changes) (joined_node c.args.more (link_chunk_id c.args.next))
    (λ n. rw (c.slot_of.ensures, numbers _ _ c.nodes.view_is c.nodes.invariant.sound c.args.at c.requires.leads c.args.next c.requires.next) refl))

pub returns-clause-ids : goal.returns-clause-ids
returns-clause-ids c = rw (← c.nodes.view_is) (numbers_kept c.nodes.inside.ids.eras c.nodes.inside.ids.heads.items c.nodes.inside.ids.followers.items c.nodes.inside.chunks.slots c.lengthen.new.self.slots c.args.at.slot (joined_linked c.args.more c.slot_of.result)
    (ap (λ (s : Stored). s.slots) c.lengthen.ensures.changes) (λ n. refl))
