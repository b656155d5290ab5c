use Rattle.std.proofs.Common.{◌+◌, ◌<◌, ◌^◌, refl, ap}
use Rattle.gpu_block_chunks.specs.declared.chunk.Chunk.{Chunk}
use Rattle.gpu_block_chunks.specs.Chain.{cut_node}
use Rattle.gpu_block_chunks.specs.Nodes.{link_chunk_id}
use Rattle.gpu_block_chunks.specs.Slots.{Stored, cut_linked}
use Rattle.gpu_block_chunks.proofs.Slots.{there_and, storable, changed_sound, changed_changes, given, numbers}
use Rattle.gpu_block_chunks.proofs.Found.{nodes_kept, held_kept, numbers_kept}
use Rattle.gpu_block_chunks.proofs.chain.node.cut_front.Goals as goal

pub cut_front-requires : goal.cut_front-requires
cut_front-requires c = record {
  longer = there_and _ _ c.nodes.view_is c.nodes.invariant.sound c.args.at c.requires.leads (λ (d : Chunk). (c.args.taken < d.size) × (d.start + d.size < 2 ^ 64)) c.requires.longer;
  prev = rw c.slot_of.ensures (storable _ _ c.nodes.view_is c.nodes.invariant.sound c.args.at c.requires.leads c.args.prev c.requires.prev);
}

pub invariant_of-nodes : goal.invariant_of-nodes
invariant_of-nodes c =
    nodes_kept c.nodes.inside.ids.eras c.nodes.inside.ids.heads.items c.nodes.inside.ids.followers.items c.nodes.inside.chunks.slots c.cut_front.new.self.slots c.args.at.slot (cut_linked c.args.taken c.slot_of.result)
    (ap (λ (s : Stored). s.slots) c.cut_front.ensures.changes) (λ n. refl) c.nodes.invariant
    (changed_sound _ _ c.nodes.view_is c.nodes.invariant.sound c.args.at c.requires.leads c.cut_front.new.self.slots (cut_linked c.args.taken c.slot_of.result)
    (ap (λ (s : Stored). s.slots) c.cut_front.ensures.changes) (λ n. refl)
    (λ n kept. rw c.slot_of.ensures (given _ _ c.nodes.view_is c.nodes.invariant.sound c.args.at c.requires.leads c.args.prev c.requires.prev))
    (λ n kept. kept))

pub returns-clause-changes : goal.returns-clause-changes
returns-clause-changes c =
    held_kept c.nodes.inside.ids.eras c.nodes.inside.ids.heads.items c.nodes.inside.ids.followers.items c.nodes.inside.chunks.slots c.cut_front.new.self.slots c.args.at.slot (cut_linked c.args.taken c.slot_of.result)
    (ap (λ (s : Stored). s.slots) c.cut_front.ensures.changes) (λ n. refl) _ _ _
    (changed_changes _ _ c.nodes.view_is c.nodes.invariant.sound c.args.at c.requires.leads c.cut_front.new.self.slots (cut_linked c.args.taken c.slot_of.result)
    (ap (λ (s : Stored). s.slots) c.cut_front.ensures.changes) (cut_node c.args.taken (link_chunk_id c.args.prev))
    (λ n. rw (c.slot_of.ensures, numbers _ _ c.nodes.view_is c.nodes.invariant.sound c.args.at c.requires.leads c.args.prev c.requires.prev) refl))

pub returns-clause-ids : goal.returns-clause-ids
returns-clause-ids c = rw (← c.nodes.view_is) (numbers_kept c.nodes.inside.ids.eras c.nodes.inside.ids.heads.items c.nodes.inside.ids.followers.items c.nodes.inside.chunks.slots c.cut_front.new.self.slots c.args.at.slot (cut_linked c.args.taken c.slot_of.result)
    (ap (λ (s : Stored). s.slots) c.cut_front.ensures.changes) (λ n. refl))
