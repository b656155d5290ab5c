use Rattle.std.proofs.Common.{refl, ap}
use Rattle.gpu_block_chunks.specs.Chain.{with_next}
use Rattle.gpu_block_chunks.specs.Nodes.{link_chunk_id}
use Rattle.gpu_block_chunks.specs.Slots.{Stored, linked_next}
use Rattle.gpu_block_chunks.proofs.Slots.{some_there, storable, changed_sound, changed_changes, given, numbers}
use Rattle.gpu_block_chunks.proofs.Found.{nodes_kept, held_kept, numbers_kept}
use Rattle.gpu_block_chunks.proofs.chain.node.set_next.Goals as goal

pub set_next-requires : goal.set_next-requires
set_next-requires c = record {
  there = some_there _ _ c.nodes.view_is c.nodes.invariant.sound c.args.at c.requires.there.0;
  next = rw c.slot_of.ensures (storable _ _ c.nodes.view_is c.nodes.invariant.sound c.args.at c.requires.there.0 c.args.next c.requires.next);
}

pub invariant_of-nodes : goal.invariant_of-nodes
invariant_of-nodes c =
    nodes_kept c.nodes.inside.ids.eras c.nodes.inside.ids.heads.items c.nodes.inside.ids.followers.items c.nodes.inside.chunks.slots c.set_next.new.self.slots c.args.at.slot (linked_next c.slot_of.result)
    (ap (λ (s : Stored). s.slots) c.set_next.ensures.changes) (λ n. refl) c.nodes.invariant
    (changed_sound _ _ c.nodes.view_is c.nodes.invariant.sound c.args.at c.requires.there.0 c.set_next.new.self.slots (linked_next c.slot_of.result)
    (ap (λ (s : Stored). s.slots) c.set_next.ensures.changes) (λ n. refl)
    (λ n kept. kept)
    (λ n kept. rw c.slot_of.ensures (given _ _ c.nodes.view_is c.nodes.invariant.sound c.args.at c.requires.there.0 c.args.next c.requires.next)))

pub returns-clause-changes : goal.returns-clause-changes
returns-clause-changes c =
    held_kept c.nodes.inside.ids.eras c.nodes.inside.ids.heads.items c.nodes.inside.ids.followers.items c.nodes.inside.chunks.slots c.set_next.new.self.slots c.args.at.slot (linked_next c.slot_of.result)
    (ap (λ (s : Stored). s.slots) c.set_next.ensures.changes) (λ n. refl) _ _ _
    (changed_changes _ _ c.nodes.view_is c.nodes.invariant.sound c.args.at c.requires.there.0 c.set_next.new.self.slots (linked_next c.slot_of.result)
    (ap (λ (s : Stored). s.slots) c.set_next.ensures.changes) (with_next (link_chunk_id c.args.next))
    (λ n. rw (c.slot_of.ensures, numbers _ _ c.nodes.view_is c.nodes.invariant.sound c.args.at c.requires.there.0 c.args.next c.requires.next) refl))

pub returns-clause-ids : goal.returns-clause-ids
returns-clause-ids c = rw (← c.nodes.view_is) (numbers_kept c.nodes.inside.ids.eras c.nodes.inside.ids.heads.items c.nodes.inside.ids.followers.items c.nodes.inside.chunks.slots c.set_next.new.self.slots c.args.at.slot (linked_next c.slot_of.result)
    (ap (λ (s : Stored). s.slots) c.set_next.ensures.changes) (λ n. refl))
