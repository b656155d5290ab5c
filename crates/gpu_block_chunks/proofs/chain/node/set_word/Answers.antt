use Rattle.std.proofs.Common.{refl, ap}
use Rattle.gpu_block_chunks.specs.Chain.{worded_node}
use Rattle.gpu_block_chunks.specs.Slots.{Stored, worded_linked}
use Rattle.gpu_block_chunks.proofs.Slots.{some_there, changed_sound, changed_changes}
use Rattle.gpu_block_chunks.proofs.Found.{nodes_kept, held_kept, numbers_kept}
use Rattle.gpu_block_chunks.proofs.chain.node.set_word.Goals as goal

pub set_word-requires : goal.set_word-requires
set_word-requires c = some_there _ _ c.nodes.view_is c.nodes.invariant.sound c.args.at c.requires.0

pub invariant_of-nodes : goal.invariant_of-nodes
invariant_of-nodes c =
    nodes_kept c.nodes.inside.ids.eras c.nodes.inside.ids.heads.items c.nodes.inside.ids.followers.items c.nodes.inside.chunks.slots c.set_word.new.self.slots c.args.at.slot (worded_linked c.args.word)
    (ap (λ (s : Stored). s.slots) c.set_word.ensures.changes) (λ n. refl) c.nodes.invariant
    (changed_sound _ _ c.nodes.view_is c.nodes.invariant.sound c.args.at c.requires.0 c.set_word.new.self.slots (worded_linked c.args.word)
    (ap (λ (s : Stored). s.slots) c.set_word.ensures.changes) (λ n. refl) (λ n kept. kept) (λ n kept. kept))

pub returns-clause-changes : goal.returns-clause-changes
returns-clause-changes c =
    held_kept c.nodes.inside.ids.eras c.nodes.inside.ids.heads.items c.nodes.inside.ids.followers.items c.nodes.inside.chunks.slots c.set_word.new.self.slots c.args.at.slot (worded_linked c.args.word)
    (ap (λ (s : Stored). s.slots) c.set_word.ensures.changes) (λ n. refl) _ _ _
    (changed_changes _ _ c.nodes.view_is c.nodes.invariant.sound c.args.at c.requires.0 c.set_word.new.self.slots (worded_linked c.args.word)
    (ap (λ (s : Stored). s.slots) c.set_word.ensures.changes) (worded_node c.args.word) (λ n. refl))

pub returns-clause-ids : goal.returns-clause-ids
returns-clause-ids c = rw (← c.nodes.view_is) (numbers_kept c.nodes.inside.ids.eras c.nodes.inside.ids.heads.items c.nodes.inside.ids.followers.items c.nodes.inside.chunks.slots c.set_word.new.self.slots c.args.at.slot (worded_linked c.args.word)
    (ap (λ (s : Stored). s.slots) c.set_word.ensures.changes) (λ n. refl))
