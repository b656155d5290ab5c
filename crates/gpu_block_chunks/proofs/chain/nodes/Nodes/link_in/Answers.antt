use Rattle.gpu_block_chunks.specs.Slots.{linked_of}
use Rattle.gpu_block_chunks.proofs.Slots.{reaches_in}
use Rattle.gpu_block_chunks.proofs.chain.nodes.Nodes.link_in.Goals as goal

pub returns-clause-reaches : goal.returns-clause-reaches
returns-clause-reaches c = reaches_in _ _ c.self.view_is c.self.invariant.sound c.in_ok-slot.slot (linked_of c.at-linked.result) c.at-linked.ensures
