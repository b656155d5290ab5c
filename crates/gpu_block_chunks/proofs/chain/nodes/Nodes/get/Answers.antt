use Rattle.gpu_block_chunks.proofs.Slots.{links_lead}
use Rattle.gpu_block_chunks.proofs.chain.nodes.Nodes.get.Goals as goal

pub returns-clause-links : goal.returns-clause-links
returns-clause-links c = links_lead _ _ c.self.view_is c.self.invariant.sound c.in_ok-slot.slot c.get.result c.get.ensures
