use Rattle.std.proofs.Common.{sym}
use Rattle.gpu_block_chunks.specs.Slots.{linked_of}
use Rattle.gpu_block_chunks.proofs.Slots.{read_is}
use Rattle.gpu_block_chunks.proofs.chain.nodes.Nodes.linked.Goals as goal

pub returns-clause-value : goal.returns-clause-value
returns-clause-value c = read_is _ _ c.self.view_is c.self.invariant.sound c.args.link c.requires.0 (linked_of c.at.result) (sym c.at.ensures)
