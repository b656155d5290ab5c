use Rattle.std.proofs.Common.{refl, sym, ◌∙◌}
use Rattle.gpu_block_chunks.proofs.Slots.{reaches_found}
use Rattle.gpu_block_chunks.proofs.chain.nodes.Nodes.find_link.Goals as goal

pub returns-in-Some : goal.returns-in-Some
returns-in-Some c = (refl, reaches_found _ _ c.self.view_is c.self.invariant.sound c.args.chunk_id c.in-Some.slot (sym c.find.ensures ∙ c.in-Some.is))
