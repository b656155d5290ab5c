use Rattle.std.proofs.Common.{length, sym, ◌∙◌}
use Rattle.gpu_block_chunks.specs.ChunkIds.{ids_of}
use Rattle.gpu_block_chunks.proofs.IdSlots.{slot_has}
use Rattle.gpu_block_chunks.proofs.chain.nodes.Nodes.link_to.Goals as goal

pub returns-clause-leads : goal.returns-clause-leads
returns-clause-leads c =
    rw (← c.self.view_is) (slot_has (ids_of c.self.inside.chunks.slots (length c.self.inside.ids.followers.items)) c.args.chunk_id c.in-Some.slot (sym c.find.ensures ∙ c.in-Some.is))
