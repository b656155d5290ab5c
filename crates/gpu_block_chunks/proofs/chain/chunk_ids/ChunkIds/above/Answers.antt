use Rattle.std.proofs.Common.{◌∙◌}
use Rattle.gpu_block_chunks.specs.Eras.{own_chain}
use Rattle.gpu_block_chunks.proofs.IdsOf.{chunk_led_to}
use Rattle.gpu_block_chunks.proofs.chain.chunk_ids.ChunkIds.above.Goals as goal

pub id_in-requires : goal.id_in-requires
id_in-requires c =
    let heads = c.args.self.now.heads.items in
    let fs = c.args.self.now.followers.items in
    chunk_led_to (own_chain c.args.self.now.eras) heads fs c.args.chunks.now.slots c.args.chain c.args.before c.in_ok-slot.slot c.requires.found.chained c.requires.chain c.requires.before
    (c.in_ok-slot.ensures ∙ (rw c.deref.ensures.value at c.follower.ensures))
