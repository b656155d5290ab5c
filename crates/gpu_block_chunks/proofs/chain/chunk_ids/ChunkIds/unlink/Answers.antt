use Rattle.std.proofs.Common.{◌≡◌, ◌∙◌, ◌<◌, None, length, ap, arith}
use Rattle.std.proofs.lemmas.List.{get_or_read}
use Rattle.gpu_block_chunks.specs.Eras.{own_chain}
use Rattle.gpu_block_chunks.specs.ChunkIds.{ids_of}
use Rattle.gpu_block_chunks.proofs.IdsOf.{ids_at}
use Rattle.gpu_block_chunks.proofs.IdRows.{id_within, out_chains, whole}
use Rattle.gpu_block_chunks.proofs.chain.chunk_ids.ChunkIds.unlink.Goals as goal

pub returns-clause-chained : goal.returns-clause-chained
returns-clause-chained c =
    let old = c.args.self.now in
    let heads = old.heads.items in
    let fs = old.followers.items in
    let new_heads = c.set_follower.new.heads in
    let new_fs = c.set_follower.new.followers.items in
    let ids = ids_of c.args.chunks.now.slots (length fs) in
    let there = ids_at c.args.chunks.now.slots (length fs) c.args.slot ∙ c.requires.there in
    let within = id_within ids c.args.slot c.args.chunk_id there in
    let long = c.requires.found.chained.long in
    let inside : c.args.slot < length fs = omega arith in
    let heads_length : length new_heads ≡ length heads = c.set_follower.ensures.heads ∙ ap length c.deref_mut.ensures.value in
    let fs_length : length new_fs ≡ length fs = c.set_follower.ensures.followers in
    let head_count = c.deref_mut.ensures.len in
    let heads_are = ap length c.deref_mut.ensures.value in
    rw (whole heads new_heads old.heads.len heads_length (omega arith))
    (out_chains (own_chain old.eras) heads fs new_heads new_fs ids c.requires.found.chained c.args.chunk_id c.args.slot c.last_above-before.result
    heads_length fs_length c.chain_of-chain.result c.chain_of-chain.ensures.value c.last_above-before.ensures there c.index-next.result.now
    (get_or_read fs c.args.slot c.index-next.result.now inside c.index-next.ensures None) (rw c.deref_mut.ensures.value at c.set_follower.ensures.links))
