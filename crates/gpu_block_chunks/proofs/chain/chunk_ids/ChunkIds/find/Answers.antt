use Rattle.std.proofs.Common.{◌≡◌, ℕ, Some, None, length, sym, ap, ◌∙◌}
use Rattle.std.proofs.lemmas.Option.{same_Some}
use Rattle.gpu_block_chunks.specs.Eras.{own_chain}
use Rattle.gpu_block_chunks.specs.ChunkIds.{ids_of, id_at}
use Rattle.gpu_block_chunks.proofs.IdSlots.{slot_found}
use Rattle.gpu_block_chunks.proofs.IdRows.{none_home, own_inside}
use Rattle.gpu_block_chunks.proofs.IdsOf.{ids_at, chunk_led_to}
use Rattle.gpu_block_chunks.proofs.chain.chunk_ids.ChunkIds.find.Goals as goal

pub returns-in_err-slot : goal.returns-in_err-slot
returns-in_err-slot c =
    let ids = ids_of c.args.chunks.now.slots (length c.args.self.now.followers.items) in
    c.from_residual.ensures
    ∙ sym (none_home (own_chain c.args.self.now.eras) c.args.self.now.heads.items c.args.self.now.followers.items ids c.args.chunk_id c.last_above-before.result c.requires.chained c.chain_of-chain.result c.chain_of-chain.ensures.value
    c.last_above-before.ensures None (c.in_err-slot.ensures ∙ (rw c.deref.ensures.value at c.follower.ensures)) (λ s (no : None ≡ Some s). cc))

pub id_in-requires : goal.id_in-requires
id_in-requires c =
    let chunks = c.args.chunks.now.slots in
    let fs = c.args.self.now.followers.items in
    chunk_led_to (own_chain c.args.self.now.eras) c.args.self.now.heads.items fs chunks c.chain_of-chain.result c.last_above-before.result c.in_ok-slot.slot c.requires.chained
    (own_inside (own_chain c.args.self.now.eras) c.args.self.now.heads.items fs (ids_of chunks (length fs)) c.args.chunk_id c.chain_of-chain.result c.requires.chained c.chain_of-chain.ensures.value) c.last_above-before.ensures.inside (c.in_ok-slot.ensures ∙ (rw c.deref.ensures.value at c.follower.ensures))

pub returns-then-id_in-chunk_id : goal.returns-then-id_in-chunk_id
returns-then-id_in-chunk_id c =
    let chunks = c.args.chunks.now.slots in
    let fs = c.args.self.now.followers.items in
    let ids = ids_of chunks (length fs) in
    let at = ids_at chunks (length fs) c.in_ok-slot.slot ∙ c.id_in.ensures in
    sym (none_home (own_chain c.args.self.now.eras) c.args.self.now.heads.items fs ids c.args.chunk_id c.last_above-before.result c.requires.chained c.chain_of-chain.result c.chain_of-chain.ensures.value
    c.last_above-before.ensures (Some c.in_ok-slot.slot) (c.in_ok-slot.ensures ∙ (rw c.deref.ensures.value at c.follower.ensures))
    (λ s leads (has : id_at ids s ≡ Some c.args.chunk_id). c.if-id_in-chunk_id.true (same_Some _ _ (sym at ∙ ap (id_at ids) (same_Some c.in_ok-slot.slot s leads) ∙ has))))

pub returns : goal.returns
returns c =
    let chunks = c.args.chunks.now.slots in
    let fs = c.args.self.now.followers.items in
    let at = ids_at chunks (length fs) c.in_ok-slot.slot ∙ c.id_in.ensures ∙ ap (λ (k : ℕ). Some k) c.if-id_in-chunk_id.false in
    sym (slot_found (ids_of chunks (length fs)) c.args.chunk_id c.in_ok-slot.slot at (λ t there. c.requires.chained.distinct t c.in_ok-slot.slot c.args.chunk_id there at))
