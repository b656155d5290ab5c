use Rattle.std.proofs.Common.{Some, None, length}
use Rattle.gpu_block_chunks.specs.Eras.{own_chain}
use Rattle.gpu_block_chunks.specs.ChunkIds.{ids_of}
use Rattle.gpu_block_chunks.proofs.IdRows.{led_to, below_of, falls}
use Rattle.gpu_block_chunks.proofs.chain.chunk_ids.ChunkIds.last_above.Goals as goal

pub loop-next-init : goal.loop-next-init
loop-next-init c =
    let has = led_to (own_chain c.args.self.now.eras) c.args.self.now.heads.items c.args.self.now.followers.items (ids_of c.args.chunks.now.slots (length c.args.self.now.followers.items)) c.args.chain None c.in_ok-last.last c.requires.found.chained c.requires.chain tt c.in_ok-last.ensures.0 in
    record { inside = (has.id, has.at, has.holds.0); below = below_of (ids_of c.args.chunks.now.slots (length c.args.self.now.followers.items)) c.in_ok-last.last c.args.chunk_id c.in_ok-last.ensures.1 }

pub loop-next-smaller : goal.loop-next-smaller
loop-next-smaller c =
    let inside = c.loop-next.invariant.inside in
    let has = led_to (own_chain c.args.self.now.eras) c.args.self.now.heads.items c.args.self.now.followers.items (ids_of c.args.chunks.now.slots (length c.args.self.now.followers.items)) c.args.chain (Some c.loop-next.last) c.in-Some.next c.requires.found.chained c.requires.chain inside c.in-Some.ensures.0 in
    falls (ids_of c.args.chunks.now.slots (length c.args.self.now.followers.items)) c.in-Some.next c.loop-next.last has.id inside.0 has.at inside.1 (has.holds.1 inside.0 inside.1)

pub loop-next-preserved : goal.loop-next-preserved
loop-next-preserved c =
    let has = led_to (own_chain c.args.self.now.eras) c.args.self.now.heads.items c.args.self.now.followers.items (ids_of c.args.chunks.now.slots (length c.args.self.now.followers.items)) c.args.chain (Some c.loop-next.last) c.in-Some.next c.requires.found.chained c.requires.chain c.loop-next.invariant.inside c.in-Some.ensures.0 in
    record { inside = (has.id, has.at, has.holds.0); below = below_of (ids_of c.args.chunks.now.slots (length c.args.self.now.followers.items)) c.in-Some.next c.args.chunk_id c.in-Some.ensures.1 }
