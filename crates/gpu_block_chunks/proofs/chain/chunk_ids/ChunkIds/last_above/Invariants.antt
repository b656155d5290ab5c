use Rattle.std.proofs.Common.{Some, length}
use Rattle.gpu_block_chunks.specs.Eras.{own_chain}
use Rattle.gpu_block_chunks.specs.ChunkIds.{id_at, ids_of, IsOf, IsBelow}
use Rattle.gpu_block_chunks.proofs.IdRows.{rank}
use Rattle.gpu_block_chunks.proofs.chain.chunk_ids.ChunkIds.last_above.Given as goal

abbrev pub invariant-loop-next : goal.invariant-loop-next
invariant-loop-next l = record { inside : IsOf (ids_of l.chunks.slots (length l.self.followers.items)) (own_chain l.self.eras) l.chain (Some l.last); below : IsBelow (ids_of l.chunks.slots (length l.self.followers.items)) (Some l.last) l.chunk_id }

abbrev pub decreases-loop-next : goal.decreases-loop-next
decreases-loop-next l = rank (id_at (ids_of l.chunks.slots (length l.self.followers.items)) l.last)
