use Rattle.std.proofs.Common.{◌+◌, ◌-◌, sym, subst, arith, Some, None}
use Rattle.std.specs.Int.NonZero.{non_zero_u64_get}
use Rattle.gpu_block_chunks.specs.ChunkList.{chunk_of}
use Rattle.gpu_block_pieces.specs.FreeList.{Counted, FindsPlace}
use Rattle.gpu_block_pieces.specs.Chunks.{HoldsChunkId}
use Rattle.gpu_block_chunks.specs.Chain.{StandsAt}
use Rattle.gpu_block_pieces.proofs.Releasing.{none_live}
use Rattle.gpu_block_pieces.proofs.FoundByChunkId.{PlaceShown, place_shown}
use Rattle.gpu_block_pieces.proofs.free_list.FreeListAllocator.place_of.Goals as goal
use Rattle.gpu_block_pieces.proofs.free_list.FreeListAllocator.place_of.Goals.{In-Some}

shown : (c : In-Some) → PlaceShown c.self.inside.chunks.items (chunk_of c.in-Some.piece) (non_zero_u64_get c.args.chunk_id)
shown c =
    let e = c.in-Some.ensures.piece in
    place_shown c.self.inside.chunks.items c.self.inside.chunks.size c.self.inside.counter (chunk_of c.in-Some.piece) (non_zero_u64_get c.args.chunk_id) c.self.invariant.1 c.self.invariant.3 e.0
    (subst (λ n. StandsAt c.self.inside.chunks.items n (chunk_of c.in-Some.piece)) c.get.ensures.value e.1)

pub overflow_add-result : goal.overflow_add-result
overflow_add-result c = let f = (shown c).fits in omega arith

pub overflow_sub-result : goal.overflow_sub-result
overflow_sub-result c = let f = (shown c).inside in omega arith

pub returns-in-Some : goal.returns-in-Some
returns-in-Some c =
    subst (λ (v : Counted). FindsPlace v.block.extents (non_zero_u64_get c.args.chunk_id)
    (Some (c.in-Some.piece.offset, c.in-Some.piece.start + c.in-Some.piece.size - c.in-Some.piece.offset))) c.self.view_is (shown c).found

pub returns-in-None : goal.returns-in-None
returns-in-None c =
    subst (λ (v : Counted). FindsPlace v.block.extents (non_zero_u64_get c.args.chunk_id) None) c.self.view_is
    (λ x held is. none_live 0 1 0 c.self.inside.chunks.items (non_zero_u64_get c.args.chunk_id)
    (λ k h. c.in-None.ensures.piece k (subst (λ n. HoldsChunkId c.self.inside.chunks.items n k) (sym c.get.ensures.value) h)) (x, held, is))
