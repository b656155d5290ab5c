use Rattle.std.proofs.Common.{◌≡◌, ◌∙◌, ℕ, [], ◌∷◌, sym, subst, refl, Some, arith}
use Rattle.std.specs.Int.NonZero.{non_zero_u64_get}
use Rattle.std.specs.Option.{option_map}
use Rattle.gpu_block.specs.Dedicated.{held_extents}
use Rattle.gpu_block_pieces.specs.FreeList.{FindsPlace}
use Rattle.gpu_block_pieces.specs.Chunks.{extent, IsWholeChunk}
use Rattle.gpu_block_chunks.specs.declared.chunk.Chunk.{Chunk}
use Rattle.gpu_block.proofs.dedicated_block.DedicatedBlockAllocator.place_of.Goals as goal

found_whole : (size : ℕ) (c : Chunk) (chunk_id : ℕ) → IsWholeChunk size c → chunk_id ≡ 1 → FindsPlace (extent c ∷ []) chunk_id (Some (0, c.size))
found_whole size c chunk_id w one =
    let s0 = w.starts.0 in
    (extent c, (0, omega arith, refl), w.first ∙ sym one, w.starts.1, omega arith)

pub returns-in-Some : goal.returns-in-Some
returns-in-Some c =
    let whole : IsWholeChunk c.self.inside.size c.in-Some.chunk = rw c.in-Some.is at c.self.invariant.2 in
    let one : non_zero_u64_get c.args.chunk_id ≡ 1 = sym c.get.ensures.value ∙ c.if-get-eq1.true in
    let found : FindsPlace (held_extents (record { size = c.self.inside.size; piece = option_map extent c.self.inside.piece })) (non_zero_u64_get c.args.chunk_id) (Some (0, c.in-Some.chunk.size)) =
    rw c.in-Some.is (found_whole c.self.inside.size c.in-Some.chunk (non_zero_u64_get c.args.chunk_id) whole one) in
    subst (λ b. FindsPlace (held_extents b) (non_zero_u64_get c.args.chunk_id) (Some (0, c.in-Some.chunk.size))) c.self.view_is found
