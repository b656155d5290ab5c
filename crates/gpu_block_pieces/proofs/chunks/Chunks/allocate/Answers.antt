use Rattle.std.proofs.Common.{◌∙◌, ◌+◌, ◌-◌, ap, sym, subst, List, length, arith, refl}
use Rattle.gpu_block_chunks.specs.declared.chunk.Chunk.{Chunk}
use Rattle.gpu_block_chunks.specs.ChunkList.{AreDistinct}
use Rattle.gpu_block_chunks.specs.Chain.{IsSplit, IsFilled}
use Rattle.gpu_block_pieces.specs.Indexed.{LaidChunks, IsChosen, IsGapOf, gaps_between}
use Rattle.gpu_values.specs.declared.allocation_type.AllocationType.TheVariants.{Free, Linear}
use Rattle.gpu_block_pieces.proofs.Indexing.{few_gaps, same_length}
use Rattle.gpu_block_pieces.proofs.FoundByChunkId.{chosen_gap, chosen_fits, front_taken, whole_taken}
use Rattle.gpu_block_pieces.proofs.chunks.Chunks.allocate.Goals as goal

pub overflow_add-taken : goal.overflow_add-taken
overflow_add-taken c =
    let h = subst (λ (xs : List Chunk). IsChosen xs c.args.wanted.now c.args.found) (sym (ap (λ (v : LaidChunks). v.items) c.self.view_is)) c.requires.chosen in
    let f = chosen_fits c.self.inside.chain.chunks c.args.wanted.now c.args.found c.self.inside.chain.size c.laid_out.ensures.covers c.laid_out.ensures.bounded h in
    omega (arith, f.high, f.ends)

pub allocate_front-requires-clause-gap : goal.allocate_front-requires-clause-gap
allocate_front-requires-clause-gap c =
    let e = c.in_ok-make_room.ensures.chain.0 ∙ ap (λ (v : LaidChunks). v.items) c.self.view_is in
    subst (λ (xs : List Chunk). IsGapOf xs c.args.found.gap) (sym e) (chosen_gap c.args.self.now.items c.args.wanted.now c.args.found c.requires.chosen)

pub allocate_whole-requires-clause-gap : goal.allocate_whole-requires-clause-gap
allocate_whole-requires-clause-gap c =
    let e = c.in_ok-make_room.ensures.chain.0 ∙ ap (λ (v : LaidChunks). v.items) c.self.view_is in
    subst (λ (xs : List Chunk). IsGapOf xs c.args.found.gap) (sym e) (chosen_gap c.args.self.now.items c.args.wanted.now c.args.found c.requires.chosen)

pub allocate_front-requires-clause-room : goal.allocate_front-requires-clause-room
allocate_front-requires-clause-room c =
    let r = c.in_ok-make_room.ensures.room in
    let i = c.self.invariant in
    let g = ap length c.in_ok-make_room.ensures.index.0 in
    let s = same_length c.self.inside.index.gaps (gaps_between Free c.self.inside.chain.chunks Free) i.listed.same in
    let f = few_gaps Free Linear c.self.inside.chain.chunks Free i.listed.touch in
    let n = i.counted in
    let m = r.1 in
    (r.2, omega arith)

pub returns-then-taken-found-clause-taken : goal.returns-then-taken-found-clause-taken
returns-then-taken-found-clause-taken c =
    let v = ap (λ (v : LaidChunks). v.items) c.self.view_is in
    let h = subst (λ (xs : List Chunk). IsChosen xs c.args.wanted.now c.args.found) (sym v) c.requires.chosen in
    let f = chosen_fits c.self.inside.chain.chunks c.args.wanted.now c.args.found c.self.inside.chain.size c.laid_out.ensures.covers c.laid_out.ensures.bounded h in
    front_taken c.args.self.now.items c.allocate_front.new.chain.chunks c.args.wanted.now c.args.found c.args.counter c.args.label (subst (λ (xs : List Chunk). AreDistinct xs) v c.laid_out.ensures.distinct)
    (c.args.found.offset + c.args.wanted.now.size - c.args.found.gap.start) refl c.if-taken-found.true f.low
    (subst (λ (xs : List Chunk). IsSplit xs c.args.found.gap.chunk_id (c.args.found.offset + c.args.wanted.now.size - c.args.found.gap.start) c.args.counter c.args.found.offset c.args.wanted.now.kind
    c.args.label c.allocate_front.new.chain.chunks) (c.in_ok-make_room.ensures.chain.0 ∙ v) c.allocate_front.ensures.chunks)

pub returns-clause-taken : goal.returns-clause-taken
returns-clause-taken c =
    let v = ap (λ (v : LaidChunks). v.items) c.self.view_is in
    let h = subst (λ (xs : List Chunk). IsChosen xs c.args.wanted.now c.args.found) (sym v) c.requires.chosen in
    let f = chosen_fits c.self.inside.chain.chunks c.args.wanted.now c.args.found c.self.inside.chain.size c.laid_out.ensures.covers c.laid_out.ensures.bounded h in
    let some = c.requires.sized in
    whole_taken c.args.self.now.items c.allocate_whole.new.chain.chunks c.args.wanted.now c.args.found c.args.counter c.args.label (subst (λ (xs : List Chunk). AreDistinct xs) v c.laid_out.ensures.distinct)
    (omega (arith, c.if-taken-found.false)) (omega (arith, f.low, f.high))
    (subst (λ (xs : List Chunk). IsFilled xs c.args.found.gap.chunk_id c.args.found.offset c.args.wanted.now.kind c.args.label c.allocate_whole.new.chain.chunks) (c.in_ok-make_room.ensures.chain.0 ∙ v)
    c.allocate_whole.ensures.chunks)
