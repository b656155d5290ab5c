-- No two chunks have one number, through each change.
use Rattle.std.proofs.Common.{◌≡◌, ◌≢◌, ℕ, ◌≤◌, List, [], ◌∷◌, ◌++◌, sym, ◌∙◌, subst, arith}
use Rattle.std.specs.Prelude.{All}
use Rattle.std.proofs.lemmas.List.Elements.{All-nil, All-cons, All-head, All-tail, All-weaker, All-append}
use Rattle.gpu_block_chunks.specs.declared.chunk.Chunk.{Chunk}
use Rattle.gpu_block_chunks.specs.ChunkList.{AreDistinct, joined_chunk, cut_chunk}
use Rattle.gpu_block_pieces.specs.Chunks.{IsChunk}
use Rattle.gpu_block_chunks.proofs.Parts.{All-parts}

abbrev pub Not : ℕ → Chunk → Type 0
Not k d = d.chunk_id ≢ k

-- a run behind other chunks gives way to another one
pub distinct_swap : (Q : Chunk → Type 0) (front xs ys : List Chunk) → All Q front → ((f : Chunk) → Q f → All (Not f.chunk_id) xs → All (Not f.chunk_id) ys) → (AreDistinct xs → AreDistinct ys) →
    AreDistinct (front ++ xs) → AreDistinct (front ++ ys)
distinct_swap Q [] xs ys q carry to h = to h
distinct_swap Q (f ∷ front) xs ys q carry to h =
    let parts = All-parts (Not f.chunk_id) front xs h.0 in
    (All-append (Not f.chunk_id) front ys parts.0 (carry f (All-head Q f front q) parts.1), distinct_swap Q front xs ys (All-tail Q f front q) carry to h.1)

always : (front : List Chunk) → All (λ (f : Chunk). 0 ≤ 0) front
always [] = All-nil (λ (f : Chunk). 0 ≤ 0)
always (f ∷ front) = All-cons (λ (f : Chunk). 0 ≤ 0) f front (omega arith) (always front)

-- the same, where each number that is missing in the old run is missing in the new one
pub distinct_less : (front xs ys : List Chunk) → ((k : ℕ) → All (Not k) xs → All (Not k) ys) → (AreDistinct xs → AreDistinct ys) → AreDistinct (front ++ xs) → AreDistinct (front ++ ys)
distinct_less front xs ys carry to h = distinct_swap (λ (f : Chunk). 0 ≤ 0) front xs ys (always front) (λ f _. carry f.chunk_id) to h

pub same_chunk_id : (c d : Chunk) (back : List Chunk) → d.chunk_id ≡ c.chunk_id → (k : ℕ) → All (Not k) (c ∷ back) → All (Not k) (d ∷ back)
same_chunk_id c d back e k h = All-cons (Not k) d back (λ q. All-head (Not k) c back h (sym e ∙ q)) (All-tail (Not k) c back h)

pub same_distinct : (c d : Chunk) (back : List Chunk) → d.chunk_id ≡ c.chunk_id → AreDistinct (c ∷ back) → AreDistinct (d ∷ back)
same_distinct c d back e h = (subst (λ k. All (Not k) back) (sym e) h.0, h.1)

pub joined_chunk_id : (a b : Chunk) (back : List Chunk) (k : ℕ) → All (Not k) (a ∷ b ∷ back) → All (Not k) (joined_chunk a b ∷ back)
joined_chunk_id a b back k h = All-cons (Not k) (joined_chunk a b) back (All-head (Not k) a (b ∷ back) h) (All-tail (Not k) b back (All-tail (Not k) a (b ∷ back) h))

pub joined_distinct : (a b : Chunk) (back : List Chunk) → AreDistinct (a ∷ b ∷ back) → AreDistinct (joined_chunk a b ∷ back)
joined_distinct a b back h = (All-tail (Not a.chunk_id) b back h.0, h.1.1)

-- a piece with a number that was not given out yet
pub distinct_cut : (counter : ℕ) (front back : List Chunk) (c piece : Chunk) → piece.chunk_id ≡ counter → All (IsChunk counter) (front ++ c ∷ back) → AreDistinct (front ++ c ∷ back) → AreDistinct
    (front ++ piece ∷ cut_chunk c piece.size ∷ back)
distinct_cut counter front back c piece e each h =
    let parts = All-parts (IsChunk counter) front (c ∷ back) each in
    let fresh : All (Not piece.chunk_id) (c ∷ back) = All-weaker (IsChunk counter) (Not piece.chunk_id) (λ d i q. (let g = i.given in absurd (omega arith))) (c ∷ back) parts.1 in
    distinct_swap (IsChunk counter) front (c ∷ back) (piece ∷ cut_chunk c piece.size ∷ back) parts.0
    (λ f i rest. All-cons (Not f.chunk_id) piece (cut_chunk c piece.size ∷ back) (λ q. (let g = i.given in absurd (omega arith)))
    (All-cons (Not f.chunk_id) (cut_chunk c piece.size) back (All-head (Not f.chunk_id) c back rest) (All-tail (Not f.chunk_id) c back rest)))
    (λ rest. (All-cons (Not piece.chunk_id) (cut_chunk c piece.size) back (All-head (Not piece.chunk_id) c back fresh) (All-tail (Not piece.chunk_id) c back fresh), (rest.0, rest.1)))
    h

-- two chunks of a list with one number are one
pub one_at : (front back : List Chunk) (c : Chunk) → AreDistinct (front ++ c ∷ back) → All (Not c.chunk_id) front × All (Not c.chunk_id) back
one_at [] back c h = (All-nil (Not c.chunk_id), h.0)
one_at (f ∷ front) back c h =
    let r = one_at front back c h.1 in
    let p = All-parts (Not f.chunk_id) front (c ∷ back) h.0 in
    let ne : c.chunk_id ≢ f.chunk_id = All-head (Not f.chunk_id) c back p.1 in
    (All-cons (Not c.chunk_id) f front (λ q. ne (sym q)) r.0, r.1)
