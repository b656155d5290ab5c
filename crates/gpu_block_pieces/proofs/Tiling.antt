-- Chunks that cover a block, one after another.
use Rattle.std.proofs.Common.{◌≡◌, ℕ, ◌+◌, ◌<◌, ◌≤◌, List, [], ◌∷◌, ◌++◌, length, refl, sym, arith}
use Rattle.gpu_block_chunks.specs.declared.chunk.Chunk.{Chunk}
use Rattle.gpu_values.specs.declared.allocation_type.AllocationType.{AllocationType}
use Rattle.gpu_block_chunks.specs.ChunkList.{Covers}
use Rattle.gpu_block_pieces.specs.Chunks.{last_kind, size_at}

pub Covers-le : (cs : List Chunk) (from to : ℕ) → Covers cs from to → from ≤ to
Covers-le [] from to h = omega arith
Covers-le (c ∷ cs) from to h = let r = Covers-le cs (from + c.size) to h.2 in omega arith

-- the parts around a chunk
pub record Neighbours (front : List Chunk) (c : Chunk) (back : List Chunk) (from to : ℕ) : Type 0 where
  pub before : Covers front from c.start
  pub nonempty : 0 < c.size
  pub after : Covers back (c.start + c.size) to

pub around : (front : List Chunk) (c : Chunk) (back : List Chunk) (from to : ℕ) → Covers (front ++ c ∷ back) from to → Neighbours front c back from to
around [] c back from to h = record { before = sym h.0; nonempty = h.1; after = rw h.0 h.2 }
around (f ∷ front) c back from to h =
    let r = around front c back (from + f.size) to h.2 in
    record { before = (h.0, h.1, r.before); nonempty = r.nonempty; after = r.after }

pub Covers-join : (front back : List Chunk) (from mid to : ℕ) → Covers front from mid → Covers back mid to → Covers (front ++ back) from to
Covers-join [] back from mid to f b = rw f b
Covers-join (c ∷ front) back from mid to f b = (f.0, f.1, Covers-join front back (from + c.size) mid to f.2 b)

pub last_kind-push : (k : AllocationType) (xs : List Chunk) (x : Chunk) → last_kind k (xs ++ x ∷ []) ≡ x.kind
last_kind-push k [] x = refl
last_kind-push k (y ∷ xs) x = last_kind-push y.kind xs x

pub size_at-split : (front : List Chunk) (c : Chunk) (back : List Chunk) → size_at (front ++ c ∷ back) (length front) ≡ c.size
size_at-split [] c back = refl
size_at-split (f ∷ front) c back = size_at-split front c back
