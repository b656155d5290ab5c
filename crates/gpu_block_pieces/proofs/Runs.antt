-- Runs of a block's chunks, and how the extents in them lie.
use Rattle.std.proofs.Common.{◌≡◌, ℕ, ◌+◌, ◌≤◌, List, [], ◌∷◌, refl, ap, ◌∙◌, sym, subst, inl, inr, arith}
use Rattle.std.specs.Prelude.{All}
use Rattle.std.proofs.lemmas.List.Elements.{All-head, All-nil, All-tail}
use Rattle.gpu_block_chunks.specs.declared.chunk.Chunk.{Chunk}
use Rattle.gpu_block_chunks.specs.ChunkList.{Covers, IsFree}
use Rattle.gpu_block_pieces.specs.FreeList.{Extent}
use Rattle.gpu_block_pieces.specs.Chunks.{IsChunk, extents_of}
use Rattle.gpu_block_pieces.proofs.Tiling.{Covers-le}
use Rattle.gpu_block_pieces.proofs.Views.{free_or_live, extents-free, extents-live}
use Rattle.gpu_block_pieces.specs.Pieces.{LieBetween, IsPlaced, IsRun}

pub run-tail : (cs rest : List Chunk) (c : Chunk) → cs ≡ c ∷ rest → IsRun cs → IsRun rest
run-tail cs rest c e run =
    let r : IsRun (c ∷ rest) = subst IsRun e run in
    record {
      from = r.from + c.size;
      to = r.to;
      counter = r.counter;
      bounded = r.bounded;
      covers = r.covers.2;
      each = All-tail (IsChunk r.counter) c rest r.each;
    }

pub run-first : (cs rest : List Chunk) (c : Chunk) → cs ≡ c ∷ rest → IsRun cs → IsPlaced c
run-first cs rest c e run =
    let r : IsRun (c ∷ rest) = subst IsRun e run in
    let h : IsChunk r.counter c = All-head (IsChunk r.counter) c rest r.each in
    let within = Covers-le rest (r.from + c.size) r.to r.covers.2 in
    let start = r.covers.0 in
    let bounded = r.bounded in
    (h.after, h.before, omega arith)

LieBetween-from : (from later to : ℕ) (xs : List Extent) → from ≤ later → LieBetween later xs to → LieBetween from xs to
LieBetween-from from later to [] le h = omega arith
LieBetween-from from later to (x ∷ xs) le h = (omega (arith, h.0), h.1, h.2, h.3)

pub laid_out : (cs : List Chunk) (from to counter : ℕ) → Covers cs from to → All (IsChunk counter) cs → LieBetween from (extents_of cs) to
laid_out [] from to counter covers each = omega arith
laid_out (c ∷ cs) from to counter covers each =
    let rest = laid_out cs (from + c.size) to counter covers.2 (All-tail (IsChunk counter) c cs each) in
    let start : c.start ≡ from = covers.0 in
    elim (free_or_live c.kind) [
      | inl f ↦ subst (λ (xs : List Extent). LieBetween from xs to) (sym (extents-free c cs f)) (LieBetween-from from (from + c.size) to (extents_of cs) (omega arith) rest)
      | inr l ↦
          let h : IsChunk counter c = All-head (IsChunk counter) c cs each in
          subst (λ (xs : List Extent). LieBetween from xs to) (sym (extents-live c cs l))
          (omega arith, h.after, h.before, subst (λ (n : ℕ). LieBetween (n + c.size) (extents_of cs) to) (sym start) rest)
    ]

pub run-none : (cs : List Chunk) → cs ≡ [] → IsRun cs
run-none cs e = subst IsRun (sym e) (record { from = 0; to = 0; counter = 0; bounded = omega arith; covers = refl; each = All-nil (IsChunk 0) })

pub extents-skip : (cs rest : List Chunk) (c : Chunk) → cs ≡ c ∷ rest → IsFree c.kind → extents_of rest ≡ extents_of cs
extents-skip cs rest c e f = sym (extents-free c rest f) ∙ ap extents_of (sym e)
