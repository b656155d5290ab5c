-- The chunk of a dedicated block.
use Rattle.std.proofs.Common.{◌≡◌, ℕ, ◌^◌, ◌<◌, List, [], ◌∷◌, refl, sym, subst, arith, Option, Some, None, MatchOption, IfSome}
use Rattle.std.specs.Prelude.{All}
use Rattle.std.proofs.lemmas.List.Elements.{All-nil, All-cons}
use Rattle.gpu_block_chunks.specs.declared.chunk.Chunk.{Chunk}
use Rattle.gpu_block_pieces.specs.Chunks.{IsLaidOut, IsChunk, IsWholeChunk}

pub whole_laid_out : (o : Option Chunk) (cs : List Chunk) (size : ℕ) → MatchOption o (cs ≡ []) (λ c. cs ≡ c ∷ []) → 0 < size → size < 2 ^ 64 → IfSome o (IsWholeChunk size) → IsLaidOut cs
whole_laid_out None cs size e some fits w = subst (λ (xs : List Chunk). IsLaidOut xs) (sym e) (0, omega arith, refl)
whole_laid_out (Some c) cs size e some fits w =
    let whole = w.whole in let start = w.starts.0 in
    subst (λ (xs : List Chunk). IsLaidOut xs) (sym e) (size, fits, (start, omega arith, omega arith))

pub whole_each : (o : Option Chunk) (cs : List Chunk) (size : ℕ) → MatchOption o (cs ≡ []) (λ c. cs ≡ c ∷ []) → 0 < size → IfSome o (IsWholeChunk size) → All (IsChunk 2) cs
whole_each None cs size e some w = subst (λ (xs : List Chunk). All (IsChunk 2) xs) (sym e) (All-nil (IsChunk 2))
whole_each (Some c) cs size e some w =
    let whole = w.whole in let start = w.starts.0 in let offset = w.starts.1 in let one = w.first in
    subst (λ (xs : List Chunk). All (IsChunk 2) xs) (sym e)
    (All-cons (IsChunk 2) c [] (record { after = omega arith; before = omega arith; positive = omega arith; given = omega arith }) (All-nil (IsChunk 2)))
