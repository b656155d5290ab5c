-- Where a block's pieces lie.
use Rattle.std.proofs.Common.{ℕ, ◌≤◌, List, [], ◌∷◌, arith}
use Rattle.std.specs.List.{All, AllByRecursion}
use Rattle.std.proofs.lemmas.List.Elements.{recursion_from_All, All-from_recursion}
use Rattle.gpu_block_pieces.specs.FreeList.{Extent}
use Rattle.gpu_block_pieces.specs.Pieces.{LieBetween}
use Rattle.gpu_report.specs.Fits.{NumberFits, PieceFits}

ends-after : (from to : ℕ) (xs : List Extent) → LieBetween from xs to → from ≤ to
ends-after from to [] h = h
ends-after from to (x ∷ xs) h = omega (arith, ends-after x.end to xs h.3)

within : (from to : ℕ) (xs : List Extent) → LieBetween from xs to → NumberFits to → AllByRecursion (λ x. NumberFits x.chunk_id) xs → AllByRecursion PieceFits xs
within from to [] h fits numbers = tt
within from to (x ∷ xs) h fits numbers = (
  (numbers.0, h.1, omega (arith, h.2), omega (arith, ends-after x.end to xs h.3)),
  within x.end to xs h.3 fits numbers.1,
)

pub pieces_fit : (from to : ℕ) (xs : List Extent) → LieBetween from xs to → NumberFits to → All (λ x. NumberFits x.chunk_id) xs → All PieceFits xs
pieces_fit from to xs h fits numbers = All-from_recursion PieceFits xs (within from to xs h fits (recursion_from_All (λ x. NumberFits x.chunk_id) xs numbers))
