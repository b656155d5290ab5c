-- The cells of a block, piece by piece.
use Rattle.std.proofs.Common.{◌≡◌, ℕ, ◌+◌, ◌<◌, suc, List, ◌∷◌, ◌++◌, ap, sym, ◌∙◌, arith, length, drop, get_or}
use Rattle.std.proofs.Math.Seq.{drop-cons}
use Rattle.std.specs.List.{flat_map}
use Rattle.std.proofs.lemmas.Grind.{flat_map-append}
use Rattle.gpu_values.specs.declared.report.MemoryBlockReport.{MemoryBlockReport}
use Rattle.gpu_block_pieces.specs.FreeList.{Extent}
use Rattle.gpu_report.specs.Picture.{Cell, gap_cells, padding_cells, piece_cell, cells_between}

pub texts-step : (text : Cell → List ℕ) (from to : ℕ) (x : Extent) (xs : List Extent)
    → flat_map text (cells_between from (x ∷ xs) to) ≡ flat_map text (gap_cells from x.start) ++
    (flat_map text (padding_cells x) ++ (text (piece_cell x) ++ flat_map text (cells_between x.end xs to)))
texts-step text from to x xs =
    flat_map-append text (gap_cells from x.start) (padding_cells x ++ piece_cell x ∷ cells_between x.end xs to)
    ∙ ap (λ t. flat_map text (gap_cells from x.start) ++ t) (flat_map-append text (padding_cells x) (piece_cell x ∷ cells_between x.end xs to))

pub drop-at : {X : Type 0} (xs : List X) (i : ℕ) (d : X) → i < length xs → drop i xs ≡ get_or xs i d ∷ drop (i + 1) xs
drop-at xs i d h =
    let next : suc i ≡ i + 1 = omega arith in
    drop-cons xs i d h ∙ ap (λ n. get_or xs i d ∷ drop n xs) next

pub drop-step : {X : Type 0} (xs : List X) (i : ℕ) (x : X) → i < length xs → x ≡ get_or xs i x → drop i xs ≡ x ∷ drop (i + 1) xs
drop-step xs i x h e = drop-at xs i x h ∙ ap (λ y. y ∷ drop (i + 1) xs) (sym e)

-- what stands past the end of a report's blocks
abbrev pub no_block : MemoryBlockReport
no_block = record { size = 0; allocations = record { start = 0; end = 0 } }
