-- What chunks show, one by one.
use Rattle.std.proofs.Common.{◌≡◌, ℕ, ◌+◌, ◌≤◌, List, [], ◌∷◌, ◌++◌, map, sym, ap, ◌∙◌, subst}
use Rattle.std.proofs.lemmas.List.{map-append, append_assoc}
use Rattle.gpu_block_chunks.specs.declared.chunk.Chunk.{Chunk}
use Rattle.gpu_values.specs.declared.report.AllocationReport.{AllocationReport}
use Rattle.gpu_values.specs.Report.{Row, row_of}
use Rattle.gpu_block_pieces.specs.Rows.{extent_row}
use Rattle.gpu_block_chunks.specs.ChunkList.{IsFree, Covers}
use Rattle.gpu_block_pieces.specs.Chunks.{extents_of, extent}
use Rattle.gpu_block_pieces.proofs.Tiling.{Covers-le}
use Rattle.gpu_block_pieces.proofs.Views.{extents-free, extents-live}

-- the first of chunks that cover a range
pub first_covers : (cs rest : List Chunk) (c : Chunk) (from to : ℕ) → cs ≡ c ∷ rest → Covers cs from to → (c.start ≡ from) × Covers rest (from + c.size) to × (from + c.size ≤ to)
first_covers cs rest c from to e h =
    let d : Covers (c ∷ rest) from to = subst (λ (xs : List Chunk). Covers xs from to) e h in
    (d.0, d.2, Covers-le rest (from + c.size) to d.2)

pub rows_free : (cs rest : List Chunk) (c : Chunk) (rows all : List Row) → cs ≡ c ∷ rest → IsFree c.kind → rows ++ map extent_row (extents_of cs) ≡ all → rows ++ map extent_row (extents_of rest) ≡
    all
rows_free cs rest c rows all e f so_far =
    ap (λ xs. rows ++ map extent_row xs) (sym (extents-free c rest f) ∙ ap extents_of (sym e)) ∙ so_far

pub rows_live : (cs rest : List Chunk) (c : Chunk) (rows new : List AllocationReport) (a : AllocationReport) (all : List Row) → cs ≡ c ∷ rest → (IsFree c.kind → ⊥) → row_of a ≡ extent_row (extent c)
    → new ≡ rows ++ a ∷ []
    → map row_of rows ++ map extent_row (extents_of cs) ≡ all → map row_of new ++ map extent_row (extents_of rest) ≡ all
rows_live cs rest c rows new a all e l row add so_far =
    ap (λ xs. map row_of xs ++ map extent_row (extents_of rest)) add
    ∙ ap (λ xs. xs ++ map extent_row (extents_of rest)) (map-append row_of rows (a ∷ []))
    ∙ append_assoc (map row_of rows) (row_of a ∷ []) (map extent_row (extents_of rest))
    ∙ ap (λ x. map row_of rows ++ x ∷ map extent_row (extents_of rest)) row
    ∙ ap (λ xs. map row_of rows ++ map extent_row xs) (sym (extents-live c rest l) ∙ ap extents_of (sym e))
    ∙ so_far
