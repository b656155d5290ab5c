-- A report that grows by one memory type after another.
use Rattle.std.proofs.Common.{◌≡◌, ◌∙◌, refl, ap, ℕ, ◌+◌, List, Option, [], ◌∷◌, ◌++◌, length, append_assoc, length-append, arith}
use Rattle.std.proofs.lemmas.List.{append-nil}
use Rattle.std.proofs.lemmas.List.Sums.{sum_by-cons}
use Rattle.gpu_values.specs.declared.report.MemoryBlockReport.{MemoryBlockReport}
use Rattle.gpu_values.specs.Report.{Row, Report}
use Rattle.gpu_core.specs.TypeReport.{type_rows, type_blocks, allocated_of, with_type}
use Rattle.gpu_core.specs.TypeState.{Slot, capacity_of}
use Rattle.gpu_core.specs.Blocks.{Slots, total_capacity}
use Rattle.gpu_core.specs.Reports.{all_rows, all_blocks, total_allocated, whole_report}

abbrev parts : List Row → List MemoryBlockReport → ℕ → ℕ → Report
parts rows blocks allocated capacity = record { rows = rows; blocks = blocks; allocated = allocated; capacity = capacity }

-- a report with all these memory types behind what it had
abbrev pub with_all : {H : Type 0} → Report → Slots H → Report
with_all r ss = record {
  rows = r.rows ++ all_rows ss;
  blocks = r.blocks ++ all_blocks (length r.rows) ss;
  allocated = r.allocated + total_allocated ss;
  capacity = r.capacity + total_capacity ss;
}

same_parts : (a b : List Row) (c d : List MemoryBlockReport) (e f m n : ℕ) → a ≡ b → c ≡ d → e ≡ f → m ≡ n → parts a c e m ≡ parts b d f n
same_parts a b c d e f m n p q r s = cc

-- the first of them, then the others
pub with_all_next : {H : Type 0} (r : Report) (s : List (Option (Slot H))) (ss : Slots H) → with_all (with_type r s) ss ≡ with_all r (s ∷ ss)
with_all_next r s ss =
    let first : length (r.rows ++ type_rows s) ≡ length r.rows + length (type_rows s) = length-append r.rows (type_rows s) in
    let allocated : total_allocated (s ∷ ss) ≡ allocated_of s + total_allocated ss = sum_by-cons (λ k. allocated_of k) s ss in
    let capacity : total_capacity (s ∷ ss) ≡ capacity_of s + total_capacity ss = sum_by-cons (λ k. capacity_of k) s ss in
    same_parts _ _ _ _ _ _ _ _
    (append_assoc r.rows (type_rows s) (all_rows ss))
    (append_assoc r.blocks (type_blocks (length r.rows) s) (all_blocks (length (r.rows ++ type_rows s)) ss)
    ∙ ap (λ (n : ℕ). r.blocks ++ (type_blocks (length r.rows) s ++ all_blocks n ss)) first)
    (omega (arith, allocated))
    (omega (arith, capacity))

-- none of them
pub with_all_none : (H : Type 0) (r : Report) → with_all {H = H} r [] ≡ r
with_all_none H r = same_parts _ _ _ _ _ _ _ _ (append-nil r.rows) (append-nil r.blocks) (omega arith) (omega arith)

-- behind nothing
pub with_all_first : {H : Type 0} (ss : Slots H) → with_all (parts [] [] 0 0) ss ≡ whole_report ss
with_all_first ss = same_parts _ _ _ _ _ _ _ _ refl refl (omega arith) (omega arith)

pub ruleset reporting = (with_all_next, with_all_none, with_all_first)
