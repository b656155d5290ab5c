-- A report's JSON is the text of its value.
use Rattle.std.proofs.Common.{◌≡◌, ℕ, ◌≤◌, List, [], ◌++◌, Some, map, false, refl, sym, ap, ◌∙◌, arith, decimal}
use Rattle.std.specs.Prelude.{codes}
use Rattle.std.proofs.lemmas.Fmt.{decimal_digit}
use Rattle.json.specs.Json.{document, max_depth}
use Rattle.json.specs.Print.{escape_byte, IsNumber}
use Rattle.json.specs.Tree.{depth, items_depth, HasNumbers}
use Rattle.json.specs.Value.{items_of}
use Rattle.json.proofs.Printed.Decimals.{IsNumber-decimal}
use Rattle.gpu_values.specs.Report.{Row, Report}
use Rattle.gpu_values.specs.declared.report.MemoryBlockReport.{MemoryBlockReport}
use Rattle.gpu_report.specs.Json.{listed}
use Rattle.gpu_report.specs.ReportJson.{row_json, block_row_json, sums_json, report_json}
use Rattle.gpu_report.specs.ReportValue.{row_value, block_row_value, report_value}
use Rattle.gpu_report.specs.Fits.{RowFits, BlockRowFits, ReportFits}
use Rattle.gpu_report.proofs.Texts.{text_of, items_text, document-text}
use Rattle.gpu_report.proofs.ReadEscapes.{same-quoted}
use Rattle.gpu_report.proofs.ReadLists.{text-listed, numbers-listed, depth-listed}

text-row : (r : Row) → text_of (row_value r) [] ≡ row_json r
unfolding row_json escape_byte
text-row r =
    ap (λ (l : List ℕ). codes "{\"name\":" ++ (l ++ (codes ",\"offset\":" ++ (decimal r.offset ++ (codes ",\"size\":" ++ (decimal r.size ++ codes "}")))))) (same-quoted r.name)

text-block : (b : MemoryBlockReport) → text_of (block_row_value b) [] ≡ block_row_json b
unfolding block_row_json escape_byte
text-block b = refl

-- what stands behind the lists
abbrev sums_text : Report → List ℕ → List ℕ
sums_text r version =
    codes "],\"schema\":\"gpu_report.allocator\",\"total_allocated_bytes\":"
    ++ (decimal r.allocated ++ (codes ",\"total_capacity_bytes\":" ++ (decimal r.capacity ++ (codes ",\"version\":" ++ (version ++ codes "}")))))

text-sums : (r : Report) → sums_text r (decimal 1) ≡ sums_json r
unfolding sums_json
text-sums r = ap (sums_text r) (decimal_digit 1 (omega arith))

-- the text of the rows, and of what follows them
abbrev text_rows : Report → List ℕ → List ℕ
text_rows r rest = items_text false (items_of (map row_value r.rows)) (codes ",\"blocks\":[" ++ rest)

text-report : (r : Report) → text_of (report_value r) [] ≡ report_json r
unfolding escape_byte
text-report r =
    ap (λ (l : List ℕ). codes "{\"allocations\":[" ++ l)
    (ap (text_rows r) (text-listed block_row_value block_row_json text-block r.blocks _)
    ∙ text-listed row_value row_json text-row r.rows _
    ∙ ap (λ (l : List ℕ). listed row_json r.rows ++ (codes "],\"blocks\":[" ++ (listed block_row_json r.blocks ++ l))) (text-sums r))

-- ---- the value can be written and nests no deeper than a reader goes

numbers-row : (r : Row) → RowFits r → HasNumbers (row_value r)
numbers-row r h = (tt, (IsNumber-decimal r.offset h.0, (IsNumber-decimal r.size h.1, tt)))

numbers-block : (b : MemoryBlockReport) → BlockRowFits b → HasNumbers (block_row_value b)
numbers-block b h = ((IsNumber-decimal b.allocations.end h.1, (IsNumber-decimal b.allocations.start h.0, tt)), (IsNumber-decimal b.size h.2, tt))

numbers-report : (r : Report) → ReportFits r → HasNumbers (report_value r)
numbers-report r h =
    let sums : IsNumber (decimal r.allocated) × (IsNumber (decimal r.capacity) × (IsNumber (decimal 1) × Unit {0})) =
    (IsNumber-decimal r.allocated h.allocated, (IsNumber-decimal r.capacity h.capacity, (IsNumber-decimal 1 (omega arith), tt))) in
    (numbers-listed row_value RowFits numbers-row r.rows h.rows, (numbers-listed block_row_value BlockRowFits numbers-block r.blocks h.blocks, (tt, sums)))

shallow : (r : Report) → depth (report_value r) ≤ max_depth
shallow r =
    let rows : items_depth (items_of (map row_value r.rows)) ≤ 2 = depth-listed row_value 2 (λ x. omega arith) r.rows in
    let blocks : items_depth (items_of (map block_row_value r.blocks)) ≤ 2 = depth-listed block_row_value 2 (λ x. omega arith) r.blocks in
    omega arith

pub document-report : (r : Report) → ReportFits r → document (report_json r) ≡ Some (report_value r)
document-report r fits = ap document (sym (text-report r)) ∙ document-text (report_value r) (numbers-report r fits) (shallow r)
