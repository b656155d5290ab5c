-- No two reports have one value, nor two lists of blocks of which different things are printed.
use Rattle.std.proofs.Common.{◌≡◌, ℕ, ◌-◌, ◌≤◌, ◌==◌, Bool, true, false, List, [], ◌∷◌, Option, Some, None, length, map, map-id, refl, sym, ap, ◌∙◌, arith}
use Rattle.std.specs.Prelude.{codes, if◌then◌else◌}
use Rattle.std.specs.List.{All, AllByRecursion}
use Rattle.std.proofs.lemmas.Bool.{false≢true}
use Rattle.std.proofs.lemmas.Fmt.{decimal_injective}
use Rattle.std.proofs.lemmas.List.Elements.{recursion_from_All}
use Rattle.json.specs.Json.{Json, null, string, Items, no_items, item, document}
use Rattle.json.specs.Find.{get, as_number, as_str, as_array}
use Rattle.json.specs.Value.{items_of}
use Rattle.gpu_values.specs.Report.{Row, Report}
use Rattle.gpu_values.specs.declared.report.MemoryBlockReport.{MemoryBlockReport}
use Rattle.gpu_values.specs.declared.allocation_type.AllocationType.{AllocationType}
use Rattle.gpu_values.specs.declared.allocation_type.AllocationType.TheVariants.{Free, Linear, NonLinear}
use Rattle.gpu_block_pieces.specs.FreeList.{Extent}
use Rattle.gpu_block.specs.Block.{extents_of, size_of}
use Rattle.gpu_block.specs.SubAllocator.{block_of}
use Rattle.gpu_report.specs.declared.view.BlockView.{BlockView}
use Rattle.gpu_report.specs.BlocksJson.{kind_word, blocks_json}
use Rattle.gpu_report.specs.ReportJson.{report_json}
use Rattle.gpu_report.specs.Values.{number_of, list_of}
use Rattle.gpu_report.specs.ReportValue.{row_value, block_row_value, report_value}
use Rattle.gpu_report.specs.Fits.{NumberFits, RowFits, BlockRowFits, ReportFits, PieceFits, BlockFits}
use Rattle.gpu_report.specs.BlocksValue.{piece_value, block_value, blocks_value}
use Rattle.gpu_report.specs.Printed.{without_word, printed}
use Rattle.gpu_report.proofs.Reports.{document-report}
use Rattle.gpu_report.proofs.Blocks.{document-blocks}

-- ---- parts of a value

abbrev bytes : Option (List ℕ) → List ℕ
bytes None = []
bytes (Some text) = text

abbrev elements : Option Items → Items
elements None = no_items
elements (Some js) = js

-- the member of that name, or null
abbrev present : Option Json → Json
present None = null
present (Some j) = j

abbrev at_name : List ℕ → Json → Json
at_name name j = present (get name j)

same-number : (m n : ℕ) → NumberFits m → NumberFits n → number_of m ≡ number_of n → m ≡ n
same-number m n p q e = decimal_injective m n p q (ap (λ j. bytes (as_number j)) e)

same-string : (s t : List ℕ) → string s ≡ string t → s ≡ t
same-string s t e = ap (λ j. bytes (as_str j)) e

-- ---- lists

abbrev some_items : Items → Bool
some_items no_items = false
some_items (item j js) = true

abbrev first : Items → Json
first no_items = null
first (item j js) = j

abbrev behind : Items → Items
behind no_items = no_items
behind (item j js) = js

module _ {X Y : Type 0} (value : X → Json) (seen : X → Y) (P : X → Type 0) (same : (x y : X) → P x → P y → value x ≡ value y → seen x ≡ seen y) where
  same-items : (xs ys : List X) → AllByRecursion P xs → AllByRecursion P ys → items_of (map value xs) ≡ items_of (map value ys) → map seen xs ≡ map seen ys
  same-items [] [] p q e = refl
  same-items [] (y ∷ ys) p q e = absurd (false≢true (ap some_items e))
  same-items (x ∷ xs) [] p q e = absurd (false≢true (sym (ap some_items e)))
  same-items (x ∷ xs) (y ∷ ys) p q e =
      let head : seen x ≡ seen y = same x y p.0 q.0 (ap first e) in
      let tail : map seen xs ≡ map seen ys = same-items xs ys p.1 q.1 (ap behind e) in
      λ i. head i ∷ tail i

  same-seen : (xs ys : List X) → All P xs → All P ys → list_of value xs ≡ list_of value ys → map seen xs ≡ map seen ys
  same-seen xs ys p q e = same-items xs ys (recursion_from_All P xs p) (recursion_from_All P ys q) (ap (λ j. elements (as_array j)) e)

same-list : {X : Type 0} (value : X → Json) (P : X → Type 0) → ((x y : X) → P x → P y → value x ≡ value y → x ≡ y)
    → (xs ys : List X) → All P xs → All P ys → list_of value xs ≡ list_of value ys → xs ≡ ys
same-list value P same xs ys p q e = sym (map-id xs) ∙ same-seen value (λ x. x) P same xs ys p q e ∙ map-id ys

-- ---- a report

same-row : (r s : Row) → RowFits r → RowFits s → row_value r ≡ row_value s → r ≡ s
same-row r s p q e =
    let name : r.name ≡ s.name = same-string _ _ (ap (at_name (codes "name")) e) in
    let offset : r.offset ≡ s.offset = same-number _ _ p.0 q.0 (ap (at_name (codes "offset")) e) in
    let size : r.size ≡ s.size = same-number _ _ p.1 q.1 (ap (at_name (codes "size")) e) in
    λ i. record { name = name i; offset = offset i; size = size i }

same-block : (a b : MemoryBlockReport) → BlockRowFits a → BlockRowFits b → block_row_value a ≡ block_row_value b → a ≡ b
same-block a b p q e =
    let range = ap (at_name (codes "allocations")) e in
    let start : a.allocations.start ≡ b.allocations.start = same-number _ _ p.0 q.0 (ap (at_name (codes "start")) range) in
    let end : a.allocations.end ≡ b.allocations.end = same-number _ _ p.1 q.1 (ap (at_name (codes "end")) range) in
    let size : a.size ≡ b.size = same-number _ _ p.2 q.2 (ap (at_name (codes "size")) e) in
    λ i. record { size = size i; allocations = record { start = start i; end = end i } }

same-report : (r s : Report) → ReportFits r → ReportFits s → report_value r ≡ report_value s → r ≡ s
same-report r s p q e =
    let rows : r.rows ≡ s.rows = same-list row_value RowFits same-row _ _ p.rows q.rows (ap (at_name (codes "allocations")) e) in
    let blocks : r.blocks ≡ s.blocks = same-list block_row_value BlockRowFits same-block _ _ p.blocks q.blocks (ap (at_name (codes "blocks")) e) in
    let allocated : r.allocated ≡ s.allocated = same-number _ _ p.allocated q.allocated (ap (at_name (codes "total_allocated_bytes")) e) in
    let capacity : r.capacity ≡ s.capacity = same-number _ _ p.capacity q.capacity (ap (at_name (codes "total_capacity_bytes")) e) in
    λ i. record { rows = rows i; blocks = blocks i; allocated = allocated i; capacity = capacity i }

pub reports-apart : (r s : Report) → ReportFits r → ReportFits s → report_json r ≡ report_json s → r ≡ s
reports-apart r s p q e = same-report r s p q (ap present (sym (document-report r p) ∙ ap document e ∙ document-report s q))

-- ---- blocks

abbrev kind_of : List ℕ → AllocationType
kind_of text = if length text == 4 then Free else if length text == 6 then Linear else NonLinear

kind-of-word : (k : AllocationType) → k ≡ kind_of (kind_word k)
kind-of-word Free = refl
kind-of-word Linear = refl
kind-of-word NonLinear = refl

same-piece : (x y : Extent) → PieceFits x → PieceFits y → piece_value x ≡ piece_value y → without_word x ≡ without_word y
same-piece x y p q e =
    let word : kind_word x.kind ≡ kind_word y.kind = same-string _ _ (ap (at_name (codes "kind")) e) in
    let kind : x.kind ≡ y.kind = kind-of-word x.kind ∙ ap kind_of word ∙ sym (kind-of-word y.kind) in
    let name : x.name ≡ y.name = same-string _ _ (ap (at_name (codes "name")) e) in
    let x-ordered : (x.start ≤ x.offset) × (x.offset ≤ x.end) × NumberFits x.end = (p.1, p.2, p.3) in
    let y-ordered : (y.start ≤ y.offset) × (y.offset ≤ y.end) × NumberFits y.end = (q.1, q.2, q.3) in
    let number : x.chunk_id ≡ y.chunk_id = same-number _ _ p.0 q.0 (ap (at_name (codes "number")) e) in
    let offset : x.offset ≡ y.offset = same-number _ _ (omega (arith, x-ordered)) (omega (arith, y-ordered)) (ap (at_name (codes "offset")) e) in
    let padding : x.offset - x.start ≡ y.offset - y.start = same-number _ _ (omega (arith, x-ordered)) (omega (arith, y-ordered)) (ap (at_name (codes "padding")) e) in
    let size : x.end - x.offset ≡ y.end - y.offset = same-number _ _ (omega (arith, x-ordered)) (omega (arith, y-ordered)) (ap (at_name (codes "size")) e) in
    let start : x.start ≡ y.start = omega (arith, x-ordered, y-ordered, offset, padding) in
    let end : x.end ≡ y.end = omega (arith, x-ordered, y-ordered, offset, size) in
    λ i. record { start = start i; offset = offset i; end = end i; kind = kind i; chunk_id = number i; name = name i; word = 0 }

same-block-view : (v w : BlockView) → BlockFits v → BlockFits w → block_value v ≡ block_value w → printed v ≡ printed w
same-block-view v w p q e =
    let memory_type : v.memory_type ≡ w.memory_type = same-number _ _ p.memory_type q.memory_type (ap (at_name (codes "memory_type")) e) in
    let slot : v.slot ≡ w.slot = same-number _ _ p.slot q.slot (ap (at_name (codes "slot")) e) in
    let page_size : v.page_size ≡ w.page_size = same-number _ _ p.page_size q.page_size (ap (at_name (codes "page_size")) e) in
    let size : size_of (block_of v.block.now) ≡ size_of (block_of w.block.now) = same-number _ _ p.size q.size (ap (at_name (codes "size")) e) in
    let pieces : map without_word (extents_of (block_of v.block.now)) ≡ map without_word (extents_of (block_of w.block.now)) =
    same-seen piece_value without_word PieceFits same-piece _ _ p.pieces q.pieces (ap (at_name (codes "pieces")) e) in
    λ i. record { memory_type = memory_type i; slot = slot i; page_size = page_size i; size = size i; pieces = pieces i }

pub blocks-apart : (views others : List BlockView) → All BlockFits views → All BlockFits others → blocks_json views ≡ blocks_json others → map printed views ≡ map printed others
blocks-apart views others p q e =
    let values : blocks_value views ≡ blocks_value others =
    ap present (sym (document-blocks views p) ∙ ap document e ∙ document-blocks others q) in
    same-seen block_value printed BlockFits same-block-view views others p q (ap (at_name (codes "blocks")) values)
