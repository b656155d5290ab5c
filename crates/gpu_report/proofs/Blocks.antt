-- The JSON of blocks is the text of their value.
use Rattle.std.proofs.Common.{◌≡◌, ℕ, ◌-◌, ◌≤◌, List, [], ◌∷◌, ◌++◌, Some, map, false, refl, sym, ap, ◌∙◌, append_assoc, arith, decimal}
use Rattle.std.specs.Prelude.{codes}
use Rattle.std.specs.List.{All}
use Rattle.std.proofs.lemmas.Fmt.{decimal_digit}
use Rattle.json.specs.Json.{document, max_depth}
use Rattle.json.specs.Print.{escape_byte, IsNumber}
use Rattle.json.specs.Print.{quoted as json_quoted}
use Rattle.json.specs.Tree.{depth, items_depth, HasNumbers, ItemsHaveNumbers}
use Rattle.json.specs.Value.{items_of}
use Rattle.json.proofs.Printed.Decimals.{IsNumber-decimal}
use Rattle.gpu_values.specs.declared.allocation_type.AllocationType.{AllocationType}
use Rattle.gpu_values.specs.declared.allocation_type.AllocationType.TheVariants.{Free, Linear, NonLinear}
use Rattle.gpu_block_pieces.specs.FreeList.{Extent}
use Rattle.gpu_block.specs.Block.{extents_of, size_of}
use Rattle.gpu_block.specs.SubAllocator.{block_of}
use Rattle.gpu_block.specs.BlockViews.{gaps_in, statistics_of}
use Rattle.gpu_block_pieces.specs.declared.pieces.BlockStatistics.{BlockStatistics}
use Rattle.gpu_report.specs.declared.view.BlockView.{BlockView}
use Rattle.gpu_report.specs.Escape.{quoted}
use Rattle.gpu_report.specs.Json.{listed}
use Rattle.gpu_report.specs.BlocksJson.{kind_word, piece_names_json, piece_place_json, piece_json, gap_json, statistics_json, place_json, sums_json, block_json, blocks_json}
use Rattle.gpu_report.specs.BlocksValue.{piece_value, gap_value, statistics_value, block_value, blocks_value}
use Rattle.gpu_report.specs.Fits.{NumberFits, PieceFits, GapFits, StatisticsFit, BlockFits}
use Rattle.gpu_report.proofs.Texts.{text_of, items_text, text-then, document-text}
use Rattle.gpu_report.proofs.ReadEscapes.{same-quoted}
use Rattle.gpu_report.proofs.ReadLists.{text-listed, numbers-listed, depth-listed}

-- ---- pieces and gaps

kind-quoted : (k : AllocationType) → json_quoted (kind_word k) ≡ 34 ∷ (kind_word k ++ 34 ∷ [])
unfolding escape_byte
kind-quoted Free = refl
kind-quoted Linear = refl
kind-quoted NonLinear = refl

names-then : (x : Extent) (rest : List ℕ)
    → piece_names_json x ++ rest ≡ codes "{\"kind\":\"" ++ (kind_word x.kind ++ (codes "\",\"name\":" ++ (quoted x.name ++ (codes ",\"number\":" ++ (decimal x.chunk_id ++ rest)))))
unfolding piece_names_json
names-then x rest =
    ap (λ (l : List ℕ). codes "{\"kind\":\"" ++ l)
    (append_assoc (kind_word x.kind) _ rest
    ∙ ap (λ (l : List ℕ). kind_word x.kind ++ (codes "\",\"name\":" ++ l)) (append_assoc (quoted x.name) _ rest))

text-piece : (x : Extent) → text_of (piece_value x) [] ≡ piece_json x
unfolding piece_json piece_place_json escape_byte
text-piece x =
    let kind : List ℕ = kind_word x.kind in
    let tail : List ℕ = codes ",\"number\":" ++ (decimal x.chunk_id ++ piece_place_json x) in
    ap (λ (l : List ℕ). codes "{\"kind\":" ++ (l ++ (codes ",\"name\":" ++ (json_quoted x.name ++ tail)))) (kind-quoted x.kind)
    ∙ ap (λ (l : List ℕ). codes "{\"kind\":\"" ++ l) (append_assoc kind (34 ∷ []) _)
    ∙ ap (λ (l : List ℕ). codes "{\"kind\":\"" ++ (kind ++ (codes "\",\"name\":" ++ (l ++ tail)))) (same-quoted x.name)
    ∙ sym (names-then x (piece_place_json x))

text-gap : (g : ℕ × ℕ) → text_of (gap_value g) [] ≡ gap_json g
unfolding gap_json escape_byte
text-gap g = refl

-- ---- a block

place-then : (v : BlockView) (rest : List ℕ)
    → place_json v ++ rest ≡ codes "],\"memory_type\":" ++ (decimal v.memory_type ++ (codes ",\"page_size\":" ++ (decimal v.page_size ++ (codes ",\"pieces\":[" ++ rest))))
unfolding place_json
place-then v rest =
    ap (λ (l : List ℕ). codes "],\"memory_type\":" ++ l)
    (append_assoc (decimal v.memory_type) _ rest
    ∙ ap (λ (l : List ℕ). decimal v.memory_type ++ (codes ",\"page_size\":" ++ l)) (append_assoc (decimal v.page_size) _ rest))

-- what stands behind a block's pieces
abbrev sums_text : BlockView → List ℕ
sums_text v =
    codes "],\"size\":" ++ (decimal (size_of (block_of v.block.now)) ++ (codes ",\"slot\":" ++ (decimal v.slot
    ++ (codes ",\"statistics\":" ++ text_of (statistics_value (statistics_of (block_of v.block.now))) (codes "}")))))

text-sums : (v : BlockView) → sums_text v ≡ sums_json v
unfolding sums_json statistics_json escape_byte
text-sums v =
    ap (λ (l : List ℕ). codes "],\"size\":" ++ (decimal (size_of (block_of v.block.now)) ++ (codes ",\"slot\":" ++ (decimal v.slot ++ (codes ",\"statistics\":" ++ l)))))
    (text-then (statistics_value (statistics_of (block_of v.block.now))) (codes "}"))

-- the text of a block's gaps, and of what follows them
abbrev text_gaps : BlockView → List ℕ → List ℕ
text_gaps v rest =
    items_text false (items_of (map gap_value (gaps_in (block_of v.block.now))))
    (codes ",\"memory_type\":" ++ (decimal v.memory_type ++ (codes ",\"page_size\":" ++ (decimal v.page_size ++ (codes ",\"pieces\":[" ++ rest)))))

text-block : (v : BlockView) → text_of (block_value v) [] ≡ block_json v
unfolding block_json escape_byte
text-block v =
    let gaps : List ℕ = listed gap_json (gaps_in (block_of v.block.now)) in
    let pieces : List ℕ = listed piece_json (extents_of (block_of v.block.now)) in
    ap (λ (l : List ℕ). codes "{\"gaps\":[" ++ l)
    (ap (text_gaps v) (text-listed piece_value piece_json text-piece (extents_of (block_of v.block.now)) _)
    ∙ text-listed gap_value gap_json text-gap (gaps_in (block_of v.block.now)) _
    ∙ ap (λ (l : List ℕ). gaps ++ l) (sym (place-then v (pieces ++ sums_text v)))
    ∙ ap (λ (l : List ℕ). gaps ++ (place_json v ++ (pieces ++ l))) (text-sums v))

text-blocks : (views : List BlockView) → text_of (blocks_value views) [] ≡ blocks_json views
unfolding escape_byte
text-blocks views =
    ap (λ (l : List ℕ). codes "{\"blocks\":[" ++ l)
    (text-listed block_value block_json text-block views _
    ∙ ap (λ (l : List ℕ). listed block_json views ++ (codes "],\"schema\":\"gpu_report.blocks\",\"version\":" ++ (l ++ codes "}"))) (decimal_digit 1 (omega arith)))

-- ---- the value can be written and nests no deeper than a reader goes

numbers-piece : (x : Extent) → PieceFits x → HasNumbers (piece_value x)
numbers-piece x h =
    let offset : x.offset ≤ x.end = h.2 in
    let end : NumberFits x.end = h.3 in
    let own : IsNumber (decimal (x.offset - x.start)) × (IsNumber (decimal (x.end - x.offset)) × Unit {0}) =
    (IsNumber-decimal (x.offset - x.start) (omega arith), (IsNumber-decimal (x.end - x.offset) (omega arith), tt)) in
    (tt, (tt, (IsNumber-decimal x.chunk_id h.0, (IsNumber-decimal x.offset (omega arith), own))))

numbers-gap : (g : ℕ × ℕ) → GapFits g → HasNumbers (gap_value g)
numbers-gap g h =
    let end : NumberFits g.1 = h.1 in
    (IsNumber-decimal (g.1 - g.0) (omega arith), (IsNumber-decimal g.0 h.0, tt))

numbers-statistics : (s : BlockStatistics) → StatisticsFit s → HasNumbers (statistics_value s)
numbers-statistics s h =
    (IsNumber-decimal s.gaps h.2, (IsNumber-decimal s.longest_gap h.3, (IsNumber-decimal s.piece_bytes h.1, (IsNumber-decimal s.pieces h.0, tt))))

numbers-block : (v : BlockView) → BlockFits v → HasNumbers (block_value v)
numbers-block v h =
    let counted : HasNumbers (statistics_value (statistics_of (block_of v.block.now))) = numbers-statistics _ h.statistics in
    let gaps : ItemsHaveNumbers (items_of (map gap_value (gaps_in (block_of v.block.now)))) =
    numbers-listed gap_value GapFits numbers-gap _ h.gaps in
    let pieces : ItemsHaveNumbers (items_of (map piece_value (extents_of (block_of v.block.now)))) =
    numbers-listed piece_value PieceFits numbers-piece _ h.pieces in
    let behind : IsNumber (decimal (size_of (block_of v.block.now))) × (IsNumber (decimal v.slot) × (HasNumbers (statistics_value (statistics_of (block_of v.block.now))) × Unit {0})) =
    (IsNumber-decimal _ h.size, (IsNumber-decimal v.slot h.slot, (counted, tt))) in
    (gaps, (IsNumber-decimal v.memory_type h.memory_type, (IsNumber-decimal v.page_size h.page_size, (pieces, behind))))

shallow-block : (v : BlockView) → depth (block_value v) ≤ 4
shallow-block v =
    let gaps : items_depth (items_of (map gap_value (gaps_in (block_of v.block.now)))) ≤ 2 = depth-listed gap_value 2 (λ x. omega arith) (gaps_in (block_of v.block.now)) in
    let pieces : items_depth (items_of (map piece_value (extents_of (block_of v.block.now)))) ≤ 2 = depth-listed piece_value 2 (λ x. omega arith) (extents_of (block_of v.block.now)) in
    omega arith

shallow : (views : List BlockView) → depth (blocks_value views) ≤ max_depth
shallow views =
    let blocks : items_depth (items_of (map block_value views)) ≤ 4 = depth-listed block_value 4 shallow-block views in
    omega arith

pub document-blocks : (views : List BlockView) → All BlockFits views → document (blocks_json views) ≡ Some (blocks_value views)
document-blocks views fits =
    let numbers : HasNumbers (blocks_value views) =
    (numbers-listed block_value BlockFits numbers-block views fits, (tt, (IsNumber-decimal 1 (omega arith), tt))) in
    ap document (sym (text-blocks views)) ∙ document-text (blocks_value views) numbers (shallow views)
