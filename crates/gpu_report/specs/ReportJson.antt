-- The JSON of an allocator's report.
use Rattle.std.specs.Prelude.{ℕ, List, ◌++◌, map, codes}
use Rattle.std.specs.Fmt.{decimal}
use Rattle.gpu_values.specs.Report.{Row, Report}
use Rattle.gpu_values.specs.declared.report.MemoryBlockReport.{MemoryBlockReport}
use Rattle.gpu_report.specs.Escape.{quoted}
use Rattle.gpu_report.specs.Json.{listed}

-- a piece: its name, offset and size
unfoldable pub row_json : Row → List ℕ
row_json r = codes "{\"name\":" ++ (quoted r.name ++ (codes ",\"offset\":" ++ (decimal r.offset ++ (codes ",\"size\":" ++ (decimal r.size ++ codes "}")))))

-- a block: the range of its pieces among all, and its size
unfoldable pub block_row_json : MemoryBlockReport → List ℕ
block_row_json b =
    codes "{\"allocations\":{\"end\":" ++ (decimal b.allocations.end ++ (codes ",\"start\":" ++ (decimal b.allocations.start ++ (codes "},\"size\":" ++ (decimal b.size ++ codes "}")))))

-- the sums, and which version of which schema this is
unfoldable pub sums_json : Report → List ℕ
sums_json r =
    codes "],\"schema\":\"gpu_report.allocator\",\"total_allocated_bytes\":"
    ++ (decimal r.allocated ++ (codes ",\"total_capacity_bytes\":" ++ (decimal r.capacity ++ codes ",\"version\":1}")))

-- each piece and each block once, in order, and the sums
abbrev pub report_json : Report → List ℕ
report_json r =
    codes "{\"allocations\":[" ++ (listed row_json r.rows ++ (codes "],\"blocks\":[" ++ (listed block_row_json r.blocks ++ sums_json r)))
