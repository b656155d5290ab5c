-- The value that stands for an allocator's report.
use Rattle.std.specs.Prelude.{[], ◌∷◌, codes}
use Rattle.json.specs.Json.{Json, string}
use Rattle.gpu_values.specs.Report.{Row, Report}
use Rattle.gpu_values.specs.declared.report.MemoryBlockReport.{MemoryBlockReport}
use Rattle.gpu_report.specs.Values.{number_of, list_of, object_of}

-- a piece: its name, offset and size
abbrev pub row_value : Row → Json
row_value r = object_of ((codes "name", string r.name) ∷ (codes "offset", number_of r.offset) ∷ (codes "size", number_of r.size) ∷ [])

-- a block: the range of its pieces among all, and its size
abbrev pub block_row_value : MemoryBlockReport → Json
block_row_value b =
    object_of (
    (codes "allocations", object_of ((codes "end", number_of b.allocations.end) ∷ (codes "start", number_of b.allocations.start) ∷ []))
    ∷ (codes "size", number_of b.size)
    ∷ []
    )

-- each piece and each block once, in order, and the sums
abbrev pub report_value : Report → Json
report_value r =
    object_of (
    (codes "allocations", list_of row_value r.rows)
    ∷ (codes "blocks", list_of block_row_value r.blocks)
    ∷ (codes "schema", string (codes "gpu_report.allocator"))
    ∷ (codes "total_allocated_bytes", number_of r.allocated)
    ∷ (codes "total_capacity_bytes", number_of r.capacity)
    ∷ (codes "version", number_of 1)
    ∷ []
    )
