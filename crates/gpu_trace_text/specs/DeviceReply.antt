-- What replies to a device trace look like.
use Rattle.std.specs.Prelude.{ℕ, List, [], ◌∷◌, ◌++◌, length, map, codes, string_bytes, Bool, true, false}
use Rattle.std.specs.List.{flat_map}
use Rattle.std.specs.Fmt.{decimal}
use Rattle.std.specs.Int.NonZero.{non_zero_u64_get}
use Rattle.gpu_values.specs.declared.report.AllocatorReport.{AllocatorReport}
use Rattle.gpu_values.specs.declared.report.MemoryBlockReport.{MemoryBlockReport}
use Rattle.gpu_values.specs.Report.{row_of}
use Rattle.gpu_run.specs.declared.allocated.Allocated as pieces
use Rattle.gpu_run.specs.declared.vulkan.reply.Allocated.{Allocated}
use Rattle.gpu_run.specs.declared.vulkan.reply.Reply as told
use Rattle.gpu_run.specs.declared.vulkan.reply.Reply.TheVariants as replies
use Rattle.gpu_block_session.specs.BlockReply.{piece_line}
use Rattle.gpu_block_session.specs.ErrorNumber.{number_of, number_text}
use Rattle.gpu_trace_text.specs.Hex.{hex}
use Rattle.gpu_trace_text.specs.declared.device.reply.Reply.{Reply}
use Rattle.gpu_trace_text.specs.declared.device.reply.Reply.TheVariants.{Made, Served, Held, Refused}

abbrev pub bool_text : Bool → List ℕ
bool_text true = codes "true"
bool_text false = codes "false"

abbrev pub allocated_text : Allocated → List ℕ
allocated_text g =
    codes "ok type " ++ (decimal g.memory_type ++ (codes " slot " ++ (decimal g.slot ++ (codes " offset " ++ (decimal g.offset ++ (codes " size " ++ (decimal g.size
    ++ (codes " chunk " ++ (decimal (non_zero_u64_get g.chunk) ++ (codes " dedicated " ++ (bool_text g.dedicated ++ (codes " mapped " ++ bool_text g.mapped))))))))))))

-- the place of a new allocation in the heap of that number
abbrev pub place_in_heap : {H : Type 0} → pieces.Allocated H → (heap : ℕ) → List ℕ
place_in_heap g heap =
    codes "ok type " ++ (decimal g.memory_type ++ (codes " slot " ++ (decimal g.slot ++ (codes " offset " ++ (decimal g.offset ++ (codes " size " ++ (decimal g.size
    ++ (codes " chunk " ++ (decimal (non_zero_u64_get g.chunk) ++ (codes " heap " ++ decimal heap))))))))))

-- a live block: its size and the range of its pieces, and the end of its line
abbrev pub block_line : MemoryBlockReport → List ℕ
block_line b = codes "block " ++ (decimal b.size ++ (codes " " ++ (decimal b.allocations.start ++ (codes " " ++ (decimal b.allocations.end ++ 10 ∷ [])))))

-- the pieces, the blocks, a line each, and then the sums
abbrev pub report_text : AllocatorReport → List ℕ
report_text r =
    flat_map piece_line (map row_of r.allocations.items) ++ (flat_map block_line r.blocks.items
    ++ (codes "total " ++ (decimal r.total_allocated_bytes ++ (codes " capacity " ++ decimal r.total_capacity_bytes))))

-- a leak's text and the end of its line
abbrev pub leak_line : List ℕ → List ℕ
leak_line text = text ++ 10 ∷ []

abbrev pub leaks_text : List (List ℕ) → List ℕ
leaks_text texts = flat_map leak_line texts ++ (codes "leaks " ++ decimal (length texts))

abbrev pub served_text : told.Reply → List ℕ
served_text (replies.Allocated g) = allocated_text g
served_text replies.Done = codes "ok"
served_text (replies.Bytes bytes) = hex bytes.items
served_text (replies.Report r) = report_text r
served_text (replies.Leaks texts) = leaks_text (map string_bytes texts.items)
served_text (replies.Capacity bytes) = decimal bytes
served_text replies.Busy = codes "busy"
served_text replies.Unbound = codes "unbound"
served_text replies.NoPlace = codes "none"
served_text replies.Unmapped = codes "none"
served_text replies.OutOfRange = codes "range"
served_text (replies.Error e) = codes "error " ++ number_text (number_of e)

abbrev pub reply_text : Reply → List ℕ
reply_text Made = codes "ok"
reply_text (Served r) = served_text r
reply_text (Held count) = codes "held " ++ decimal count
reply_text (Refused number) = codes "error " ++ number_text number
