-- What replies to a block trace look like.
use Rattle.std.specs.Prelude.{ℕ, List, [], ◌∷◌, ◌++◌, codes, map}
use Rattle.std.specs.List.{flat_map}
use Rattle.std.specs.Fmt.{decimal}
use Rattle.std.specs.Int.NonZero.{non_zero_u64_get}
use Rattle.gpu_block_session.specs.ErrorNumber.{number_text}
use Rattle.gpu_block_session.specs.declared.block.reply.Reply.{Reply}
use Rattle.gpu_block_session.specs.declared.block.reply.Reply.TheVariants.{Block, Allocated, Freed, Refused, Busy, Unbound}
use Rattle.gpu_block_session.specs.declared.block.reply.Reply.TheVariants as replies
use Rattle.gpu_block_session.specs.declared.block.reply.Report.{Report}
use Rattle.gpu_values.specs.Report.{Row, row_of}

-- a live piece, and the end of its line
abbrev pub piece_line : Row → List ℕ
piece_line row = codes "piece " ++ (row.name ++ (codes " " ++ (decimal row.offset ++ (codes " " ++ (decimal row.size ++ 10 ∷ [])))))

abbrev pub sums_text : Report → List ℕ
sums_text r = codes "total " ++ (decimal r.total ++ (codes " capacity " ++ decimal r.capacity))

-- the pieces, a line each, and then the sums
abbrev pub report_text : Report → List ℕ
report_text r = flat_map piece_line (map row_of r.pieces.items) ++ sums_text r

abbrev pub reply_text : Reply → List ℕ
reply_text (Block size) = codes "block " ++ decimal size
reply_text (Allocated offset chunk) = codes "ok offset " ++ (decimal offset ++ (codes " chunk " ++ decimal (non_zero_u64_get chunk)))
reply_text Freed = codes "ok"
reply_text (Refused number) = codes "error " ++ number_text number
reply_text Busy = codes "busy"
reply_text Unbound = codes "unbound"
reply_text (replies.Report report) = report_text report
