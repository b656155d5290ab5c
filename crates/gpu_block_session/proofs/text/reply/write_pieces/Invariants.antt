use Rattle.std.proofs.Common.{take, map}
use Rattle.std.specs.List.{flat_map}
use Rattle.std.specs.Fmt.{HasWritten, IsPlainFormatter}
use Rattle.gpu_values.specs.Report.{row_of}
use Rattle.gpu_block_session.specs.BlockReply.{piece_line}
use Rattle.gpu_block_session.proofs.text.reply.write_pieces.Given as goal

abbrev pub invariant-loop-piece : goal.invariant-loop-piece
invariant-loop-piece g l =
    IsPlainFormatter l.initial.f → HasWritten g.W.Write.write_str_gives l.initial.f (flat_map piece_line (map row_of (take l.piece-index l.pieces))) l.f
