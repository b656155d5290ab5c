use Rattle.std.proofs.Common.{take, length, ◌++◌}
use Rattle.std.specs.List.{flat_map}
use Rattle.std.specs.Fmt.{decimal, HasWritten, IsPlainFormatter}
use Rattle.gpu_trace_text.specs.MetalReply.{number_word}
use Rattle.gpu_trace_text.proofs.metal.reply.write_listed.Given as goal

abbrev pub invariant-loop-heap : goal.invariant-loop-heap
invariant-loop-heap g l =
    IsPlainFormatter l.fn.f → HasWritten g.W.Write.write_str_gives l.fn.f (decimal (length l.heaps) ++ flat_map number_word (take l.heap-index l.heaps)) l.f
