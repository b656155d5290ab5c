use Rattle.std.proofs.Common.{◌≡◌, ◌<◌, ◌^◌, map, take}
use Rattle.std.specs.Fmt.{decimal}
use Rattle.std.specs.List.{All}
use Rattle.gpu_block_session.specs.Words.{texts}
use Rattle.gpu_trace_text.proofs.d3d12.numbers.numbers_of.Given as goal

abbrev pub invariant-loop-part : goal.invariant-loop-part
invariant-loop-part l = record {
  spelled : map decimal l.numbers.items ≡ texts (take l.part-index l.part-items);
  small : All (λ n. n < 2 ^ 32) l.numbers.items;
}
