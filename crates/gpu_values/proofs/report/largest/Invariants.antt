use Rattle.std.proofs.Common.{◌≡◌, [], string_bytes}
use Rattle.gpu_values.proofs.report.largest.Given as goal

abbrev pub invariant-loop-row : goal.invariant-loop-row
invariant-loop-row l = l.fn.limit ≡ 0 → string_bytes l.text ≡ []
