use Rattle.std.proofs.Common.{◌++◌, ◌∷◌, take, map}
use Rattle.std.specs.List.{flat_map}
use Rattle.std.specs.Fmt.{HasWritten, IsPlainFormatter}
use Rattle.gpu_report.specs.ReportJson.{block_row_json}
use Rattle.gpu_report.proofs.report_json.write_blocks.Given as goal

abbrev pub invariant-loop-block : goal.invariant-loop-block
invariant-loop-block g l =
    IsPlainFormatter l.initial.f → HasWritten g.W.Write.write_str_gives l.initial.f (flat_map (λ y. 44 ∷ block_row_json y) (take l.block-index l.others)) l.f
