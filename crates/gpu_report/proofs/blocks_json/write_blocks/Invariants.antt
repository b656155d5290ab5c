use Rattle.std.proofs.Common.{◌++◌, ◌∷◌, take, map}
use Rattle.std.specs.List.{flat_map}
use Rattle.std.specs.Fmt.{HasWritten, IsPlainFormatter}
use Rattle.gpu_report.specs.BlocksJson.{block_json}
use Rattle.gpu_report.proofs.blocks_json.write_blocks.Given as goal

abbrev pub invariant-loop-view : goal.invariant-loop-view
invariant-loop-view g l =
    IsPlainFormatter l.initial.f → HasWritten g.W.Write.write_str_gives l.initial.f (flat_map (λ y. 44 ∷ block_json y) (take l.view-index l.others)) l.f
