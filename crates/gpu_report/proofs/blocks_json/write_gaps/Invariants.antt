use Rattle.std.proofs.Common.{◌∷◌}
use Rattle.std.specs.List.{flat_map}
use Rattle.gpu_report.specs.BlocksJson.{gap_json}
use Rattle.gpu_report.proofs.Writing.{WritesBefore}
use Rattle.gpu_report.proofs.blocks_json.write_gaps.Given as goal

abbrev pub invariant-loop-gap : goal.invariant-loop-gap
invariant-loop-gap g l = WritesBefore g.W.Write.write_str_gives l.initial.f l.f (flat_map (λ y. 44 ∷ gap_json y) l.gap-iterator) (flat_map (λ y. 44 ∷ gap_json y) l.initial.gap-iterator)
