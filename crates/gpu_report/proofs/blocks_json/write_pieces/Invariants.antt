use Rattle.std.proofs.Common.{◌∷◌}
use Rattle.std.specs.List.{flat_map}
use Rattle.gpu_report.specs.BlocksJson.{piece_json}
use Rattle.gpu_report.proofs.Writing.{WritesBefore}
use Rattle.gpu_report.proofs.blocks_json.write_pieces.Given as goal

abbrev pub invariant-loop-piece : goal.invariant-loop-piece
invariant-loop-piece g l = WritesBefore g.W.Write.write_str_gives l.initial.f l.f (flat_map (λ y. 44 ∷ piece_json y) l.piece-iterator) (flat_map (λ y. 44 ∷ piece_json y) l.initial.piece-iterator)
