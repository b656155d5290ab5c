use Rattle.std.specs.List.{flat_map}
use Rattle.gpu_report.specs.Picture.{cells_between}
use Rattle.gpu_report.specs.Svg.{cell_svg}
use Rattle.gpu_report.proofs.Writing.{WritesBefore}
use Rattle.gpu_report.proofs.blocks_svg.write_cells.Given as goal

abbrev pub invariant-loop-piece : goal.invariant-loop-piece
invariant-loop-piece g l =
    WritesBefore g.W.Write.write_str_gives l.initial.f l.f
    (flat_map (cell_svg l.scale.size l.scale.width) (cells_between l.end l.piece-iterator l.scale.size))
    (flat_map (cell_svg l.scale.size l.scale.width) (cells_between 0 l.initial.piece-iterator l.scale.size))
