use Rattle.gpu_report.proofs.Drawn.{Tile-cells}
use Rattle.gpu_report.proofs.laws.cells_cover.Goals as goal

pub returns : goal.returns
returns c = Tile-cells
