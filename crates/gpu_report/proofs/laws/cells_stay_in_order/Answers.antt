use Rattle.gpu_report.proofs.Drawn.{place-in_order}
use Rattle.gpu_report.proofs.laws.cells_stay_in_order.Goals as goal

pub returns : goal.returns
returns c = place-in_order
