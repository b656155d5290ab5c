use Rattle.gpu_report.proofs.Drawn.{pieces-once}
use Rattle.gpu_report.proofs.laws.each_piece_once.Goals as goal

pub returns : goal.returns
returns c = pieces-once
