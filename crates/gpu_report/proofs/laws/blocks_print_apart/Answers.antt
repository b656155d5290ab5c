use Rattle.gpu_report.proofs.ReadApart.{blocks-apart}
use Rattle.gpu_report.proofs.laws.blocks_print_apart.Goals as goal

pub returns : goal.returns
returns c = blocks-apart
