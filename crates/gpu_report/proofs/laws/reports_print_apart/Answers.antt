use Rattle.gpu_report.proofs.ReadApart.{reports-apart}
use Rattle.gpu_report.proofs.laws.reports_print_apart.Goals as goal

pub returns : goal.returns
returns c = reports-apart
