use Rattle.gpu_report.proofs.Reports.{document-report}
use Rattle.gpu_report.proofs.laws.report_reads_back.Goals as goal

pub returns : goal.returns
returns c = document-report
