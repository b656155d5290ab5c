use Rattle.gpu_report.proofs.Parted.{all-columns}
use Rattle.gpu_report.proofs.timeline.laws.columns_part_the_samples.Goals as goal

pub returns : goal.returns
returns c = all-columns
