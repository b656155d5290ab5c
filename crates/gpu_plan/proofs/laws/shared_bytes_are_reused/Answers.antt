use Rattle.gpu_plan.proofs.Reusing.{one_reuses}
use Rattle.gpu_plan.proofs.laws.shared_bytes_are_reused.Goals as goal

pub returns : goal.returns
returns c = λ resources offsets i j apart i_lt j_lt differ share. one_reuses c.args.page resources offsets i j apart i_lt j_lt differ share
