use Rattle.std.proofs.lemmas.Result.{IfOk-weaker}
use Rattle.gpu_picture.proofs.Started.{started}
use Rattle.gpu_picture.proofs.follow.follow_trace.Goals as goal

pub returns : goal.returns
returns g c = IfOk-weaker c.replay_from.result _ _ (λ r h. started _ c.start.result r c.start.ensures h) c.replay_from.ensures
