use Rattle.std.proofs.lemmas.Result.{IfOk-weaker}
use Rattle.gpu_trace_text.proofs.Sorts.{served}
use Rattle.gpu_trace_text.proofs.block_or_device.serve.Goals as goal

pub returns-in-Ok : goal.returns-in-Ok
returns-in-Ok g c = IfOk-weaker c.serve.result _ _ (λ r did. served c.args.stage r.0 c.args.line.now c.in-Ok.line r.1 c.in-Ok.ensures did) c.serve.ensures
