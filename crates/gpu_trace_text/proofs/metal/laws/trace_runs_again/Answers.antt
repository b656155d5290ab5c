use Rattle.gpu_trace_text.proofs.CapturedRuns.{metal_runs}
use Rattle.gpu_trace_text.proofs.metal.laws.trace_runs_again.Goals as goal

pub returns : goal.returns
returns c = λ parts text old new sort answers. metal_runs parts text old new sort answers
