use Rattle.gpu_trace_text.proofs.CapturedRuns.{d3d12_runs}
use Rattle.gpu_trace_text.proofs.d3d12.laws.trace_runs_again.Goals as goal

pub returns : goal.returns
returns c = λ parts text old new sort answers. d3d12_runs parts text old new sort answers
