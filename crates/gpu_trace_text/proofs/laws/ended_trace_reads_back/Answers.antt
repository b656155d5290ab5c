use Rattle.gpu_trace_text.proofs.CapturedCalls.{ended_trace_reads}
use Rattle.gpu_trace_text.proofs.laws.ended_trace_reads_back.Goals as goal

pub returns : goal.returns
returns c = λ device sizes questions cs is_destroyed begun done begins was kept early fit calls_fit.
    ended_trace_reads c.args.alloc device sizes questions cs is_destroyed begun done begins was kept early fit calls_fit
