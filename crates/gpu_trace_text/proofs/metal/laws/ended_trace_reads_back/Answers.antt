use Rattle.gpu_trace_text.proofs.MetalCalls.{ended_trace_reads}
use Rattle.gpu_trace_text.proofs.metal.laws.ended_trace_reads_back.Goals as goal

pub returns : goal.returns
returns c = λ has_set sizes questions cs is_destroyed begun done begins was kept early fit calls_fit.
    ended_trace_reads c.args.alloc has_set sizes questions cs is_destroyed begun done begins was kept early fit calls_fit
