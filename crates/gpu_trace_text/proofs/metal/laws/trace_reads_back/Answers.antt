use Rattle.gpu_trace_text.proofs.MetalCalls.{trace_reads}
use Rattle.gpu_trace_text.proofs.metal.laws.trace_reads_back.Goals as goal

pub returns : goal.returns
returns c = λ device sizes questions cs is_destroyed begun done begins kept whole fit calls_fit.
    trace_reads c.args.alloc device sizes questions cs is_destroyed begun done begins kept whole fit calls_fit
