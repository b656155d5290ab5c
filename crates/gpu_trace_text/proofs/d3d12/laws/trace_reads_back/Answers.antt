use Rattle.gpu_trace_text.proofs.D3D12Calls.{trace_reads}
use Rattle.gpu_trace_text.proofs.d3d12.laws.trace_reads_back.Goals as goal

pub returns : goal.returns
returns c = λ device sizes questions cs is_destroyed begun done begins kept whole fit calls_fit.
    trace_reads c.args.alloc device sizes questions cs is_destroyed begun done begins kept whole fit calls_fit
