use Rattle.gpu_trace_text.proofs.D3D12Calls.{ended_trace_reads}
use Rattle.gpu_trace_text.proofs.d3d12.laws.ended_trace_reads_back.Goals as goal

pub returns : goal.returns
returns c = λ tier sizes questions cs is_destroyed begun done begins was kept early fit calls_fit.
    ended_trace_reads c.args.alloc tier sizes questions cs is_destroyed begun done begins was kept early fit calls_fit
