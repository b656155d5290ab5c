use Rattle.gpu_trace_text.proofs.D3D12Created.{create_reads}
use Rattle.gpu_trace_text.proofs.d3d12.laws.committed_reads_back.Goals as goal

pub returns : goal.returns
returns c = λ n r rest small f. create_reads c.args.alloc n r rest small f
