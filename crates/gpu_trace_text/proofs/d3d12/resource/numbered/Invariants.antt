use Rattle.std.proofs.Common.{◌≡◌, map, take}
use Rattle.gpu_trace_text.specs.D3D12Resource.{format_number}
use Rattle.gpu_trace_text.proofs.d3d12.resource.numbered.Given as goal

abbrev pub invariant-loop-number : goal.invariant-loop-number
invariant-loop-number l = map format_number l.formats.items ≡ take l.number-index l.numbers
