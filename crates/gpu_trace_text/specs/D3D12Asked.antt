-- What is told of the simulated device's questions.
use Rattle.std.specs.Prelude.{◌≡◌, Option, Some, None}
use Rattle.gpu_device.specs.D3D12History.{questions_in, request_formats, request_clear}
use Rattle.gpu_device.specs.declared.d3d12.event.ResourceRequest.{ResourceRequest}
use Rattle.gpu_device.specs.declared.d3d12.event.ResourceShape.{ResourceShape}
use Rattle.gpu_device.specs.declared.d3d12.event.ResourceShape.TheVariants.{InState, InLayout}
use Rattle.gpu_d3d12.specs.declared.question.ResourceStateOrBarrierLayout.{ResourceStateOrBarrierLayout}
use Rattle.gpu_d3d12.specs.declared.question.ResourceStateOrBarrierLayout.TheVariants.{ResourceState, BarrierLayout}
use Rattle.gpu_sim_d3d12.specs.Simulation.{history_of, latest_heap_of, latest_resource_of}
use Rattle.gpu_sim_d3d12.specs.declared.sim_d3d12.SimD3D12.{SimD3D12}
use Rattle.gpu_trace_text.specs.declared.d3d12.reply.Reply.{Reply}
use Rattle.gpu_trace_text.specs.declared.d3d12.reply.Reply.TheVariants.{Asked}

-- how a resource is to begin
abbrev pub shape_initial : ResourceShape → ResourceStateOrBarrierLayout
shape_initial (InState desc state) = ResourceState state
shape_initial (InLayout desc layout formats) = BarrierLayout layout

-- the same of a question, where there is one
abbrev pub request_initial : Option ResourceRequest → Option ResourceStateOrBarrierLayout
request_initial None = None
request_initial (Some request) = Some (shape_initial request.shape)

-- how many questions came, the latest one for a heap, and of the latest one for a resource its formats, clear value and beginning
abbrev pub Shows : SimD3D12 → Reply → Type 0
Shows d reply = reply ≡ Asked (questions_in (history_of d)) (latest_heap_of d)
    (request_formats (latest_resource_of d)) (request_clear (latest_resource_of d)) (request_initial (latest_resource_of d))
