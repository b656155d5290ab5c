-- By which question the device makes a resource.
use Rattle.std.specs.Prelude.{ℕ, List, [], ◌∷◌, Option, Some, None, Result, Ok, Err}
use Rattle.gpu_values.specs.Refusal.{Refusal, barrier_layout_needs_device10, castable_formats_requires_enhanced_barriers, castable_formats_requires_at_least_device12}
use Rattle.gpu_device.specs.D3D12.{Properties, told_size1}
use Rattle.gpu_device.specs.declared.d3d12.types.Format.{Format}
use Rattle.gpu_device.specs.declared.d3d12.types.ResourceAllocationInfo.{ResourceAllocationInfo}
use Rattle.gpu_device.specs.declared.d3d12.types.ResourceDesc.{ResourceDesc}
use Rattle.gpu_device.specs.declared.d3d12.types.ResourceDesc1.{ResourceDesc1}
use Rattle.gpu_d3d12.specs.declared.device_version.ID3D12DeviceVersion.{ID3D12DeviceVersion}
use Rattle.gpu_d3d12.specs.declared.device_version.ID3D12DeviceVersion.TheVariants.{Device, Device10, Device12}
use Rattle.gpu_d3d12.specs.declared.question.ResourceStateOrBarrierLayout.{ResourceStateOrBarrierLayout}
use Rattle.gpu_d3d12.specs.declared.question.ResourceStateOrBarrierLayout.TheVariants.{ResourceState, BarrierLayout}
use Rattle.gpu_d3d12.specs.declared.question.CreateCall.{CreateCall}
use Rattle.gpu_d3d12.specs.declared.question.CreateCall.TheVariants.{InState, InLayout, InLayoutWithFormats}

-- by which question a resource with these castable formats is made, or why it isn't
abbrev pub resource_question : {D : Type 0} → ID3D12DeviceVersion D → ResourceStateOrBarrierLayout → (castable : List Format) → Result CreateCall Refusal
resource_question version (ResourceState state) [] = Ok (InState state)
resource_question version (ResourceState state) (f ∷ fs) = Err castable_formats_requires_enhanced_barriers
resource_question (Device12 d) (BarrierLayout layout) castable = Ok (InLayoutWithFormats layout)
resource_question (Device10 d) (BarrierLayout layout) [] = Ok (InLayout layout)
resource_question (Device10 d) (BarrierLayout layout) (f ∷ fs) = Err castable_formats_requires_at_least_device12
resource_question (Device d) (BarrierLayout layout) [] = Err barrier_layout_needs_device10
resource_question (Device d) (BarrierLayout layout) (f ∷ fs) = Err castable_formats_requires_at_least_device12

-- the list of formats that the question hands on
abbrev pub handed_on : CreateCall → (castable : List Format) → Option (List Format)
handed_on (InState state) castable = None
handed_on (InLayout layout) castable = None
handed_on (InLayoutWithFormats layout) castable = Some castable

-- the same description for the later questions
abbrev pub desc1_of : ResourceDesc → ResourceDesc1
desc1_of desc = record { desc = desc; sampler_feedback_mip_region = 0 ∷ 0 ∷ 0 ∷ [] }

-- what the device tells a resource to take of a heap, by its newest interface
abbrev pub told_info : {D : Type 0} → Properties → ID3D12DeviceVersion D → ResourceDesc → (castable : List Format) → ResourceAllocationInfo
told_info properties (Device d) desc castable = properties.allocation_info desc
told_info properties (Device10 d) desc castable = properties.allocation_info desc
told_info properties (Device12 d) desc castable = properties.allocation_info3 (desc1_of desc) castable

-- the size of the resource that a question makes, as the device tells it
abbrev pub made_size : Properties → CreateCall → ResourceDesc → (castable : List Format) → ℕ
made_size properties question desc castable = told_size1 properties (desc1_of desc) (handed_on question castable)
