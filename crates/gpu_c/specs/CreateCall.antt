-- By which call a resource is made, as C asks and is told.
use Rattle.std.specs.Prelude.{◌≡◌, ℕ, ◌⊎◌, Bool, true, false, List, [], ◌∷◌, Result, Ok, Err}
use Rattle.gpu_values.specs.Refusal.{Refusal}
use Rattle.gpu_device.specs.declared.d3d12.types.Format.{Format}
use Rattle.gpu_d3d12.specs.declared.device_version.ID3D12DeviceVersion.{ID3D12DeviceVersion}
use Rattle.gpu_d3d12.specs.declared.device_version.ID3D12DeviceVersion.TheVariants.{Device, Device10, Device12}
use Rattle.gpu_d3d12.specs.declared.question.CreateCall.{CreateCall}
use Rattle.gpu_d3d12.specs.declared.question.CreateCall.TheVariants.{InState, InLayout, InLayoutWithFormats}
use Rattle.gpu_d3d12.specs.declared.question.ResourceStateOrBarrierLayout.{ResourceStateOrBarrierLayout}
use Rattle.gpu_d3d12.specs.declared.question.ResourceStateOrBarrierLayout.TheVariants.{ResourceState, BarrierLayout}
use Rattle.gpu_c.specs.Status as status
use Rattle.gpu_c.specs.Status.{refusal_status}

-- the newest interface that a device has; nothing else of it is looked at
abbrev pub Version : Type 0
Version = ID3D12DeviceVersion (Unit {0})

-- ID3D12Device, ID3D12Device10, ID3D12Device12
abbrev pub version_number : Version → ℕ
version_number (Device d) = 0
version_number (Device10 d) = 10
version_number (Device12 d) = 12

-- an interface has that number
abbrev pub IsVersion : ℕ → Type 0
IsVersion n = (n ≡ 0) ⊎ (n ≡ 10) ⊎ (n ≡ 12)

-- whether a resource begins in a barrier layout, and not in a state
abbrev pub is_in_layout : ResourceStateOrBarrierLayout → Bool
is_in_layout (ResourceState state) = false
is_in_layout (BarrierLayout layout) = true

-- whether a resource has castable formats
abbrev pub has_some : List Format → Bool
has_some [] = false
has_some (f ∷ fs) = true

-- this is what C tells of such a device, such a beginning and such castable formats
pub record IsToldOf (version : ℕ) (in_layout has_formats : Bool) (v : Version) (begins : ResourceStateOrBarrierLayout) (castable : List Format) : Type 0 where
  pub version_is : version_number v ≡ version
  pub layout_is : is_in_layout begins ≡ in_layout
  pub formats_are : has_some castable ≡ has_formats

-- the number of a call
abbrev pub call_number : CreateCall → ℕ
call_number (InState state) = 1
call_number (InLayout layout) = 2
call_number (InLayoutWithFormats layout) = 3

-- the status and the number say by which call a resource is made, or why it isn't
abbrev pub TellsCall : (code call : ℕ) → Result CreateCall Refusal → Type 0
TellsCall code call (Ok chosen) = (code ≡ status.ok) × (call ≡ call_number chosen)
TellsCall code call (Err refusal) = code ≡ refusal_status refusal
