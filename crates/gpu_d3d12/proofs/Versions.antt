-- A device by its newest interface, once the device was asked or released something.
use Rattle.std.proofs.Common.{◌≡◌, ◌∙◌, refl, sym, ap, List, [], ◌∷◌}
use Rattle.gpu_device.specs.D3D12.{Properties}
use Rattle.gpu_device.specs.declared.d3d12.types.Format.{Format}
use Rattle.gpu_device.specs.declared.d3d12.types.ResourceDesc.{ResourceDesc}
use Rattle.gpu_d3d12.specs.DeviceVersion.{device_of, with_device}
use Rattle.gpu_d3d12.specs.Question.{resource_question, told_info}
use Rattle.gpu_d3d12.specs.declared.device_version.ID3D12DeviceVersion.{ID3D12DeviceVersion}
use Rattle.gpu_d3d12.specs.declared.device_version.ID3D12DeviceVersion.TheVariants.{Device, Device10, Device12}
use Rattle.gpu_d3d12.specs.declared.question.ResourceStateOrBarrierLayout.{ResourceStateOrBarrierLayout}
use Rattle.gpu_d3d12.specs.declared.question.ResourceStateOrBarrierLayout.TheVariants.{ResourceState, BarrierLayout}
use Rattle.gpu_d3d12.specs.State.{interface_of}

pub same_device : {D : Type 0} (v : ID3D12DeviceVersion D) → v ≡ with_device v (device_of v)
same_device (Device d) = refl
same_device (Device10 d) = refl
same_device (Device12 d) = refl

pub device_with : {D : Type 0} (v : ID3D12DeviceVersion D) (d : D) → device_of (with_device v d) ≡ d
device_with (Device old) d = refl
device_with (Device10 old) d = refl
device_with (Device12 old) d = refl

pub with_twice : {D : Type 0} (v : ID3D12DeviceVersion D) (d e : D) → with_device (with_device v d) e ≡ with_device v e
with_twice (Device old) d e = refl
with_twice (Device10 old) d e = refl
with_twice (Device12 old) d e = refl

-- another device by the same interface
pub same_version : {D : Type 0} (v : ID3D12DeviceVersion D) (d : D) → with_device v d ≡ with_device v (device_of (with_device v d))
same_version v d = ap (with_device v) (sym (device_with v d))

pub kept_version : {D : Type 0} (v first : ID3D12DeviceVersion D) (d : D) → v ≡ with_device first (device_of v) → with_device v d ≡ with_device first (device_of (with_device v d))
kept_version v first d is = ap (λ w. with_device w d) is ∙ with_twice first (device_of v) d ∙ ap (with_device first) (sym (device_with v d))

pub same_interface : {D : Type 0} (v : ID3D12DeviceVersion D) (d : D) → interface_of (with_device v d) ≡ interface_of v
same_interface (Device old) d = refl
same_interface (Device10 old) d = refl
same_interface (Device12 old) d = refl

-- the interface alone decides by which question a resource is made
pub same_question : {D : Type 0} (v : ID3D12DeviceVersion D) (s : ResourceStateOrBarrierLayout) (castable : List Format) → resource_question (interface_of v) s castable ≡ resource_question v s
    castable
same_question v (ResourceState s) [] = refl
same_question v (ResourceState s) (f ∷ fs) = refl
same_question (Device12 d) (BarrierLayout l) castable = refl
same_question (Device10 d) (BarrierLayout l) [] = refl
same_question (Device10 d) (BarrierLayout l) (f ∷ fs) = refl
same_question (Device d) (BarrierLayout l) [] = refl
same_question (Device d) (BarrierLayout l) (f ∷ fs) = refl

-- and which size and alignment it is told by
pub same_info : {D : Type 0} (p : Properties) (v : ID3D12DeviceVersion D) (desc : ResourceDesc) (castable : List Format) → told_info p (interface_of v) desc castable ≡ told_info p v desc castable
same_info p (Device d) desc castable = refl
same_info p (Device10 d) desc castable = refl
same_info p (Device12 d) desc castable = refl
