-- A device by the newest interface that it has.
use Rattle.gpu_d3d12.specs.declared.device_version.ID3D12DeviceVersion.{ID3D12DeviceVersion}
use Rattle.gpu_d3d12.specs.declared.device_version.ID3D12DeviceVersion.TheVariants.{Device, Device10, Device12}

abbrev pub device_of : {D : Type 0} → ID3D12DeviceVersion D → D
device_of (Device d) = d
device_of (Device10 d) = d
device_of (Device12 d) = d

-- another device by the same interface
abbrev pub with_device : {D : Type 0} → ID3D12DeviceVersion D → D → ID3D12DeviceVersion D
with_device (Device old) new = Device new
with_device (Device10 old) new = Device10 new
with_device (Device12 old) new = Device12 new
