-- What a device version ends as, once its device that was lent has ended.
use Rattle.std.specs.Borrow.{Lends, Fml, RattleType, MutBor}
use Rattle.gpu_d3d12.specs.DeviceVersion.{with_device}
use Rattle.gpu_d3d12.specs.contracts.device_version.ID3D12DeviceVersion.{the_row}
use Rattle.gpu_d3d12.specs.declared.device_version.ID3D12DeviceVersion.{ID3D12DeviceVersion}

abbrev pub lends_device : (D : RattleType) → MutBor (ID3D12DeviceVersion D.Denot) → MutBor D.Denot → Fml
lends_device D v r = Lends (the_row D) D v r (with_device v.now)
