-- A simulated device keeps the laws of a device.
use Rattle.std.specs.Prelude.{◌≡◌, None}
use Rattle.std.specs.FinMap.{get}
use Rattle.gpu_sim_base.specs.NumbersLaws.{at_zero}
use Rattle.gpu_sim_d3d12.specs.Objects.{entry_of}
use Rattle.gpu_sim_d3d12.specs.Simulation.{held_of}
use Rattle.gpu_sim_d3d12.specs.declared.sim_d3d12.SimD3D12.{SimD3D12}

pub no_null : (s : SimD3D12) → get (held_of s) 0 ≡ None
no_null s = at_zero entry_of s.objects.numbers.slots.items
