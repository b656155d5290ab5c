-- A simulated device keeps the laws of a device.
use Rattle.std.specs.Prelude.{◌≡◌, None}
use Rattle.std.specs.FinMap.{get}
use Rattle.gpu_sim_base.specs.NumbersLaws.{at_zero}
use Rattle.gpu_sim_metal.specs.Objects.{entry_of}
use Rattle.gpu_sim_metal.specs.Simulation.{held_of}
use Rattle.gpu_sim_metal.specs.declared.sim_metal.SimMetal.{SimMetal}

pub no_null : (s : SimMetal) → get (held_of s) 0 ≡ None
no_null s = at_zero entry_of s.objects.numbers.slots.items
