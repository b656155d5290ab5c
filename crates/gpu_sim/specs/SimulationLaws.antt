-- A simulated device keeps the laws of a device.
use Rattle.std.proofs.Common.{◌≡◌, ℕ, List, None}
use Rattle.std.specs.FinMap.{get}
use Rattle.gpu_device.specs.Held.{IsWhole, with_range}
use Rattle.gpu_sim.specs.declared.sim_vulkan.SimVulkan.{SimVulkan}
use Rattle.gpu_sim.specs.Numbers as numbers
use Rattle.gpu_sim.specs.Simulation.{held_of, written_sim}

pub no_null : (s : SimVulkan) → get (held_of s) 0 ≡ None
no_null s = numbers.at_zero s.memories.slots.items

pub whole : (s : SimVulkan) (number : ℕ) → IsWhole (get (held_of s) number)
whole s number = numbers.whole s.memories number

pub written_held : (s : SimVulkan) (number start : ℕ) (ws : List ℕ) → held_of (written_sim s number start ws) ≡ with_range (held_of s) number start ws
written_held s number start ws = numbers.written_held s.memories number start ws
