-- What callers see of a simulated device.
use Rattle.std.specs.Prelude.{ℕ, List, Option}
use Rattle.gpu_device.specs.Held.{Held}
use Rattle.gpu_device.specs.VulkanHistory.{refused_in, latest_in}
use Rattle.gpu_device.specs.declared.vulkan.event.Event.{Event}
use Rattle.gpu_device.specs.Properties.{Properties}
use Rattle.gpu_device.specs.declared.vulkan.types.MemoryAllocateInfo.{MemoryAllocateInfo}
use Rattle.gpu_sim.specs.declared.sim_vulkan.SimVulkan.{SimVulkan}
use Rattle.gpu_sim.specs.Memories.{held_in, issued, written_memories}
use Rattle.gpu_sim.specs.Plan.{Plan}

abbrev pub held_of : SimVulkan → Held
held_of s = held_in s.memories

abbrev pub properties_of : SimVulkan → Properties
properties_of s = record { types = s.types.items; heaps = s.heaps.items; granularity = s.granularity }

abbrev pub plan_of : SimVulkan → Plan
plan_of s = record {
  properties = properties_of s;
  limit = s.journal.limit;
  script = s.journal.script.entries.items;
  questions = s.journal.script.questions;
  issued = issued s.memories;
}

-- all that it was asked and was given back, newest first
abbrev pub history_of : SimVulkan → List Event
history_of s = s.journal.history

-- how many questions it refused
abbrev pub refused_of : SimVulkan → ℕ
refused_of s = refused_in (history_of s)

-- its latest question for memory
abbrev pub latest_of : SimVulkan → Option MemoryAllocateInfo
latest_of s = latest_in (history_of s)

-- the device after bytes were written into a memory
abbrev pub written_sim : SimVulkan → ℕ → ℕ → List ℕ → SimVulkan
written_sim s number start ws = record s { memories = written_memories s.memories number start ws }
