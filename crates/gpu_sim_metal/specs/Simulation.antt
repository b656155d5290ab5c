-- What callers see of a simulated device.
use Rattle.std.specs.Prelude.{ℕ, Bool, List, length, Option}
use Rattle.gpu_device.specs.Held.{raised}
use Rattle.gpu_device.specs.Metal.{Properties, Held}
use Rattle.gpu_device.specs.MetalHistory.{refused_in, latest_heap_in}
use Rattle.gpu_device.specs.declared.metal.event.Event.{Event}
use Rattle.gpu_device.specs.declared.metal.types.HeapDescriptor.{HeapDescriptor}
use Rattle.gpu_sim_base.specs.Script.{refusal_at}
use Rattle.gpu_device.specs.declared.refusal.Refusal.{Refusal}
use Rattle.gpu_sim_metal.specs.Answer.{asked}
use Rattle.gpu_sim_metal.specs.Objects.{held_by}
use Rattle.gpu_sim_metal.specs.Sizes.{told_size, texture_bytes}
use Rattle.gpu_sim_metal.specs.declared.sim_metal.SimMetal.{SimMetal}

abbrev pub held_of : SimMetal → Held
held_of s = held_by s.objects.numbers.slots.items

abbrev pub properties_of : SimMetal → Properties
properties_of s = record {
  buffer_size = λ bytes storage_mode. told_size bytes;
  texture_size = λ desc. told_size (texture_bytes desc);
  acceleration_structure_size = λ bytes. told_size bytes;
}

-- all that it was asked and was given back, newest first
abbrev pub history_of : SimMetal → List Event
history_of s = s.journal.history

-- how many questions it refused
abbrev pub refused_of : SimMetal → ℕ
refused_of s = refused_in (history_of s)

-- its latest question for a heap, its description and its size in bytes
abbrev pub latest_heap_of : SimMetal → Option (HeapDescriptor × ℕ)
latest_heap_of s = latest_heap_in (history_of s)

-- what decides its answers, beside what it holds
pub record Plan : Type 0 where
  -- whether there are residency sets
  pub residency : Bool
  pub script : List (ℕ × Refusal)
  -- how many questions came
  pub questions : ℕ
  -- how many numbers were given out
  pub issued : ℕ

abbrev pub plan_of : SimMetal → Plan
plan_of s = record {
  residency = s.residency;
  script = s.journal.script.entries.items;
  questions = s.journal.script.questions;
  issued = length s.objects.numbers.slots.items;
}

-- the refusal that the script has for the next question
abbrev pub planned : Plan → Option Refusal
planned plan = refusal_at plan.script (raised plan.questions)

-- the plan after an answer
abbrev pub answered : Plan → Option ℕ → Plan
answered plan granted = record plan { questions = raised plan.questions; issued = asked plan.issued granted }
