-- What callers see of a simulated device.
use Rattle.std.specs.Prelude.{ℕ, ℤ, pos, neg_ℤ, List, Option}
use Rattle.gpu_device.specs.D3D12.{Properties, Held}
use Rattle.gpu_device.specs.D3D12History.{refused_in, latest_heap_in, latest_resource_in}
use Rattle.gpu_device.specs.declared.d3d12.event.Event.{Event}
use Rattle.gpu_device.specs.declared.d3d12.event.ResourceRequest.{ResourceRequest}
use Rattle.gpu_device.specs.declared.d3d12.types.HeapDesc.{HeapDesc}
use Rattle.gpu_device.specs.Held.{raised}
use Rattle.gpu_device.specs.declared.d3d12.types.ResourceAllocationInfo.{ResourceAllocationInfo}
use Rattle.gpu_sim_base.specs.Script.{refusal_at}
use Rattle.gpu_sim_base.specs.Sizes.{rounded_up}
use Rattle.gpu_device.specs.declared.refusal.Refusal.{Refusal}
use Rattle.gpu_sim_d3d12.specs.Objects.{held_in_objects, issued, asked}
use Rattle.gpu_sim_d3d12.specs.declared.sim_d3d12.SimD3D12.{SimD3D12}

abbrev pub held_of : SimD3D12 → Held
held_of s = held_in_objects s.objects

-- what a resource of this width takes of a heap: `D3D12_DEFAULT_RESOURCE_PLACEMENT_ALIGNMENT` is its unit
abbrev pub info_for : ℕ → ResourceAllocationInfo
info_for width = record { size_in_bytes = rounded_up width 65536; alignment = 65536 }

abbrev pub properties_of : SimD3D12 → Properties
properties_of s = record {
  tier = s.tier;
  allocation_info = λ desc. info_for desc.width;
  allocation_info3 = λ desc formats. info_for desc.desc.width;
}

-- all that it was asked and was given back, newest first
abbrev pub history_of : SimD3D12 → List Event
history_of s = s.journal.history

-- how many questions it refused
abbrev pub refused_of : SimD3D12 → ℕ
refused_of s = refused_in (history_of s)

-- its latest question for a heap
abbrev pub latest_heap_of : SimD3D12 → Option HeapDesc
latest_heap_of s = latest_heap_in (history_of s)

-- its latest question for a resource
abbrev pub latest_resource_of : SimD3D12 → Option ResourceRequest
latest_resource_of s = latest_resource_in (history_of s)

-- why it was removed, at any time: `DXGI_ERROR_DEVICE_REMOVED` (0x887a0005)
abbrev pub removal_reason_of : SimD3D12 → ℤ
removal_reason_of s = neg_ℤ (pos 2005270523)

-- what decides its answers, beside what it holds
pub record Plan : Type 0 where
  pub script : List (ℕ × Refusal)
  -- how many questions came
  pub questions : ℕ
  -- how many numbers were given out
  pub issued : ℕ

abbrev pub plan_of : SimD3D12 → Plan
plan_of s = record { script = s.journal.script.entries.items; questions = s.journal.script.questions; issued = issued s.objects }

-- the refusal that the script has for the next question
abbrev pub planned : Plan → Option Refusal
planned plan = refusal_at plan.script (raised plan.questions)

-- the plan after an answer
abbrev pub answered : Plan → Option ℕ → Plan
answered plan granted = record plan { questions = raised plan.questions; issued = asked plan.issued granted }
