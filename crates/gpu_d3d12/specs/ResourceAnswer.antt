-- How a device answers when a resource is asked for.
use Rattle.std.specs.Prelude.{◌≡◌, ℕ, ℤ, pos, neg_ℤ, List, ◌∷◌, length, Option, Some, None, Result, Ok, Err, codes, cond}
use Rattle.std.specs.Option.{option_map, option_copied}
use Rattle.std.specs.Ordering.{int_eq}
use Rattle.gpu_values.specs.Refusal.{Refusal, refusal_of, internal}
use Rattle.gpu_values.specs.declared.error.AllocationError.{AllocationError}
use Rattle.gpu_device.specs.D3D12.{Entry}
use Rattle.gpu_device.specs.Granted.{IsNew, with_granted, counted}
use Rattle.gpu_device.specs.declared.d3d12.device.D3D12Device.{Ghosts}
use Rattle.gpu_device.specs.D3D12History.{place_memory}
use Rattle.gpu_device.specs.declared.d3d12.event.Event.TheVariants.{AskedResource}
use Rattle.gpu_device.specs.declared.d3d12.event.ResourcePlace.{ResourcePlace}
use Rattle.gpu_device.specs.declared.d3d12.event.ResourceRequest.{ResourceRequest}
use Rattle.gpu_device.specs.declared.d3d12.event.ResourceShape.{ResourceShape}
use Rattle.gpu_device.specs.declared.d3d12.event.ResourceShape.TheVariants as shapes
use Rattle.gpu_device.specs.declared.d3d12.types.ID3D12Resource.{ID3D12Resource}
use Rattle.gpu_d3d12.specs.declared.question.ResourceCreateDesc.{ResourceCreateDesc}
use Rattle.gpu_d3d12.specs.declared.question.CreateCall.{CreateCall}
use Rattle.gpu_d3d12.specs.declared.question.CreateCall.TheVariants.{InState, InLayout, InLayoutWithFormats}
use Rattle.gpu_d3d12.specs.declared.resource_answer.ResourceTexts.{ResourceTexts}
use Rattle.gpu_d3d12.specs.Question.{handed_on, desc1_of}

pub data ResourceAnswer : Type 0 where
  -- a resource was granted, under this number
  Granted : (number : ℕ) → ResourceAnswer
  -- it was refused, with a code; and the reason for which the device was removed, as it tells it after the answer
  Declined : (code reason : ℤ) → ResourceAnswer
  -- there was no error, and no resource
  Null : ResourceAnswer

-- what the device's answer results in, where it tells this reason
abbrev pub answer_of : Result (Option ID3D12Resource) ℤ → (reason : ℤ) → ResourceAnswer
answer_of (Ok (Some resource)) reason = Granted resource.0
answer_of (Ok None) reason = Null
answer_of (Err code) reason = Declined code reason

-- the number of the new resource, where there is one
abbrev pub resource_number : ResourceAnswer → Option ℕ
resource_number (Granted number) = Some number
resource_number (Declined code reason) = None
resource_number Null = None

-- the reason in the answer is the one that the device tells
abbrev pub IsReasonTold : (told : ℤ) → ResourceAnswer → Type 0
IsReasonTold told (Granted number) = Unit {0}
IsReasonTold told (Declined code reason) = reason ≡ told
IsReasonTold told Null = Unit {0}

-- the answer in the device's own words
abbrev pub told_answer : ResourceAnswer → Result (Option ID3D12Resource) ℤ
told_answer (Granted number) = Ok (Some (record { 0 = number }))
told_answer (Declined code reason) = Err code
told_answer Null = Ok None

-- what the resource is to be, as this question says it
abbrev pub shape_asked : CreateCall → ResourceCreateDesc → ResourceShape
shape_asked (InState state) d = shapes.InState d.resource_desc.now state
shape_asked (InLayout layout) d = shapes.InLayout (desc1_of d.resource_desc.now) layout None
shape_asked (InLayoutWithFormats layout) d = shapes.InLayout (desc1_of d.resource_desc.now) layout (Some d.castable_formats.now)

-- the whole question
abbrev pub request_asked : CreateCall → ResourceCreateDesc → ResourcePlace → ResourceRequest
request_asked question d place = record { place = place; shape = shape_asked question d; clear_value = option_copied d.clear_value }

-- the device was asked once for a resource that lies there, by this question, and answered so; the entry is the one that a new resource has
pub record AsksResource {D : Type 0} (g : Ghosts D) (old : D) (question : CreateCall) (d : ResourceCreateDesc) (place : ResourcePlace) (entry : Entry)
    (answer : ResourceAnswer) (new : D) : Type 0 where
  pub number : IsNew (g.held old) (resource_number answer)
  pub held : g.held new ≡ with_granted (g.held old) (resource_number answer) entry
  pub history : g.history new ≡ AskedResource (request_asked question d place) (told_answer answer) ∷ g.history old
  pub count : g.refused new ≡ counted (g.refused old) (resource_number answer)
  pub latest_heap : g.latest_heap new ≡ g.latest_heap old
  pub latest_formats : g.latest_formats new ≡ option_map length (handed_on question d.castable_formats.now)
  pub latest_clear : g.latest_clear new ≡ option_copied d.clear_value
  pub latest_memory : g.latest_memory new ≡ place_memory place
  pub constant : g.properties new ≡ g.properties old
  pub reason : IsReasonTold (g.removal_reason new) answer

-- the texts of a refused question
pub record Texts : Type 0 where
  pub removed : List ℕ
  pub failed : List ℕ

abbrev pub texts_of : ResourceTexts → Texts
texts_of t = record { removed = t.removed.now; failed = t.failed.now }

abbrev pub committed_texts : Texts
committed_texts = record {
  removed = codes "ID3D12Device::CreateCommittedResource DEVICE_REMOVED";
  failed = codes "ID3D12Device::CreateCommittedResource failed";
}

abbrev pub placed_texts : Texts
placed_texts = record {
  removed = codes "ID3D12Device::CreatePlacedResource DEVICE_REMOVED";
  failed = codes "ID3D12Device::CreatePlacedResource failed";
}

-- why a resource is refused with a code: the device was removed (`DXGI_ERROR_DEVICE_REMOVED`, 0x887a0005), for this reason, or there is another cause
abbrev pub code_refusal : Texts → (code reason : ℤ) → Refusal
code_refusal texts code reason = cond (int_eq code (neg_ℤ (pos 2005270523))) (internal texts.removed (Some reason)) (internal texts.failed (Some code))

-- why there is no resource, where the answer is a refusal
abbrev pub resource_refusal : Texts → ResourceAnswer → Option Refusal
resource_refusal texts (Granted number) = None
resource_refusal texts (Declined code reason) = Some (code_refusal texts code reason)
resource_refusal texts Null = Some (internal (codes "Allocation succeeded but no resource was returned?") None)

-- what the asker makes of the answer
abbrev pub Makes : Texts → Result ID3D12Resource AllocationError → ResourceAnswer → Type 0
Makes texts (Ok resource) answer = answer ≡ Granted resource.0
Makes texts (Err e) answer = resource_refusal texts answer ≡ Some (refusal_of e)
