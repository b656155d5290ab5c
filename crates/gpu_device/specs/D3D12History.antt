-- What follows from all that a DirectX 12 device was asked and was given back, newest first.
use Rattle.std.specs.Prelude.{ℕ, ◌==◌, if◌then◌else◌, List, [], ◌∷◌, length, map, Option, Some, None, option_map}
use Rattle.gpu_device.specs.D3D12.{granted_heap, granted_resource}
use Rattle.gpu_device.specs.Granted.{counted}
use Rattle.gpu_device.specs.Held.{raised}
use Rattle.gpu_device.specs.declared.refusal.Refusal.{Refusal}
use Rattle.gpu_device.specs.declared.d3d12.types.ClearValue.{ClearValue}
use Rattle.gpu_device.specs.declared.d3d12.types.HeapDesc.{HeapDesc}
use Rattle.gpu_device.specs.declared.d3d12.types.HeapFlags.{HeapFlags}
use Rattle.gpu_device.specs.declared.d3d12.types.HeapProperties.{HeapProperties}
use Rattle.gpu_device.specs.declared.d3d12.event.Event.{Event}
use Rattle.gpu_device.specs.declared.d3d12.event.Event.TheVariants.{Scripted, AskedHeap, AskedResource, ReleasedHeap, ReleasedResource}
use Rattle.gpu_device.specs.declared.d3d12.event.ResourcePlace.{ResourcePlace}
use Rattle.gpu_device.specs.declared.d3d12.event.ResourcePlace.TheVariants.{Own, InHeap}
use Rattle.gpu_device.specs.declared.d3d12.event.ResourceRequest.{ResourceRequest}
use Rattle.gpu_device.specs.declared.d3d12.event.ResourceShape.{ResourceShape}
use Rattle.gpu_device.specs.declared.d3d12.event.ResourceShape.TheVariants.{InState, InLayout}

-- the count of refusals after one more event
abbrev pub refused_after : Event → ℕ → ℕ
refused_after (Scripted question refusal) count = count
refused_after (AskedHeap desc answer) count = counted count (granted_heap answer)
refused_after (AskedResource request answer) count = counted count (granted_resource answer)
refused_after (ReleasedHeap heap) count = count
refused_after (ReleasedResource resource) count = count

-- how many questions were refused
abbrev pub refused_in : List Event → ℕ
refused_in [] = 0
refused_in (event ∷ before) = refused_after event (refused_in before)

-- the latest question for a heap after one more event
abbrev pub latest_heap_after : Event → Option HeapDesc → Option HeapDesc
latest_heap_after (Scripted question refusal) latest = latest
latest_heap_after (AskedHeap desc answer) latest = Some desc
latest_heap_after (AskedResource request answer) latest = latest
latest_heap_after (ReleasedHeap heap) latest = latest
latest_heap_after (ReleasedResource resource) latest = latest

-- the latest question for a heap, granted or refused
abbrev pub latest_heap_in : List Event → Option HeapDesc
latest_heap_in [] = None
latest_heap_in (event ∷ before) = latest_heap_after event (latest_heap_in before)

-- the latest question for a resource after one more event
abbrev pub latest_resource_after : Event → Option ResourceRequest → Option ResourceRequest
latest_resource_after (Scripted question refusal) latest = latest
latest_resource_after (AskedHeap desc answer) latest = latest
latest_resource_after (AskedResource request answer) latest = Some request
latest_resource_after (ReleasedHeap heap) latest = latest
latest_resource_after (ReleasedResource resource) latest = latest

-- the latest question for a resource, granted or refused
abbrev pub latest_resource_in : List Event → Option ResourceRequest
latest_resource_in [] = None
latest_resource_in (event ∷ before) = latest_resource_after event (latest_resource_in before)

-- ---- what a question for a resource names

-- how many castable formats come with it, where a list of them comes
abbrev pub shape_formats : ResourceShape → Option ℕ
shape_formats (InState desc state) = None
shape_formats (InLayout desc layout formats) = option_map length formats

abbrev pub request_formats : Option ResourceRequest → Option ℕ
request_formats None = None
request_formats (Some request) = shape_formats request.shape

abbrev pub request_clear : Option ResourceRequest → Option ClearValue
request_clear None = None
request_clear (Some request) = request.clear_value

-- the heap properties and flags of a resource in memory of its own
abbrev pub place_memory : ResourcePlace → Option (HeapProperties × HeapFlags)
place_memory (Own properties flags) = Some (properties, flags)
place_memory (InHeap heap offset) = None

abbrev pub request_memory : Option ResourceRequest → Option (HeapProperties × HeapFlags)
request_memory None = None
request_memory (Some request) = place_memory request.place

-- ---- a script

-- the entries of a script, before any question
abbrev pub scripted : List (ℕ × Refusal) → List Event
scripted entries = map (λ e. Scripted e.0 e.1) entries

-- the refusal that the script has for a question after one more event: of two at one number the first counts
abbrev pub scripted_after : Event → ℕ → Option Refusal → Option Refusal
scripted_after (Scripted number refusal) question before = if number == question then Some refusal else before
scripted_after (AskedHeap desc answer) question before = before
scripted_after (AskedResource request answer) question before = before
scripted_after (ReleasedHeap heap) question before = before
scripted_after (ReleasedResource resource) question before = before

-- the refusal that the script has for a question
abbrev pub scripted_in : List Event → ℕ → Option Refusal
scripted_in [] question = None
scripted_in (event ∷ before) question = scripted_after event question (scripted_in before question)

-- the count of questions after one more event
abbrev pub questions_after : Event → ℕ → ℕ
questions_after (Scripted number refusal) count = count
questions_after (AskedHeap desc answer) count = raised count
questions_after (AskedResource request answer) count = raised count
questions_after (ReleasedHeap heap) count = count
questions_after (ReleasedResource resource) count = count

-- how many questions came
abbrev pub questions_in : List Event → ℕ
questions_in [] = 0
questions_in (event ∷ before) = questions_after event (questions_in before)

-- the refusal that the script has for the next question
abbrev pub next_scripted : List Event → Option Refusal
next_scripted events = scripted_in events (raised (questions_in events))
