-- What follows from all that a Metal device was asked and was given back, newest first.
use Rattle.std.specs.Prelude.{ℕ, ◌==◌, if◌then◌else◌, Bool, true, false, List, [], ◌∷◌, map, Option, Some, None}
use Rattle.gpu_device.specs.Granted.{counted}
use Rattle.gpu_device.specs.Held.{raised}
use Rattle.gpu_device.specs.Metal.{granted_heap, granted_set}
use Rattle.gpu_device.specs.declared.refusal.Refusal.{Refusal}
use Rattle.gpu_device.specs.declared.metal.types.HeapDescriptor.{HeapDescriptor}
use Rattle.gpu_device.specs.declared.metal.event.Event.{Event}
use Rattle.gpu_device.specs.declared.metal.event.Event.TheVariants.{Scripted, WithoutSets, AskedHeap, AskedSet, ReleasedHeap, Added, Removed, Committed}

-- the count of refusals after one more event
abbrev pub refused_after : Event → ℕ → ℕ
refused_after (Scripted question refusal) count = count
refused_after WithoutSets count = count
refused_after (AskedHeap desc size answer) count = counted count (granted_heap answer)
refused_after (AskedSet answer) count = counted count (granted_set answer)
refused_after (ReleasedHeap heap) count = count
refused_after (Added set heap) count = count
refused_after (Removed set heap) count = count
refused_after (Committed set) count = count

-- how many questions were refused
abbrev pub refused_in : List Event → ℕ
refused_in [] = 0
refused_in (event ∷ before) = refused_after event (refused_in before)

-- the latest question for a heap after one more event
abbrev pub latest_heap_after : Event → Option (HeapDescriptor × ℕ) → Option (HeapDescriptor × ℕ)
latest_heap_after (Scripted question refusal) latest = latest
latest_heap_after WithoutSets latest = latest
latest_heap_after (AskedHeap desc size answer) latest = Some (desc, size)
latest_heap_after (AskedSet answer) latest = latest
latest_heap_after (ReleasedHeap heap) latest = latest
latest_heap_after (Added set heap) latest = latest
latest_heap_after (Removed set heap) latest = latest
latest_heap_after (Committed set) latest = latest

-- the latest question for a heap, its description and its size in bytes, granted or refused
abbrev pub latest_heap_in : List Event → Option (HeapDescriptor × ℕ)
latest_heap_in [] = None
latest_heap_in (event ∷ before) = latest_heap_after event (latest_heap_in before)

-- ---- a script

-- the entries of a script, before any question
abbrev pub scripted : List (ℕ × Refusal) → List Event
scripted entries = map (λ e. Scripted e.0 e.1) entries

-- the refusal that the script has for a question after one more event: of two at one number the first counts
abbrev pub scripted_after : Event → ℕ → Option Refusal → Option Refusal
scripted_after (Scripted number refusal) question before = if number == question then Some refusal else before
scripted_after WithoutSets question before = before
scripted_after (AskedHeap desc size answer) question before = before
scripted_after (AskedSet answer) question before = before
scripted_after (ReleasedHeap heap) question before = before
scripted_after (Added set heap) question before = before
scripted_after (Removed set heap) question before = before
scripted_after (Committed set) question before = before

-- the refusal that the script has for a question
abbrev pub scripted_in : List Event → ℕ → Option Refusal
scripted_in [] question = None
scripted_in (event ∷ before) question = scripted_after event question (scripted_in before question)

-- the count of questions after one more event
abbrev pub questions_after : Event → ℕ → ℕ
questions_after (Scripted number refusal) count = count
questions_after WithoutSets count = count
questions_after (AskedHeap desc size answer) count = raised count
questions_after (AskedSet answer) count = raised count
questions_after (ReleasedHeap heap) count = count
questions_after (Added set heap) count = count
questions_after (Removed set heap) count = count
questions_after (Committed set) count = count

-- how many questions came
abbrev pub questions_in : List Event → ℕ
questions_in [] = 0
questions_in (event ∷ before) = questions_after event (questions_in before)

-- the refusal that the script has for the next question
abbrev pub next_scripted : List Event → Option Refusal
next_scripted events = scripted_in events (raised (questions_in events))

-- ---- residency sets

-- whether the device makes residency sets, after one more event
abbrev pub sets_after : Event → Bool → Bool
sets_after (Scripted number refusal) before = before
sets_after WithoutSets before = false
sets_after (AskedHeap desc size answer) before = before
sets_after (AskedSet answer) before = before
sets_after (ReleasedHeap heap) before = before
sets_after (Added set heap) before = before
sets_after (Removed set heap) before = before
sets_after (Committed set) before = before

-- whether the device makes residency sets: it does, where no event says otherwise
abbrev pub sets_in : List Event → Bool
sets_in [] = true
sets_in (event ∷ before) = sets_after event (sets_in before)
