-- What follows from all that a Vulkan device was asked and was given back, newest first.
use Rattle.std.specs.Prelude.{ℕ, ◌-◌, ◌^◌, ◌==◌, if◌then◌else◌, true, false, List, [], ◌∷◌, map, Option, Some, None, Ok, Err}
use Rattle.gpu_device.specs.Held.{raised}
use Rattle.gpu_device.specs.declared.refusal.Refusal.{Refusal}
use Rattle.gpu_device.specs.declared.vulkan.types.MemoryAllocateInfo.{MemoryAllocateInfo}
use Rattle.gpu_device.specs.declared.vulkan.event.Event.{Event}
use Rattle.gpu_device.specs.declared.vulkan.event.Event.TheVariants.{Scripted, Limited, AskedMemory, AskedMapping, Unmapped, Freed}

-- the count of refusals after one more event: a code and a null pointer are refusals
abbrev pub refused_after : Event → ℕ → ℕ
refused_after (Scripted question refusal) count = count
refused_after (Limited limit) count = count
refused_after (AskedMemory info (Ok memory)) count = count
refused_after (AskedMemory info (Err code)) count = raised count
refused_after (AskedMapping memory (Ok true)) count = count
refused_after (AskedMapping memory (Ok false)) count = raised count
refused_after (AskedMapping memory (Err code)) count = raised count
refused_after (Unmapped memory) count = count
refused_after (Freed memory) count = count

-- how many questions were refused
abbrev pub refused_in : List Event → ℕ
refused_in [] = 0
refused_in (event ∷ before) = refused_after event (refused_in before)

-- the latest question for memory after one more event
abbrev pub latest_after : Event → Option MemoryAllocateInfo → Option MemoryAllocateInfo
latest_after (Scripted question refusal) latest = latest
latest_after (Limited limit) latest = latest
latest_after (AskedMemory info answer) latest = Some info
latest_after (AskedMapping memory answer) latest = latest
latest_after (Unmapped memory) latest = latest
latest_after (Freed memory) latest = latest

-- the latest question for memory, granted or refused
abbrev pub latest_in : List Event → Option MemoryAllocateInfo
latest_in [] = None
latest_in (event ∷ before) = latest_after event (latest_in before)

-- ---- a script

-- the entries of a script, before any question
abbrev pub scripted : List (ℕ × Refusal) → List Event
scripted entries = map (λ e. Scripted e.0 e.1) entries

-- the refusal that the script has for a question after one more event: of two at one number the first counts
abbrev pub scripted_after : Event → ℕ → Option Refusal → Option Refusal
scripted_after (Scripted number refusal) question before = if number == question then Some refusal else before
scripted_after (Limited limit) question before = before
scripted_after (AskedMemory info answer) question before = before
scripted_after (AskedMapping memory answer) question before = before
scripted_after (Unmapped memory) question before = before
scripted_after (Freed memory) question before = before

-- the refusal that the script has for a question
abbrev pub scripted_in : List Event → ℕ → Option Refusal
scripted_in [] question = None
scripted_in (event ∷ before) question = scripted_after event question (scripted_in before question)

-- the count of questions after one more event
abbrev pub questions_after : Event → ℕ → ℕ
questions_after (Scripted number refusal) count = count
questions_after (Limited limit) count = count
questions_after (AskedMemory info answer) count = raised count
questions_after (AskedMapping memory answer) count = raised count
questions_after (Unmapped memory) count = count
questions_after (Freed memory) count = count

-- how many questions came
abbrev pub questions_in : List Event → ℕ
questions_in [] = 0
questions_in (event ∷ before) = questions_after event (questions_in before)

-- the refusal that the script has for the next question
abbrev pub next_scripted : List Event → Option Refusal
next_scripted events = scripted_in events (raised (questions_in events))

-- ---- a limit

-- the largest memory that is granted, in bytes, after one more event
abbrev pub limit_after : Event → ℕ → ℕ
limit_after (Scripted number refusal) before = before
limit_after (Limited limit) before = limit
limit_after (AskedMemory info answer) before = before
limit_after (AskedMapping memory answer) before = before
limit_after (Unmapped memory) before = before
limit_after (Freed memory) before = before

-- the largest memory that is granted, in bytes: any, where no event limits it
abbrev pub limit_in : List Event → ℕ
limit_in [] = 2 ^ 64 - 1
limit_in (event ∷ before) = limit_after event (limit_in before)
