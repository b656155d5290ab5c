-- Each question that a simulated device was asked ended as its script says, and its grants are numbered 1, 2 and so on.
use Rattle.std.specs.Prelude.{◌≡◌, ℕ, ◌+◌, List, [], ◌∷◌, Option}
use Rattle.gpu_device.specs.D3D12.{granted_heap, granted_resource}
use Rattle.gpu_device.specs.D3D12History.{scripted_in, questions_in, next_scripted}
use Rattle.gpu_device.specs.declared.d3d12.event.Event.{Event}
use Rattle.gpu_device.specs.declared.d3d12.event.Event.TheVariants.{Scripted, AskedHeap, AskedResource, ReleasedHeap, ReleasedResource}
use Rattle.gpu_device.specs.declared.refusal.Refusal.{Refusal}
use Rattle.gpu_sim_d3d12.specs.Objects.{IsAnswer, asked}
use Rattle.gpu_sim_base.specs.Script.{refusal_at}
use Rattle.gpu_sim_base.specs.declared.script.Script.{Script}

-- how many numbers were given out after one more event
abbrev pub issued_after : Event → ℕ → ℕ
issued_after (Scripted question refusal) count = count
issued_after (AskedHeap desc answer) count = asked count (granted_heap answer)
issued_after (AskedResource request answer) count = asked count (granted_resource answer)
issued_after (ReleasedHeap heap) count = count
issued_after (ReleasedResource resource) count = count

-- how many numbers were given out: one with each grant
abbrev pub issued_in : List Event → ℕ
issued_in [] = 0
issued_in (event ∷ before) = issued_after event (issued_in before)

-- an event, where the script has this for the next question, and a grant takes this number
abbrev pub Ends : Option Refusal → (number : ℕ) → Event → Type 0
Ends next number (Scripted question refusal) = Unit {0}
Ends next number (AskedHeap desc answer) = IsAnswer (λ heap. heap.0) next number answer
Ends next number (AskedResource request answer) = IsAnswer (λ resource. resource.0) next number answer
Ends next number (ReleasedHeap heap) = Unit {0}
Ends next number (ReleasedResource resource) = Unit {0}

-- Each question of a history, newest first, ended as the script in that history says; a granted one gave out the number behind all
-- that were given out before.
abbrev pub EndAsScripted : List Event → Type 0
EndAsScripted [] = Unit {0}
EndAsScripted (event ∷ before) = Ends (next_scripted before) (issued_in before + 1) event × EndAsScripted before

-- a script, and a history that begins with its entries
pub record Journaled : Type 0 where
  pub script : Script
  pub history : List Event

-- What holds of them at any time: the history has the script's entries, and each question ended as they say.
pub record IsKept (script : Script) (history : List Event) : Type 0 where
  pub entries : (question : ℕ) → scripted_in history question ≡ refusal_at script.entries.items question
  pub counted : script.questions ≡ questions_in history
  pub ended : EndAsScripted history
