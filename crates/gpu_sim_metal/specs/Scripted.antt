-- Each question that a simulated device was asked ended as its script says, and its grants are numbered 1, 2 and so on.
use Rattle.std.specs.Prelude.{◌≡◌, ℕ, ◌+◌, Bool, true, false, List, [], ◌∷◌, Option}
use Rattle.gpu_device.specs.Metal.{granted_heap, granted_set}
use Rattle.gpu_device.specs.MetalHistory.{scripted, scripted_in, questions_in, next_scripted, sets_in}
use Rattle.gpu_device.specs.declared.metal.event.Event.{Event}
use Rattle.gpu_device.specs.declared.metal.event.Event.TheVariants.{Scripted, WithoutSets, AskedHeap, AskedSet, ReleasedHeap, Added, Removed, Committed}
use Rattle.gpu_device.specs.declared.refusal.Refusal.{Refusal}
use Rattle.gpu_sim_base.specs.Script.{refusal_at}
use Rattle.gpu_sim_base.specs.declared.script.Script.{Script}
use Rattle.gpu_sim_metal.specs.Answer.{asked, IsHeapAnswer, IsSetAnswer}

-- what a device is told before any question: its script, and where it makes no residency sets, that
abbrev pub told : (residency : Bool) → List (ℕ × Refusal) → List Event
told true entries = scripted entries
told false entries = WithoutSets ∷ scripted entries

-- how many numbers were given out after one more event
abbrev pub issued_after : Event → ℕ → ℕ
issued_after (Scripted question refusal) count = count
issued_after WithoutSets count = count
issued_after (AskedHeap desc size answer) count = asked count (granted_heap answer)
issued_after (AskedSet answer) count = asked count (granted_set answer)
issued_after (ReleasedHeap heap) count = count
issued_after (Added set heap) count = count
issued_after (Removed set heap) count = count
issued_after (Committed set) count = count

-- how many numbers were given out: one with each grant
abbrev pub issued_in : List Event → ℕ
issued_in [] = 0
issued_in (event ∷ before) = issued_after event (issued_in before)

-- an event, where the script has this for the next question, there are residency sets or not, and a grant takes this number
abbrev pub Ends : Option Refusal → (residency : Bool) → (number : ℕ) → Event → Type 0
Ends next residency number (Scripted question refusal) = Unit {0}
Ends next residency number WithoutSets = Unit {0}
Ends next residency number (AskedHeap desc size answer) = IsHeapAnswer next number answer
Ends next residency number (AskedSet answer) = IsSetAnswer residency next number answer
Ends next residency number (ReleasedHeap heap) = Unit {0}
Ends next residency number (Added set heap) = Unit {0}
Ends next residency number (Removed set heap) = Unit {0}
Ends next residency number (Committed set) = Unit {0}

-- Each question of a history, newest first, ended as the device was told in that history; a granted one gave out the number behind
-- all that were given out before.
abbrev pub EndAsScripted : List Event → Type 0
EndAsScripted [] = Unit {0}
EndAsScripted (event ∷ before) = Ends (next_scripted before) (sets_in before) (issued_in before + 1) event × EndAsScripted before

-- a script, and a history that begins with its entries
pub record Journaled : Type 0 where
  pub script : Script
  pub history : List Event

-- What holds of them at any time: the history has the script's entries, and each question ended as they say.
pub record IsKept (script : Script) (history : List Event) : Type 0 where
  pub entries : (question : ℕ) → scripted_in history question ≡ refusal_at script.entries.items question
  pub counted : script.questions ≡ questions_in history
  pub ended : EndAsScripted history
