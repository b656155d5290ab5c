-- Each question that a simulated device was asked ended as its script and its limit say.
use Rattle.std.specs.Prelude.{◌≡◌, ℕ, ◌⊎◌, ℤ, Bool, true, false, List, [], ◌∷◌, Option, Some, None, Result, Ok, Err}
use Rattle.gpu_device.specs.VulkanHistory.{scripted_in, questions_in, next_scripted, limit_in}
use Rattle.gpu_device.specs.declared.refusal.Refusal.{Refusal}
use Rattle.gpu_device.specs.declared.refusal.Refusal.TheVariants.{Code, Null}
use Rattle.gpu_device.specs.declared.vulkan.event.Event.{Event}
use Rattle.gpu_device.specs.declared.vulkan.event.Event.TheVariants.{Scripted, Limited, AskedMemory, AskedMapping, Unmapped, Freed}
use Rattle.gpu_device.specs.declared.vulkan.types.DeviceMemory.{DeviceMemory}
use Rattle.gpu_sim.specs.Plan.{out_of_host_memory, mapping_failed, code_for_memory}
use Rattle.gpu_sim_base.specs.Script.{refusal_at}
use Rattle.gpu_sim_base.specs.declared.script.Script.{Script}

-- How a question for memory ends: with the code that script or limit refuse it by; where they refuse nothing, by a grant, or because
-- the host refused memory.
abbrev pub EndsMemory : Option ℤ → Result DeviceMemory ℤ → Type 0
EndsMemory (Some code) answer = answer ≡ Err code
EndsMemory None (Ok memory) = Unit {0}
EndsMemory None (Err code) = code ≡ out_of_host_memory

-- How a question for a mapping ends: as the script says; where it says nothing, by a grant, or because it is too large for the host.
abbrev pub EndsMapping : Option Refusal → Result Bool ℤ → Type 0
EndsMapping (Some (Code code)) answer = answer ≡ Err code
EndsMapping (Some Null) answer = answer ≡ Ok false
EndsMapping None (Ok true) = Unit {0}
EndsMapping None (Ok false) = ⊥
EndsMapping None (Err code) = (code ≡ mapping_failed) ⊎ (code ≡ out_of_host_memory)

-- an event, where the script has this for the next question, and memory above the limit is refused
abbrev pub Ends : Option Refusal → (limit : ℕ) → Event → Type 0
Ends next limit (Scripted question refusal) = Unit {0}
Ends next limit (Limited to) = Unit {0}
Ends next limit (AskedMemory info answer) = EndsMemory (code_for_memory next info.size limit) answer
Ends next limit (AskedMapping memory answer) = EndsMapping next answer
Ends next limit (Unmapped memory) = Unit {0}
Ends next limit (Freed memory) = Unit {0}

-- Each question of a history, newest first, ended as the script and the limit in that history say.
abbrev pub EndAsScripted : List Event → Type 0
EndAsScripted [] = Unit {0}
EndAsScripted (event ∷ before) = Ends (next_scripted before) (limit_in before) event × EndAsScripted before

-- a script, the largest memory that is granted, in bytes, and a history that begins with both
pub record Journaled : Type 0 where
  pub limit : ℕ
  pub script : Script
  pub history : List Event

-- What holds of them at any time: the history has the limit and the script's entries, and each question ended as they say.
pub record IsKept (limit : ℕ) (script : Script) (history : List Event) : Type 0 where
  pub limited : limit ≡ limit_in history
  pub entries : (question : ℕ) → scripted_in history question ≡ refusal_at script.entries.items question
  pub counted : script.questions ≡ questions_in history
  pub ended : EndAsScripted history
