-- What decides the answers of a simulated device, beside what it holds.
use Rattle.std.specs.Prelude.{ℕ, ◌+◌, ◌^◌, ℤ, pos, neg_ℤ, Bool, false, nat_lt, if◌then◌else◌, List, Option, Some, None, Result, Ok, Err}
use Rattle.gpu_device.specs.Held.{raised}
use Rattle.gpu_device.specs.Properties.{Properties}
use Rattle.gpu_device.specs.declared.refusal.Refusal.{Refusal}
use Rattle.gpu_device.specs.declared.refusal.Refusal.TheVariants.{Code, Null}
use Rattle.gpu_sim_base.specs.Script.{refusal_at}

pub record Plan : Type 0 where
  pub properties : Properties
  -- no memory is larger
  pub limit : ℕ
  pub script : List (ℕ × Refusal)
  -- how many questions came
  pub questions : ℕ
  -- how many numbers were given out
  pub issued : ℕ

-- the plan after a question
abbrev pub asked : Plan → Plan
asked plan = record plan { questions = raised plan.questions }

-- the plan after a granted question for memory
abbrev pub given : Plan → Plan
given plan = record plan { questions = raised plan.questions; issued = plan.issued + 1 }

-- the refusal that the script has for the next question
abbrev pub next_refusal : Plan → Option Refusal
next_refusal plan = refusal_at plan.script (raised plan.questions)

-- `VK_ERROR_OUT_OF_HOST_MEMORY`
abbrev pub out_of_host_memory : ℤ
out_of_host_memory = neg_ℤ (pos 1)

-- `VK_ERROR_OUT_OF_DEVICE_MEMORY`
abbrev pub out_of_device_memory : ℤ
out_of_device_memory = neg_ℤ (pos 2)

-- `VK_ERROR_MEMORY_MAP_FAILED`
abbrev pub mapping_failed : ℤ
mapping_failed = neg_ℤ (pos 5)

-- the code of a refused question for memory, where the script or the limit refuse it; a null answer acts as a code
abbrev pub code_for_memory : Option Refusal → ℕ → ℕ → Option ℤ
code_for_memory (Some (Code code)) size limit = Some code
code_for_memory (Some Null) size limit = Some out_of_device_memory
code_for_memory None size limit = if nat_lt limit size then Some out_of_device_memory else None

-- the answer of a refused question for a mapping, where the script or the size refuse it
abbrev pub answer_for_mapping : Option Refusal → ℕ → Option (Result Bool ℤ)
answer_for_mapping (Some (Code code)) size = Some (Err code)
answer_for_mapping (Some Null) size = Some (Ok false)
answer_for_mapping None size = if nat_lt size (2 ^ 63) then None else Some (Err mapping_failed)

-- the code with which the plan refuses the next question, if it is for memory of this size
abbrev pub planned_code : Plan → ℕ → Option ℤ
planned_code plan size = code_for_memory (next_refusal plan) size plan.limit

-- the answer with which the plan refuses the next question, if it is for a mapping of this size
abbrev pub planned_answer : Plan → ℕ → Option (Result Bool ℤ)
planned_answer plan size = answer_for_mapping (next_refusal plan) size
