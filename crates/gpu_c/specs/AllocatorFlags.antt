-- A request by flags behind a handle: what C says and is told.
use Rattle.std.specs.Prelude.{◌≡◌, ℕ, List, None, Ok, Err}
use Rattle.gpu_values.specs.Refusal.{refusal_of}
use Rattle.gpu_values.specs.declared.error.AllocationError.{AllocationError}
use Rattle.gpu_vulkan.specs.declared.describe.AllocationCreateDesc.{AllocationCreateDesc}
use Rattle.gpu_vulkan.specs.declared.preference.Preference.{Preference}
use Rattle.gpu_machine.specs.VulkanByFlags.{BeginsDown}
use Rattle.gpu_machine.specs.VulkanDescription.{description_of}
use Rattle.gpu_machine.specs.declared.vulkan.answer.Progress.{Progress}
use Rattle.gpu_c.specs.Allocator.{State, Says, progress_told}
use Rattle.gpu_c.specs.Status.{refusal_status}
use Rattle.gpu_c.specs.declared.allocator_values.AllocatorPreference.{AllocatorPreference}
use Rattle.gpu_c.specs.declared.allocator_values.AllocatorProgress.{AllocatorProgress}
use Rattle.gpu_c.specs.declared.allocator_values.AllocatorRequest.{AllocatorRequest}
use Rattle.gpu_c.specs.declared.mapped_memory.MappedMemory.{MappedMemory}

-- the flags that C says, as the machine is asked
abbrev pub preference_said : AllocatorPreference → Preference
preference_said f = record {
  required = record { 0 = f.required };
  preferred = record { 0 = f.preferred };
  avoided = record { 0 = f.avoided };
  never_allocate = f.never_allocate;
}

-- the request is begun: it leads to a piece or to a question
pub record IsBegunByFlags (old : State) (r : AllocatorRequest) (name : List ℕ) (f : AllocatorPreference) (out : AllocatorProgress) (new : State) : Type 0 where
  pub idle : old.requests.awaited ≡ None
  pub desc : AllocationCreateDesc
  pub says : Says r name (description_of desc)
  pub answer : Progress MappedMemory
  pub told : out ≡ progress_told answer
  pub begins : BeginsDown (preference_said f) old desc (Ok answer) new

-- the request says what the machine refuses, and with which status
pub record IsDeniedByFlags (s : State) (r : AllocatorRequest) (name : List ℕ) (f : AllocatorPreference) (code : ℕ) : Type 0 where
  pub idle : s.requests.awaited ≡ None
  pub desc : AllocationCreateDesc
  pub says : Says r name (description_of desc)
  pub cause : AllocationError
  pub code_is : code ≡ refusal_status (refusal_of cause)
  pub begins : BeginsDown (preference_said f) s desc (Err cause) s
