-- A request by flags: the cheapest memory type that serves is tried first, then the others, while one lacks room.
use Rattle.std.specs.Prelude.{◌≡◌, ℕ, Bool, true, false, Option, Some, None, Result, Ok, Err}
use Rattle.gpu_values.specs.Refusal.{Refusal, refusal_of, no_compatible_memory_type_found, invalid_allocation_create_desc}
use Rattle.gpu_values.specs.declared.error.AllocationError.{AllocationError}
use Rattle.gpu_pool.specs.RequestState.{answer_awaited}
use Rattle.gpu_pool.specs.declared.requests.Awaited.{Awaited}
use Rattle.gpu_vulkan.specs.Allocate.{is_valid}
use Rattle.gpu_vulkan.specs.Preference.{IsCheapest}
use Rattle.gpu_vulkan.specs.declared.describe.AllocationCreateDesc.{AllocationCreateDesc}
use Rattle.gpu_vulkan.specs.declared.preference.Preference.{Preference}
use Rattle.gpu_machine.specs.VulkanAttempt.{Attempts, Places}
use Rattle.gpu_machine.specs.VulkanDescription.{Description, description_of, without}
use Rattle.gpu_machine.specs.VulkanRoom.{lacks_room}
use Rattle.gpu_machine.specs.VulkanState.{State, IsRefused}
use Rattle.gpu_machine.specs.declared.vulkan.answer.Progress.{Progress}
use Rattle.gpu_machine.specs.declared.vulkan.asking.Asking.{Asking}
use Rattle.gpu_machine.specs.declared.vulkan.smaller_blocks.Portion.TheVariants as portion

-- what is kept while the t-th memory type's block is awaited: the request for the others
abbrev pub asking_by_flags : Preference → (t : ℕ) → Description → Asking
asking_by_flags p t k = record { description = without t k; is_second = false; preference = Some p; portion = portion.Whole }

-- the answer isn't for lack of room
abbrev pub IsSettled : {H : Type 0} → Result (Progress H) AllocationError → Type 0
IsSettled (Ok found) = Unit {0}
IsSettled (Err e) = lacks_room (refusal_of e) ≡ false

module _ {H : Type 0} (p : Preference) where
  -- an attempt at the t-th memory type: no block is asked for where that is forbidden
  abbrev pub AttemptsIf : (never_allocate : Bool) → State H → (t : ℕ) → Description → Result (Progress H) AllocationError → State H → Type 0
  AttemptsIf true old t k result new = Places old t k result new
  AttemptsIf false old t k result new = Attempts old t k (asking_by_flags p t k) result new

  abbrev pub AttemptsBy : State H → (t : ℕ) → Description → Result (Progress H) AllocationError → State H → Type 0
  AttemptsBy old t k result new = AttemptsIf p.never_allocate old t k result new

  -- the memory types that serve are tried from the cheapest on; before them the last one was refused for this cause
  pub data GoesDown (old : State H) (result : Result (Progress H) AllocationError) (new : State H) : Description → (last : Refusal) → Type 0 where
    -- none is left
    ends : {k : Description} {last : Refusal} → IsCheapest old.setup.properties.types k.requirements.memory_type_bits p None → IsRefused last old result new → GoesDown old result new k last
    -- the cheapest has room, or the request is refused for another cause
    settles : {k : Description} {last : Refusal} (t : ℕ) → IsCheapest old.setup.properties.types k.requirements.memory_type_bits p (Some t) → AttemptsBy old t k result new → IsSettled result
        → GoesDown old result new k last
    -- the cheapest has no room: the others are tried
    goes_on : {k : Description} {last : Refusal} (t : ℕ) (cause : AllocationError) → IsCheapest old.setup.properties.types k.requirements.memory_type_bits p (Some t)
        → AttemptsBy old t k (Err cause) old → lacks_room (refusal_of cause) ≡ true → GoesDown old result new (without t k) (refusal_of cause) → GoesDown old result new k last

  -- the block of the cheapest so far was refused for this cause: for lack of room the others are tried
  abbrev pub FollowsIf : (lacks : Bool) → State H → Description → Refusal → Result (Progress H) AllocationError → State H → Type 0
  FollowsIf false old k refusal result new = IsRefused refusal old result new
  FollowsIf true old k refusal result new = GoesDown old result new k refusal

  abbrev pub FollowsDown : State H → Description → Refusal → Result (Progress H) AllocationError → State H → Type 0
  FollowsDown old k refusal result new = FollowsIf (lacks_room refusal) old k refusal result new

  abbrev pub BeginsDownBy : (valid : Bool) → State H → Description → Result (Progress H) AllocationError → State H → Type 0
  BeginsDownBy false old k result new = IsRefused invalid_allocation_create_desc old result new
  BeginsDownBy true old k result new = GoesDown old result new k no_compatible_memory_type_found

  abbrev pub BeginsDownIn : Option Awaited → State H → AllocationCreateDesc → Result (Progress H) AllocationError → State H → Type 0
  BeginsDownIn (Some _) old d result new = IsRefused answer_awaited old result new
  BeginsDownIn None old d result new = BeginsDownBy (is_valid d) old (description_of d) result new

  -- a request by flags is begun where no question is open
  abbrev pub BeginsDown : State H → AllocationCreateDesc → Result (Progress H) AllocationError → State H → Type 0
  BeginsDown old d result new = BeginsDownIn old.requests.awaited old d result new
