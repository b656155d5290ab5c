-- What a request at Vulkan's machine leads to: a piece, a refusal, or a question; and what the answers to it do.
use Rattle.std.specs.Prelude.{◌≡◌, ℕ, ◌⊎◌, Bool, true, false, if◌then◌else◌, Option, Some, None, Result, Ok, Err, IsOk}
use Rattle.gpu_values.specs.Refusal.{Refusal, refusal_of, no_compatible_memory_type_found, invalid_allocation_create_desc}
use Rattle.gpu_values.specs.declared.error.AllocationError.{AllocationError}
use Rattle.gpu_pool.specs.Allocate.{RequestAt}
use Rattle.gpu_pool.specs.Begin as pools
use Rattle.gpu_pool.specs.RequestState.{answer_awaited, no_answer_awaited}
use Rattle.gpu_pool.specs.declared.requests.Awaited.{Awaited}
use Rattle.gpu_pool.specs.declared.requests.Question.{Question}
use Rattle.gpu_vulkan.specs.Allocate.{next_type, is_valid}
use Rattle.gpu_vulkan.specs.Choice.{best_type}
use Rattle.gpu_vulkan.specs.Describe.{requests_dedicated, request_of}
use Rattle.gpu_vulkan.specs.Setup.{Setup}
use Rattle.gpu_vulkan.specs.Types.{is_mapped}
use Rattle.gpu_vulkan.specs.declared.describe.AllocationCreateDesc.{AllocationCreateDesc}
use Rattle.gpu_vulkan.specs.declared.preference.Preference.{Preference}
use Rattle.gpu_machine.specs.VulkanAttempt.{Attempts, AttemptsSized, IsAboveHeap, BeginsWithinHeap}
use Rattle.gpu_machine.specs.VulkanByFlags.{FollowsDown}
use Rattle.gpu_machine.specs.VulkanDescription.{description_of}
use Rattle.gpu_machine.specs.VulkanSmallerBlocks.{sizes_in, smaller_sizes, smaller_portion}
use Rattle.gpu_machine.specs.VulkanState.{State, IsRefused}
use Rattle.gpu_machine.specs.declared.vulkan.answer.Allocated.{Allocated}
use Rattle.gpu_machine.specs.declared.vulkan.answer.Progress.{Progress}
use Rattle.gpu_machine.specs.declared.vulkan.asking.Asking.{Asking}
use Rattle.gpu_machine.specs.declared.vulkan.smaller_blocks.Portion.{Portion}
use Rattle.gpu_machine.specs.declared.vulkan.smaller_blocks.Portion.TheVariants as portion

-- ---- one attempt

-- what the t-th memory type is asked for
abbrev pub request_in : (t : ℕ) → AllocationCreateDesc → RequestAt (Unit {0})
request_in t d = record { memory_type = t; requested_dedicated = requests_dedicated d.allocation_scheme; request = request_of d; extra = tt }

-- what is kept of the request where its question is open
abbrev pub asking_of : AllocationCreateDesc → (is_second : Bool) → Asking
asking_of d is_second = record { description = description_of d; is_second = is_second; preference = None; portion = portion.Whole }

-- the memory type that is asked after a refusal of the awaited block: none after the second attempt
abbrev pub next_for : Setup → (is_second : Bool) → AllocationCreateDesc → Refusal → Option ℕ
next_for setup is_second d refusal = if is_second then None else next_type setup d refusal

module _ {H : Type 0} where
  -- the request is above its heap: no block is looked at
  abbrev pub IsTooLarge : State H → (t : ℕ) → AllocationCreateDesc → Result (Progress H) AllocationError → State H → Type 0
  IsTooLarge old t d result new = IsAboveHeap old t (description_of d) result new

  -- the request is within its heap, and its memory type allocates a piece, asks, or refuses it
  abbrev pub IsWithinHeap : State H → (t : ℕ) → AllocationCreateDesc → (is_second : Bool) → Result (Progress H) AllocationError → State H → Type 0
  IsWithinHeap old t d is_second result new = BeginsWithinHeap (sizes_in old t) old t (description_of d) (asking_of d is_second) result new

  -- an attempt at the t-th memory type, up to its question
  abbrev pub Tries : State H → (t : ℕ) → AllocationCreateDesc → (is_second : Bool) → Result (Progress H) AllocationError → State H → Type 0
  Tries old t d is_second result new = Attempts old t (description_of d) (asking_of d is_second) result new

  -- ---- two attempts

  -- after a refusal the second attempt counts, where there is one
  abbrev pub Follows : State H → AllocationCreateDesc → Option ℕ → Refusal → Result (Progress H) AllocationError → State H → Type 0
  Follows old d None refusal result new = IsRefused refusal old result new
  Follows old d (Some t) refusal result new = Tries old t d true result new

  -- the first attempt is refused without a question, and so the second counts, where there is one
  pub record IsDenied (old : State H) (t : ℕ) (d : AllocationCreateDesc) (result : Result (Progress H) AllocationError) (new : State H) : Type 0 where
    pub cause : AllocationError
    pub tries : Tries old t d false (Err cause) old
    pub follows : Follows old d (next_type old.setup d (refusal_of cause)) (refusal_of cause) result new

  -- the attempts that begin at the t-th memory type, up to the first question
  abbrev pub MakesAttempts : State H → (t : ℕ) → AllocationCreateDesc → Result (Progress H) AllocationError → State H → Type 0
  MakesAttempts old t d result new = (IsOk result × Tries old t d false result new) ⊎ IsDenied old t d result new

  -- ---- begin

  abbrev pub BeginsAt : Option ℕ → State H → AllocationCreateDesc → Result (Progress H) AllocationError → State H → Type 0
  BeginsAt None old d result new = IsRefused no_compatible_memory_type_found old result new
  BeginsAt (Some t) old d result new = MakesAttempts old t d result new

  abbrev pub BeginsBy : (valid : Bool) → State H → AllocationCreateDesc → Result (Progress H) AllocationError → State H → Type 0
  BeginsBy false old d result new = IsRefused invalid_allocation_create_desc old result new
  BeginsBy true old d result new = BeginsAt (best_type old.setup.properties.types d.requirements.memory_type_bits d.location) old d result new

  abbrev pub BeginsIn : Option Awaited → State H → AllocationCreateDesc → Result (Progress H) AllocationError → State H → Type 0
  BeginsIn (Some _) old d result new = IsRefused answer_awaited old result new
  BeginsIn None old d result new = BeginsBy (is_valid d) old d result new

  -- a request is begun where no question is open
  abbrev pub Begins : State H → AllocationCreateDesc → Result (Progress H) AllocationError → State H → Type 0
  Begins old d result new = BeginsIn old.requests.awaited old d result new

  -- ---- the answers

  -- no question is open
  abbrev pub closed : State H → State H
  closed s = record s { requests = record s.requests { awaited = None }; asking = None }

  -- the memory is the awaited block, which stands in its slot with the piece in it
  pub record Receives (a : Awaited) (old : State H) (handle : H) (given : Allocated H) (new : State H) : Type 0 where
    pub receives : pools.Receives a old.requests handle given.piece new.requests
    pub memory_type : given.memory_type ≡ a.memory_type
    pub mapped : given.mapped ≡ is_mapped old.setup.properties a.memory_type
    pub state : new ≡ record old { requests = new.requests; asking = None }

  abbrev pub GrantsIn : Option Awaited → State H → H → Result (Allocated H) AllocationError → State H → Type 0
  GrantsIn None old handle result new = IsRefused no_answer_awaited old result new
  GrantsIn (Some a) old handle (Ok given) new = Receives a old handle given new
  GrantsIn (Some a) old handle (Err e) new = ⊥

  -- the driver granted the memory
  abbrev pub Grants : State H → H → Result (Allocated H) AllocationError → State H → Type 0
  Grants old handle result new = GrantsIn old.requests.awaited old handle result new

  -- what counts after a refusal of the block of this request: by location the second attempt, by flags the memory types that are left
  abbrev pub GoesOnBy : Option Preference → (is_second : Bool) → State H → AllocationCreateDesc → Refusal → Result (Progress H) AllocationError → State H → Type 0
  GoesOnBy None is_second old d refusal result new = Follows old d (next_for old.setup is_second d refusal) refusal result new
  GoesOnBy (Some p) is_second old d refusal result new = FollowsDown p old (description_of d) refusal result new

  abbrev pub GoesOnFor : Asking → State H → AllocationCreateDesc → Refusal → Result (Progress H) AllocationError → State H → Type 0
  GoesOnFor r old d refusal result new = GoesOnBy r.preference r.is_second old d refusal result new

  -- an attempt by a smaller block than the one that was refused, of the same memory type
  abbrev pub TriesSmaller : Asking → Question → Portion → State H → Result (Progress H) AllocationError → State H → Type 0
  TriesSmaller r block p old result new = AttemptsSized (smaller_sizes old block) old block.memory_type r.description (record r { portion = p }) result new

  -- the smaller block isn't asked for, and what is left of the request counts
  pub record IsDeniedSmaller (r : Asking) (block : Question) (p : Portion) (old : State H) (d : AllocationCreateDesc) (result : Result (Progress H) AllocationError) (new : State H) : Type 0 where
    pub cause : AllocationError
    pub tries : TriesSmaller r block p old (Err cause) old
    pub follows : GoesOnFor r old d (refusal_of cause) result new

  -- a smaller block counts, where one is to be tried
  abbrev pub ShrinksTo : Option Portion → Asking → Question → State H → AllocationCreateDesc → Refusal → Result (Progress H) AllocationError → State H → Type 0
  ShrinksTo None r block old d refusal result new = GoesOnFor r old d refusal result new
  ShrinksTo (Some p) r block old d refusal result new = (IsOk result × TriesSmaller r block p old result new) ⊎ IsDeniedSmaller r block p old d result new

  abbrev pub Shrinks : Asking → Question → State H → AllocationCreateDesc → Refusal → Result (Progress H) AllocationError → State H → Type 0
  Shrinks r block old d refusal result new = ShrinksTo (smaller_portion old.smaller_blocks r.portion block r.description.requirements.size refusal) r block old d refusal result new

  -- the same of each description that says what the kept one does
  pub record GoesOn (r : Asking) (block : Question) (old : State H) (refusal : Refusal) (result : Result (Progress H) AllocationError) (new : State H) : Type 0 where
    pub kept : old.asking ≡ Some r
    pub follows : (d : AllocationCreateDesc) → description_of d ≡ r.description → Shrinks r block (closed old) d refusal result new

  abbrev pub DeclinesIn : Option Awaited → State H → Refusal → Result (Progress H) AllocationError → State H → Type 0
  DeclinesIn None old refusal result new = IsRefused no_answer_awaited old result new
  DeclinesIn (Some a) old refusal result new = (r : Asking) × GoesOn r (pools.question_of a) old refusal result new

  -- the driver refused the memory or its mapping for this cause
  abbrev pub Declines : State H → Refusal → Result (Progress H) AllocationError → State H → Type 0
  Declines old refusal result new = DeclinesIn old.requests.awaited old refusal result new
