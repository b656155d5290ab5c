-- An allocation: which memory types are asked, and what each attempt results in.
use Rattle.std.specs.Prelude.{◌≡◌, ℕ, ◌<◌, ◌≤◌, ◌⊎◌, ◌==◌, ◌&&◌, not, Bool, true, false, if◌then◌else◌, Option, Some, None, Result, Ok, Err}
use Rattle.std.specs.Int.{is_power_of_two}
use Rattle.gpu_values.specs.Refusal.{Refusal, refusal_of, refusal_in, out_of_memory, failed_to_map, no_compatible_memory_type_found, invalid_allocation_create_desc, invalid_allocator_create_desc}
use Rattle.gpu_values.specs.Refusal.{internal, barrier_layout_needs_device10, castable_formats_requires_enhanced_barriers, castable_formats_requires_at_least_device12, host_out_of_memory}
use Rattle.gpu_values.specs.Refusal.{budget_exceeded}
use Rattle.gpu_values.specs.declared.memory_location.MemoryLocation.{MemoryLocation}
use Rattle.gpu_values.specs.declared.memory_location.MemoryLocation.TheVariants.{Unknown, GpuOnly, CpuToGpu, GpuToCpu}
use Rattle.gpu_values.specs.declared.error.AllocationError.{AllocationError}
use Rattle.gpu_device.specs.declared.vulkan.device.VulkanDevice.{Ghosts}
use Rattle.gpu_core.specs.Budgets.{Budgets}
use Rattle.gpu_vulkan.specs.Attempt as attempts
use Rattle.gpu_vulkan.specs.Attempt.{AttemptEnvironment, Answer, IsAskedFor, IsAfter}
use Rattle.gpu_vulkan.specs.Types.{is_mapped, heap_size}
use Rattle.gpu_vulkan.specs.Blocks.{Slots}
use Rattle.gpu_vulkan.specs.Choice.{required, first_type, best_type}
use Rattle.gpu_vulkan.specs.Live.{IsAllocated}
use Rattle.gpu_vulkan.specs.Setup.{Setup}
use Rattle.gpu_vulkan.specs.declared.allocation.Allocation.{Allocation}
use Rattle.gpu_vulkan.specs.declared.describe.AllocationCreateDesc.{AllocationCreateDesc}

-- the request is above its heap: the device isn't asked
pub record IsTooLarge (setup : Setup) (old : Slots) (t : ℕ) (d : AllocationCreateDesc) (o : AttemptEnvironment) (answer : Answer) (new : Slots) : Type 0 where
  pub above : heap_size setup.properties t < d.requirements.size
  pub asked : o.asked ≡ None
  pub answer_is : answer ≡ Err out_of_memory
  pub same : new ≡ old

-- the request is within its heap, and its memory type allocates it or refuses it
pub record IsWithinHeap (setup : Setup) (budgets : Budgets) (old : Slots) (t : ℕ) (d : AllocationCreateDesc) (o : AttemptEnvironment) (answer : Answer) (new : Slots) : Type 0 where
  pub below : d.requirements.size ≤ heap_size setup.properties t
  pub allocates : attempts.AttemptAllocates setup budgets old t d o answer new
  pub asked_for : IsAskedFor setup t d o.asked

-- an attempt at the t-th memory type
abbrev pub Attempts : Setup → Budgets → Slots → (t : ℕ) → AllocationCreateDesc → AttemptEnvironment → Answer → Slots → Type 0
Attempts setup budgets old t d o answer new = IsTooLarge setup old t d o answer new ⊎ IsWithinHeap setup budgets old t d o answer new

-- ---- over a device

-- what the caller of an attempt gets
abbrev pub Answers : Setup → (t : ℕ) → AllocationCreateDesc → Result Allocation AllocationError → Answer → Type 0
Answers setup t d (Ok a) (Ok p) = IsAllocated setup t d p a
Answers setup t d (Ok a) (Err e) = ⊥
Answers setup t d (Err e) (Ok p) = ⊥
Answers setup t d (Err e) (Err r) = refusal_of e ≡ r

-- an attempt over a device
pub record IsAttempt {D : Type 0} (g : Ghosts D) (setup : Setup) (budgets : Budgets) (t : ℕ) (d : AllocationCreateDesc) (old : Slots) (device : D) (result : Result Allocation AllocationError)
    (new : Slots) (after : D) : Type 0 where
  pub environment : AttemptEnvironment
  pub answer : Answer
  pub attempts : Attempts setup budgets old t d environment answer new
  pub asked : IsAfter g device (is_mapped setup.properties t) environment.asked after
  pub answers : Answers setup t d result answer

-- ---- two attempts

-- host memory was refused
abbrev pub is_short : Refusal → Bool
is_short host_out_of_memory = true
is_short out_of_memory = false
is_short (failed_to_map text code) = false
is_short no_compatible_memory_type_found = false
is_short invalid_allocation_create_desc = false
is_short (invalid_allocator_create_desc text code) = false
is_short (internal text code) = false
is_short barrier_layout_needs_device10 = false
is_short castable_formats_requires_enhanced_barriers = false
is_short castable_formats_requires_at_least_device12 = false
is_short budget_exceeded = false

abbrev pub is_for_upload : MemoryLocation → Bool
is_for_upload Unknown = false
is_for_upload GpuOnly = false
is_for_upload CpuToGpu = true
is_for_upload GpuToCpu = false

-- the memory type that is asked after a refusal: for uploads the first that has what they must have, but not where host memory was refused
abbrev pub next_type : Setup → AllocationCreateDesc → Refusal → Option ℕ
next_type setup d r =
    if is_for_upload d.location && not (is_short r) then first_type setup.properties.types d.requirements.memory_type_bits (required d.location) else None

abbrev pub next_after : Setup → AllocationCreateDesc → Result Allocation AllocationError → Option ℕ
next_after setup d (Ok a) = None
next_after setup d (Err e) = next_type setup d (refusal_of e)

-- the second attempt, where there is one, answers
abbrev pub IsFollowed : {D : Type 0} → Ghosts D → Setup → Budgets → AllocationCreateDesc → Option ℕ → (mid : Slots) → (between : D) → (first result : Result Allocation AllocationError) →
    (new : Slots) → (after : D) → Type 0
IsFollowed g setup budgets d None mid between first result new after = (result ≡ first) × (new ≡ mid) × (after ≡ between)
IsFollowed g setup budgets d (Some t) mid between first result new after = IsAttempt g setup budgets t d mid between result new after

-- the attempts that begin at the t-th memory type
pub record IsRequestServed {D : Type 0} (g : Ghosts D) (setup : Setup) (budgets : Budgets) (t : ℕ) (d : AllocationCreateDesc) (old : Slots) (device : D) (result : Result Allocation AllocationError)
    (new : Slots) (after : D) : Type 0 where
  pub first : Result Allocation AllocationError
  pub mid : Slots
  pub between : D
  pub attempt : IsAttempt g setup budgets t d old device first mid between
  pub followed : IsFollowed g setup budgets d (next_after setup d first) mid between first result new after

-- a refusal before anything is taken or asked
pub record IsRefused {D : Type 0} (refusal : Refusal) (old : Slots) (device : D) (result : Result Allocation AllocationError) (new : Slots) (after : D) : Type 0 where
  pub cause : refusal_in result ≡ Some refusal
  pub slots : new ≡ old
  pub device_is : after ≡ device

-- the size isn't 0, and the alignment is a power of two
abbrev pub is_valid : AllocationCreateDesc → Bool
is_valid d = not (d.requirements.size == 0) && is_power_of_two d.requirements.alignment

-- an allocation in the memory type that suits, if one does
abbrev pub IsFound : {D : Type 0} → Ghosts D → Setup → Budgets → AllocationCreateDesc → Option ℕ → Slots → D → Result Allocation AllocationError → Slots → D → Type 0
IsFound g setup budgets d None old device result new after = IsRefused no_compatible_memory_type_found old device result new after
IsFound g setup budgets d (Some t) old device result new after = IsRequestServed g setup budgets t d old device result new after

-- what an allocation results in, where the description is valid or isn't
abbrev pub AllocatesBy : {D : Type 0} → Ghosts D → Setup → Budgets → AllocationCreateDesc → (valid : Bool) → Slots → D → Result Allocation AllocationError → Slots → D → Type 0
AllocatesBy g setup budgets d false old device result new after = IsRefused invalid_allocation_create_desc old device result new after
AllocatesBy g setup budgets d true old device result new after =
    IsFound g setup budgets d (best_type setup.properties.types d.requirements.memory_type_bits d.location) old device result new after

abbrev pub AllocatorAllocates : {D : Type 0} → Ghosts D → Setup → Budgets → AllocationCreateDesc → Slots → D → Result Allocation AllocationError → Slots → D → Type 0
AllocatorAllocates g setup budgets d old device result new after = AllocatesBy g setup budgets d (is_valid d) old device result new after
