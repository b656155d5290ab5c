-- One attempt of Vulkan's machine at a memory type, up to its question.
use Rattle.std.specs.Prelude.{◌≡◌, ℕ, ◌<◌, ◌≤◌, ◌⊎◌, ◌&&◌, ◌||◌, Bool, true, false, Option, Some, Result, Ok, Err}
use Rattle.gpu_values.specs.Refusal.{refusal_of, out_of_memory, budget_exceeded}
use Rattle.gpu_values.specs.Sizes.{Sizes}
use Rattle.gpu_values.specs.declared.error.AllocationError.{AllocationError}
use Rattle.gpu_pool.specs.Allocate.{RequestAt}
use Rattle.gpu_pool.specs.Begin as pools
use Rattle.gpu_pool.specs.RequestState.{RequestState, with_sizes}
use Rattle.gpu_pool.specs.declared.requests.Begun.{Begun}
use Rattle.gpu_pool.specs.declared.requests.Begun.TheVariants as begun
use Rattle.gpu_pool.specs.declared.requests.Question.{Question}
use Rattle.gpu_vulkan.specs.Describe.{kind_of, requests_dedicated}
use Rattle.gpu_vulkan.specs.Setup.{Setup}
use Rattle.gpu_vulkan.specs.Types.{is_mapped, heap_size}
use Rattle.gpu_machine.specs.VulkanDescription.{Description}
use Rattle.gpu_machine.specs.VulkanHeapLimit.{passes_limit}
use Rattle.gpu_machine.specs.VulkanBlockCount.{has_most}
use Rattle.gpu_machine.specs.VulkanSmallerBlocks.{sizes_in, sizes_left}
use Rattle.gpu_machine.specs.VulkanRoom.{is_bounded}
use Rattle.gpu_machine.specs.VulkanState.{State, IsRefused}
use Rattle.gpu_machine.specs.declared.vulkan.answer.Progress.{Progress}
use Rattle.gpu_machine.specs.declared.vulkan.answer.Progress.TheVariants as progress
use Rattle.gpu_machine.specs.declared.vulkan.asking.Asking.{Asking}

-- what the t-th memory type is asked for
abbrev pub request_said : (t : ℕ) → Description → RequestAt (Unit {0})
request_said t k =
    record {
      memory_type = t;
      requested_dedicated = requests_dedicated k.scheme;
      request = record { size = k.requirements.size; alignment = k.requirements.alignment; kind = kind_of k.linear; name = k.name };
      extra = tt;
    }

-- what the answer says of blocks and pieces alone
abbrev pub begun_in : {H : Type 0} → Result (Progress H) AllocationError → Result (Begun H) AllocationError
begun_in (Ok (progress.Piece a)) = Ok (begun.Piece a.piece)
begun_in (Ok (progress.Question q)) = Ok (begun.Question q.block)
begun_in (Err e) = Err e

-- what it says beside that: the piece's memory type, and what is mapped
abbrev pub Tells : {H : Type 0} → Setup → (t : ℕ) → Result (Progress H) AllocationError → Type 0
Tells setup t (Ok (progress.Piece a)) = (a.memory_type ≡ t) × (a.mapped ≡ is_mapped setup.properties t)
Tells setup t (Ok (progress.Question q)) = q.mapped ≡ is_mapped setup.properties t
Tells setup t (Err e) = Unit {0}

-- what is kept of the request where its question is open
abbrev pub asking_after : {H : Type 0} → Option Asking → (kept : Asking) → Result (Progress H) AllocationError → Option Asking
asking_after before kept (Ok (progress.Piece a)) = before
asking_after before kept (Ok (progress.Question q)) = Some kept
asking_after before kept (Err e) = before

abbrev pub IsNoQuestion : {H : Type 0} → Result (Progress H) AllocationError → Type 0
IsNoQuestion (Ok (progress.Piece a)) = Unit {0}
IsNoQuestion (Ok (progress.Question q)) = ⊥
IsNoQuestion (Err e) = Unit {0}

-- a block of that size is one too many, or would be above its heap's limit
abbrev pub is_forbidden : {H : Type 0} → State H → (t size : ℕ) → Bool
is_forbidden s t size = has_most s.most_blocks s.requests.slots || passes_limit s.setup.properties.types s.limits s.requests.slots t size

-- what is asked for isn't forbidden
abbrev pub IsWithinLimit : {H : Type 0} → State H → (t : ℕ) → Result (Progress H) AllocationError → Type 0
IsWithinLimit old t (Ok (progress.Piece a)) = Unit {0}
IsWithinLimit old t (Ok (progress.Question q)) = is_forbidden old t q.block.size ≡ false
IsWithinLimit old t (Err e) = Unit {0}

-- a smaller block may be within the bounds
abbrev pub may_be_left : {H : Type 0} → (smaller_blocks : Bool) → Result (Progress H) AllocationError → Bool
may_be_left smaller_blocks (Ok found) = false
may_be_left smaller_blocks (Err e) = smaller_blocks && is_bounded (refusal_of e)

module _ {H : Type 0} where
  -- the request is above its heap: no block is looked at
  pub record IsAboveHeap (old : State H) (t : ℕ) (k : Description) (result : Result (Progress H) AllocationError) (new : State H) : Type 0 where
    pub above : heap_size old.setup.properties t < k.requirements.size
    pub refused : IsRefused out_of_memory old result new

  -- the request needs a block, of these sizes where it is shared, that is forbidden
  pub record IsAboveLimit (sizes : Sizes) (old : State H) (t : ℕ) (k : Description) (result : Result (Progress H) AllocationError) (new : State H) : Type 0 where
    pub below : k.requirements.size ≤ heap_size old.setup.properties t
    pub question : Question
    pub left : RequestState H
    pub needs : pools.Begins (request_said t k) (with_sizes sizes old.requests) (Ok (begun.Question question)) left
    pub passes : is_forbidden old t question.size ≡ true
    pub refused : IsRefused budget_exceeded old result new

  -- the request is within its heap, and its memory type allocates a piece, asks for a block, of these sizes where it is shared, or refuses it
  pub record BeginsWithinHeap (sizes : Sizes) (old : State H) (t : ℕ) (k : Description) (kept : Asking) (result : Result (Progress H) AllocationError) (new : State H) : Type 0 where
    pub below : k.requirements.size ≤ heap_size old.setup.properties t
    pub begins : pools.Begins (request_said t k) (with_sizes sizes old.requests) (begun_in result) (with_sizes sizes new.requests)
    pub sizes_stay : new.requests.sizes ≡ old.requests.sizes
    pub tells : Tells old.setup t result
    pub within : IsWithinLimit old t result
    pub state : new ≡ record old { requests = new.requests; asking = asking_after old.asking kept result }

  -- an attempt at the t-th memory type by shared blocks of these sizes, up to its question, for which this is kept
  abbrev pub AttemptsSized : Sizes → State H → (t : ℕ) → Description → (kept : Asking) → Result (Progress H) AllocationError → State H → Type 0
  AttemptsSized sizes old t k kept result new = IsAboveHeap old t k result new ⊎ (IsAboveLimit sizes old t k result new ⊎ BeginsWithinHeap sizes old t k kept result new)

  -- an attempt at the t-th memory type by the sizes of its heap's blocks
  abbrev pub AttemptsWhole : State H → (t : ℕ) → Description → (kept : Asking) → Result (Progress H) AllocationError → State H → Type 0
  AttemptsWhole old t k kept result new = AttemptsSized (sizes_in old t) old t k kept result new

  -- the first attempts at the t-th memory type, up to a question, for which this is kept
  pub data Attempts (old : State H) (t : ℕ) (k : Description) (kept : Asking) (result : Result (Progress H) AllocationError) (new : State H) : Type 0 where
    -- the block of its heap's sizes counts
    tries_whole : may_be_left old.smaller_blocks result ≡ false → AttemptsWhole old t k kept result new → Attempts old t k kept result new
    -- a bound leaves no room for that block, and so one counts that is as large as bounds leave
    tries_left : (cause : AllocationError) → old.smaller_blocks ≡ true → is_bounded (refusal_of cause) ≡ true → AttemptsWhole old t k kept (Err cause) old
        → AttemptsSized (sizes_left old t) old t k kept result new → Attempts old t k kept result new

  -- ---- without a question

  -- the memory type needs a new block, and so has no place
  pub record NeedsBlock (old : State H) (t : ℕ) (k : Description) (result : Result (Progress H) AllocationError) (new : State H) : Type 0 where
    pub below : k.requirements.size ≤ heap_size old.setup.properties t
    pub question : Question
    pub left : RequestState H
    pub needs : pools.Begins (request_said t k) old.requests (Ok (begun.Question question)) left
    pub refused : IsRefused out_of_memory old result new

  -- a place in a block that is there, or a refusal
  pub record PlacesWithinHeap (old : State H) (t : ℕ) (k : Description) (result : Result (Progress H) AllocationError) (new : State H) : Type 0 where
    pub below : k.requirements.size ≤ heap_size old.setup.properties t
    pub begins : pools.Begins (request_said t k) old.requests (begun_in result) new.requests
    pub tells : Tells old.setup t result
    pub asks_nothing : IsNoQuestion result
    pub state : new ≡ record old { requests = new.requests }

  -- an attempt at the t-th memory type that asks for no block
  abbrev pub Places : State H → (t : ℕ) → Description → Result (Progress H) AllocationError → State H → Type 0
  Places old t k result new = IsAboveHeap old t k result new ⊎ (NeedsBlock old t k result new ⊎ PlacesWithinHeap old t k result new)
