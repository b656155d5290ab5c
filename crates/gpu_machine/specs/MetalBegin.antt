-- What a request at Metal's machine leads to: a piece, a refusal, or a question; and what the answers to it do.
use Rattle.std.specs.Prelude.{◌≡◌, ℕ, Bool, true, false, Option, Some, None, Result, Ok, Err, slice_get, IsSomeAnd}
use Rattle.gpu_values.specs.Refusal.{Refusal, refusal_of, refusal_in, invalid_allocation_create_desc}
use Rattle.gpu_values.specs.declared.error.AllocationError.{AllocationError}
use Rattle.gpu_values.specs.declared.memory_location.MemoryLocation.{MemoryLocation}
use Rattle.gpu_core.specs.declared.piece.Piece.{Piece}
use Rattle.gpu_device.specs.declared.metal.types.MTLHeap.{MTLHeap}
use Rattle.gpu_metal.specs.Allocate.{is_valid, request_in}
use Rattle.gpu_metal.specs.HeapAnswer.{heap_refusal}
use Rattle.gpu_metal.specs.MemoryKinds.{locations, IsFirstServing, heap_descriptor}
use Rattle.gpu_metal.specs.declared.describe.AllocationCreateDesc.{AllocationCreateDesc}
use Rattle.gpu_pool.specs.Begin as pools
use Rattle.gpu_pool.specs.RequestState.{answer_awaited, no_answer_awaited}
use Rattle.gpu_pool.specs.declared.requests.Awaited.{Awaited}
use Rattle.gpu_pool.specs.declared.requests.Begun.{Begun}
use Rattle.gpu_pool.specs.declared.requests.Begun.TheVariants as begun
use Rattle.gpu_machine.specs.MetalState.{State}
use Rattle.gpu_machine.specs.declared.metal.answer.Granted.{Granted}
use Rattle.gpu_machine.specs.declared.metal.answer.Progress.{Progress}
use Rattle.gpu_machine.specs.declared.metal.answer.Progress.TheVariants as progress
use Rattle.gpu_machine.specs.declared.metal.answer.Question.{Question}

-- ---- begin

-- a heap of the location's kind
abbrev pub IsFor : MemoryLocation → Question → Type 0
IsFor location q = (q.location ≡ location) × (q.descriptor ≡ heap_descriptor location)

-- the device is asked for a heap of the location that the block's memory type is for
abbrev pub IsQuestion : Question → Type 0
IsQuestion q = IsSomeAnd (slice_get locations q.block.memory_type) (λ location. IsFor location q)

-- what the answer says of blocks and pieces alone
abbrev pub begun_in : Result Progress AllocationError → Result (Begun MTLHeap) AllocationError
begun_in (Ok (progress.Piece a)) = Ok (begun.Piece a.piece)
begun_in (Ok (progress.Question q)) = Ok (begun.Question q.block)
begun_in (Err e) = Err e

-- what it says beside that: the piece's memory type, and which heap is asked for
abbrev pub Tells : (t : ℕ) → Result Progress AllocationError → Type 0
Tells t (Ok (progress.Piece a)) = a.memory_type ≡ t
Tells t (Ok (progress.Question q)) = IsQuestion q
Tells t (Err e) = Unit {0}

-- the first memory type that serves the location is asked
pub record IsBegun (d : AllocationCreateDesc) (old : State) (result : Result Progress AllocationError) (new : State) : Type 0 where
  pub memory_type : ℕ
  pub first : IsFirstServing d.location memory_type
  pub begins : pools.Begins (request_in memory_type d) old.requests (begun_in result) new.requests
  pub tells : Tells memory_type result
  pub set : new.has_set ≡ old.has_set

-- the call is refused for this cause, and nothing changes
abbrev pub IsRefused : Refusal → State → Result Progress AllocationError → State → Type 0
IsRefused refusal old result new = (refusal_in result ≡ Some refusal) × (new ≡ old)

abbrev pub BeginsBy : AllocationCreateDesc → (valid : Bool) → State → Result Progress AllocationError → State → Type 0
BeginsBy d false old result new = IsRefused invalid_allocation_create_desc old result new
BeginsBy d true old result new = IsBegun d old result new

abbrev pub BeginsIn : Option Awaited → State → AllocationCreateDesc → Result Progress AllocationError → State → Type 0
BeginsIn (Some _) old d result new = IsRefused answer_awaited old result new
BeginsIn None old d result new = BeginsBy d (is_valid d) old result new

-- a request is begun where no question is open
abbrev pub Begins : State → AllocationCreateDesc → Result Progress AllocationError → State → Type 0
Begins old d result new = BeginsIn old.requests.awaited old d result new

-- ---- the answers

abbrev pub piece_in : Result Granted AllocationError → Result (Piece MTLHeap) AllocationError
piece_in (Ok g) = Ok g.allocated.piece
piece_in (Err e) = Err e

-- the awaited block's memory type, and that its heap joins the set, where there is one
abbrev pub TellsGrant : (has_set : Bool) → Option Awaited → Result Granted AllocationError → Type 0
TellsGrant has_set None result = Unit {0}
TellsGrant has_set (Some a) (Ok g) = (g.allocated.memory_type ≡ a.memory_type) × (g.joins ≡ has_set)
TellsGrant has_set (Some a) (Err e) = Unit {0}

-- the device made the heap
pub record Grants (old : State) (heap : MTLHeap) (result : Result Granted AllocationError) (new : State) : Type 0 where
  pub grants : pools.Grants old.requests heap (piece_in result) new.requests
  pub tells : TellsGrant old.has_set old.requests.awaited result
  pub set : new.has_set ≡ old.has_set

abbrev pub refusal_told : Option Awaited → Refusal
refusal_told None = no_answer_awaited
refusal_told (Some a) = heap_refusal

-- the device made no heap, and nothing is left of the request
abbrev pub Refuses : State → AllocationError → State → Type 0
Refuses old error new = (refusal_of error ≡ refusal_told old.requests.awaited) × (new ≡ record old { requests = record old.requests { awaited = None } })
