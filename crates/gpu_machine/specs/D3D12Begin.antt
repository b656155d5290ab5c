-- What a request at DirectX 12's machine leads to: a piece, a refusal, or a question; and what the answers to it do.
use Rattle.std.specs.Prelude.{◌≡◌, ℕ, ℤ, Bool, true, false, Option, Some, None, Result, Ok, Err, slice_get, IsSomeAnd}
use Rattle.gpu_values.specs.Refusal.{Refusal, refusal_of, refusal_in, invalid_allocation_create_desc}
use Rattle.gpu_values.specs.declared.error.AllocationError.{AllocationError}
use Rattle.gpu_values.specs.declared.memory_location.MemoryLocation.{MemoryLocation}
use Rattle.gpu_core.specs.declared.piece.Piece.{Piece}
use Rattle.gpu_device.specs.declared.d3d12.types.ID3D12Heap.{ID3D12Heap}
use Rattle.gpu_device.specs.declared.d3d12.types.ResourceHeapTier.{ResourceHeapTier}
use Rattle.gpu_d3d12.specs.Allocate.{is_valid, request_in}
use Rattle.gpu_d3d12.specs.CommittedRequests as records
use Rattle.gpu_d3d12.specs.HeapAnswer.{answer_refusal}
use Rattle.gpu_d3d12.specs.Heaps.{heap_desc}
use Rattle.gpu_d3d12.specs.MemoryKinds.{memory_kinds, IsFirstServing}
use Rattle.gpu_d3d12.specs.declared.category.ResourceCategory.{ResourceCategory}
use Rattle.gpu_d3d12.specs.declared.describe.AllocationCreateDesc.{AllocationCreateDesc}
use Rattle.gpu_pool.specs.Begin as pools
use Rattle.gpu_pool.specs.RequestState.{answer_awaited, no_answer_awaited}
use Rattle.gpu_pool.specs.declared.requests.Awaited.{Awaited}
use Rattle.gpu_pool.specs.declared.requests.Begun.{Begun}
use Rattle.gpu_pool.specs.declared.requests.Begun.TheVariants as begun
use Rattle.gpu_machine.specs.D3D12State.{State}
use Rattle.gpu_machine.specs.declared.d3d12.answer.Allocated.{Allocated}
use Rattle.gpu_machine.specs.declared.d3d12.answer.Progress.{Progress}
use Rattle.gpu_machine.specs.declared.d3d12.answer.Progress.TheVariants as progress
use Rattle.gpu_machine.specs.declared.d3d12.answer.Question.{Question}

-- ---- begin

-- the device is asked for a heap of the block's size, of its memory type's kind
abbrev pub IsQuestion : ResourceHeapTier → Question → Type 0
IsQuestion tier q = IsSomeAnd (slice_get (memory_kinds tier) q.block.memory_type) (λ kind. q.desc ≡ heap_desc kind q.block.size)

-- what the answer says of blocks and pieces alone
abbrev pub begun_in : Result Progress AllocationError → Result (Begun ID3D12Heap) AllocationError
begun_in (Ok (progress.Piece a)) = Ok (begun.Piece a.piece)
begun_in (Ok (progress.Question q)) = Ok (begun.Question q.block)
begun_in (Err e) = Err e

-- what it says beside that: the piece's memory type, and which heap is asked for
abbrev pub Tells : ResourceHeapTier → (t : ℕ) → Result Progress AllocationError → Type 0
Tells tier t (Ok (progress.Piece a)) = a.memory_type ≡ t
Tells tier t (Ok (progress.Question q)) = IsQuestion tier q
Tells tier t (Err e) = Unit {0}

-- the first memory type that serves the location and the category is asked
pub record IsBegun (d : AllocationCreateDesc) (old : State) (result : Result Progress AllocationError) (new : State) : Type 0 where
  pub memory_type : ℕ
  pub first : IsFirstServing d.location d.resource_category (memory_kinds old.tier) memory_type
  pub begins : pools.Begins (request_in memory_type d) old.requests (begun_in result) new.requests
  pub tells : Tells old.tier memory_type result
  pub others : new ≡ record old { requests = new.requests }

-- the call is refused for this cause, and nothing changes
abbrev pub IsRefused : Refusal → State → Result Progress AllocationError → State → Type 0
IsRefused refusal old result new = (refusal_in result ≡ Some refusal) × (new ≡ old)

abbrev pub BeginsBy : AllocationCreateDesc → (valid : Bool) → State → Result Progress AllocationError → State → Type 0
BeginsBy d false old result new = IsRefused invalid_allocation_create_desc old result new
BeginsBy d true old result new = IsBegun d old result new

abbrev pub BeginsIn : Option Awaited → State → AllocationCreateDesc → Result Progress AllocationError → State → Type 0
BeginsIn (Some _) old d result new = IsRefused answer_awaited old result new
BeginsIn None old d result new = BeginsBy d (is_valid d) old result new

-- a request is begun where no question is open
abbrev pub Begins : State → AllocationCreateDesc → Result Progress AllocationError → State → Type 0
Begins old d result new = BeginsIn old.requests.awaited old d result new

-- ---- the answers

abbrev pub piece_in : Result Allocated AllocationError → Result (Piece ID3D12Heap) AllocationError
piece_in (Ok a) = Ok a.piece
piece_in (Err e) = Err e

-- the awaited block's memory type
abbrev pub TellsGrant : Option Awaited → Result Allocated AllocationError → Type 0
TellsGrant None result = Unit {0}
TellsGrant (Some a) (Ok given) = given.memory_type ≡ a.memory_type
TellsGrant (Some a) (Err e) = Unit {0}

-- the device made the heap
pub record Grants (old : State) (heap : ID3D12Heap) (result : Result Allocated AllocationError) (new : State) : Type 0 where
  pub grants : pools.Grants old.requests heap (piece_in result) new.requests
  pub tells : TellsGrant old.requests.awaited result
  pub others : new ≡ record old { requests = new.requests }

abbrev pub refusal_told : Option Awaited → (code : Option ℤ) → Refusal
refusal_told None code = no_answer_awaited
refusal_told (Some a) code = answer_refusal code

-- the device made no heap, and nothing is left of the request
abbrev pub Refuses : State → (code : Option ℤ) → AllocationError → State → Type 0
Refuses old code error new = (refusal_of error ≡ refusal_told old.requests.awaited code) × (new ≡ record old { requests = record old.requests { awaited = None } })

-- ---- committed resources

-- one is asked for, of the first memory type that serves the location and the category
pub record BeginsCommitted (old : State) (location : MemoryLocation) (category : ResourceCategory) (size : ℕ) (result : Result (Unit {0}) AllocationError) (new : State) : Type 0 where
  pub memory_type : ℕ
  pub first : IsFirstServing location category (memory_kinds old.tier) memory_type
  pub begins : records.Begins old.committed memory_type size result new.committed
  pub others : new ≡ record old { committed = new.committed }
