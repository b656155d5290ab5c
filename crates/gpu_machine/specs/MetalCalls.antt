-- What the other calls of Metal's machine return and leave.
use Rattle.std.specs.Prelude.{◌≡◌, ℕ, Bool, Option, Some, None, Result, Ok, Err}
use Rattle.std.specs.Option.{option_map}
use Rattle.gpu_values.specs.declared.error.AllocationError.{AllocationError}
use Rattle.gpu_core.specs.Blocks.{slots_at}
use Rattle.gpu_core.specs.TypeState.{slot_at, block_number}
use Rattle.gpu_core.specs.declared.piece.Piece.{Piece}
use Rattle.gpu_device.specs.declared.metal.types.MTLHeap.{MTLHeap}
use Rattle.gpu_metal.specs.Blocks.{is_same_heap}
use Rattle.gpu_pool.specs.Idle.{FreesIdle}
use Rattle.gpu_machine.specs.MetalState.{State}
use Rattle.gpu_machine.specs.declared.metal.answer.HeapBack.{HeapBack}

-- the heap that goes; it leaves the set first, where there is one
abbrev pub heap_back : (has_set : Bool) → Option MTLHeap → Option HeapBack
heap_back has_set went = option_map (λ heap. record { heap = heap; leaves = has_set }) went

-- the heap of the block in a slot of a memory type
abbrev pub block_heap : State → (t slot : ℕ) → Option HeapBack
block_heap s t slot = heap_back s.has_set (block_number (slot_at (slots_at s.requests.slots t) slot))

abbrev pub heap_in : Result (Option HeapBack) AllocationError → Result (Option MTLHeap) AllocationError
heap_in (Ok back) = Ok (option_map (λ b. b.heap) back)
heap_in (Err e) = Err e

abbrev pub TellsLeave : (has_set : Bool) → Result (Option HeapBack) AllocationError → Type 0
TellsLeave has_set (Ok (Some back)) = back.leaves ≡ has_set
TellsLeave has_set (Ok None) = Unit {0}
TellsLeave has_set (Err e) = Unit {0}

-- a piece is freed where no question is open, and the heap is told that goes with it, if one does
pub record MachineFrees (old : State) (t : ℕ) (p : Piece MTLHeap) (result : Result (Option HeapBack) AllocationError) (new : State) : Type 0 where
  pub frees : FreesIdle is_same_heap old.requests t p (heap_in result) new.requests
  pub leaves : TellsLeave old.has_set result
  pub set : new.has_set ≡ old.has_set
