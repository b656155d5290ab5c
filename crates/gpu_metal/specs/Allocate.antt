-- An allocation: which memory type is asked, and what is returned and left.
use Rattle.std.specs.Prelude.{◌≡◌, ℕ, ◌==◌, ◌&&◌, not, Bool, true, false, Some, Result}
use Rattle.std.specs.Int.{is_power_of_two}
use Rattle.gpu_values.specs.Refusal.{Refusal, refusal_in, invalid_allocation_create_desc}
use Rattle.gpu_values.specs.declared.error.AllocationError.{AllocationError}
use Rattle.gpu_core.specs.declared.piece.Piece.{Piece}
use Rattle.gpu_device.specs.declared.metal.device.MetalDevice.{Ghosts}
use Rattle.gpu_device.specs.declared.metal.types.MTLHeap.{MTLHeap}
use Rattle.gpu_metal.specs.Describe.{request_of}
use Rattle.gpu_metal.specs.MemoryKinds.{IsFirstServing}
use Rattle.gpu_metal.specs.Setup.{kinds_of_device}
use Rattle.gpu_metal.specs.declared.describe.AllocationCreateDesc.{AllocationCreateDesc}
use Rattle.gpu_pool.specs.Allocate as pools
use Rattle.gpu_pool.specs.Allocation.{Returns}
use Rattle.gpu_metal.specs.Live.{Allocation}
use Rattle.gpu_metal.specs.Source.{AsksBlock}
use Rattle.gpu_metal.specs.State.{State, Pool, pool_of}

-- the size isn't 0, and the alignment is a power of two
abbrev pub is_valid : AllocationCreateDesc → Bool
is_valid d = not (d.size == 0) && is_power_of_two d.alignment

-- what the t-th memory type is asked for: all pieces are linear, and none wishes a dedicated block
abbrev pub request_in : (t : ℕ) → AllocationCreateDesc → pools.RequestAt (Unit {0})
request_in t d = record { memory_type = t; requested_dedicated = false; request = request_of d; extra = tt }

module _ {D : Type 0} (g : Ghosts D) (d : AllocationCreateDesc) where
  -- the first memory type that serves the location is asked
  pub record IsAttempted (old : Pool D) (result : Result Allocation AllocationError) (new : Pool D) : Type 0 where
    pub memory_type : ℕ
    pub first : IsFirstServing d.location memory_type
    pub answer : Result (Piece MTLHeap) Refusal
    pub allocates : pools.PoolAllocates kinds_of_device (AsksBlock g) (request_in memory_type d) old answer new
    pub returns : Returns memory_type d.name.now result answer

  -- an allocation, where its description is valid or isn't
  abbrev pub AllocatesBy : (valid : Bool) → State D → Result Allocation AllocationError → State D → Type 0
  AllocatesBy false old result new = (refusal_in result ≡ Some invalid_allocation_create_desc) × (new ≡ old)
  AllocatesBy true old result new = IsAttempted (pool_of old) result (pool_of new)

  -- an allocation, as its description is
  abbrev pub AllocatorAllocates : State D → Result Allocation AllocationError → State D → Type 0
  AllocatorAllocates old result new = AllocatesBy (is_valid d) old result new
