-- What freeing an allocation returns and leaves.
use Rattle.std.specs.Prelude.{◌≡◌, Result, Ok, Err}
use Rattle.gpu_values.specs.Refusal.{Refusal, refusal_of}
use Rattle.gpu_values.specs.declared.error.AllocationError.{AllocationError}
use Rattle.gpu_device.specs.declared.d3d12.device.D3D12Device.{Ghosts}
use Rattle.gpu_pool.specs.Free as pools
use Rattle.gpu_d3d12.specs.Blocks.{is_same_heap}
use Rattle.gpu_pool.specs.Allocation.{piece_of}
use Rattle.gpu_d3d12.specs.Live.{Allocation}
use Rattle.gpu_d3d12.specs.Source.{GivesHeapBack}
use Rattle.gpu_d3d12.specs.State.{State, pool_of}

-- a free, as its pool sees it
abbrev pub freed_of : {V : Type 0} → Result (Unit {0}) (AllocationError × V) → Result (Unit {0}) Refusal
freed_of (Ok _) = Ok tt
freed_of (Err e) = Err (refusal_of e.0)

-- what isn't freed comes back as it was
abbrev pub ComesBack : {V : Type 0} → V → Result (Unit {0}) (AllocationError × V) → Type 0
ComesBack a (Ok _) = Unit {0}
ComesBack a (Err e) = e.1 ≡ a

-- a live piece is freed, and its block goes back with it where that goes; of one that isn't live nothing changes, and the allocation comes back as it was
pub record AllocatorFrees {D : Type 0} (g : Ghosts D) (a : Allocation) (old : State D) (result : Result (Unit {0}) (AllocationError × Allocation)) (new : State D) : Type 0 where
  pub frees : pools.PoolFrees (GivesHeapBack g) is_same_heap a.memory_type_index (piece_of a) (pool_of old) (freed_of result) (pool_of new)
  pub comes_back : ComesBack a result
