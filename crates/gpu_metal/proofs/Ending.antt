-- A move that ends: what its free leaves.
use Rattle.std.proofs.Common.{◌≡◌, ℕ, ◌+◌, ◌<◌, ◌≤◌, Ok, Err, Result, arith}
use Rattle.std.specs.Prelude.{OnOk}
use Rattle.gpu_values.specs.declared.error.AllocationError.{AllocationError}
use Rattle.gpu_core.specs.Blocks.{slots_at}
use Rattle.gpu_core.specs.Moves.{moves_left, slots_above}
use Rattle.gpu_device.specs.declared.metal.device.MetalDevice.{Ghosts}
use Rattle.gpu_pool.specs.Allocation.{AreDistinct, piece_of}
use Rattle.gpu_pool.proofs.Moving.{frees_left}
use Rattle.gpu_metal.specs.Blocks.{is_same_heap}
use Rattle.gpu_metal.specs.Free.{AllocatorFrees}
use Rattle.gpu_metal.specs.Live.{Allocation}
use Rattle.gpu_metal.specs.Source.{GivesHeapBack}
use Rattle.gpu_metal.specs.State.{State, pool_of}

-- an allocation in a higher slot is another one
pub ahead_distinct : (from to : Allocation) → from.memory_block_index < to.memory_block_index → AreDistinct to from
ahead_distinct from to ahead type slot number = absurd (omega (arith, ahead, slot))

pub behind_distinct : (from to : Allocation) → from.memory_block_index < to.memory_block_index → AreDistinct from to
behind_distinct from to ahead type slot number = absurd (omega (arith, ahead, slot))

-- an allocation that is freed counts no more
pub freed_fewer : {D : Type 0} (g : Ghosts D) (a : Allocation) (old : State D) (result : Result (Unit {0}) (AllocationError × Allocation)) (new : State D) → AllocatorFrees g a old result new
    → OnOk result (moves_left (slots_at new.slots a.memory_type_index) + slots_above (slots_at old.slots a.memory_type_index) a.memory_block_index ≤ moves_left (slots_at old.slots a.memory_type_index))
freed_fewer g a old (Ok u) new f = frees_left (GivesHeapBack g) is_same_heap a.memory_type_index (piece_of a) (pool_of old) (Ok u) (pool_of new) f.frees
freed_fewer g a old (Err e) new f = tt
