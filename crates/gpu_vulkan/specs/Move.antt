-- A second place for an allocation that is to move, over a device.
use Rattle.std.specs.Prelude.{◌≡◌, ℕ, ◌<◌, ◌%◌, Bool, Option, Result}
use Rattle.gpu_values.specs.declared.error.AllocationError.{AllocationError}
use Rattle.gpu_vulkan.specs.Blocks.{Slots}
use Rattle.gpu_vulkan.specs.Lends.{AreDistinct}
use Rattle.gpu_vulkan.specs.Live.{IsLive, piece_of}
use Rattle.gpu_vulkan.specs.Reply.{placed_with}
use Rattle.gpu_vulkan.specs.State.{Pool, setup_of}
use Rattle.gpu_vulkan.specs.Step.{Place, Proposes, RepliesPlace}
use Rattle.gpu_vulkan.specs.declared.allocation.Allocation.{Allocation}
use Rattle.gpu_vulkan.specs.declared.describe.AllocationCreateDesc.{AllocationCreateDesc}

-- an allocation of its own, of the same memory type and size, aligned as asked, in a higher slot
pub record IsSecondPlace (alignment : ℕ) (old : Slots) (from to : Allocation) (new : Slots) : Type 0 where
  pub live : IsLive new to
  pub other : (b : Allocation) → IsLive old b → AreDistinct b to
  pub memory_type : to.memory_type_index ≡ from.memory_type_index
  pub size : to.size ≡ from.size
  pub aligned : to.offset % alignment ≡ 0
  pub ahead : from.memory_block_index < to.memory_block_index

-- the pool proposes a second place or none, and the caller gets what it proposes
pub record IsProposed {D : Type 0} (from : Allocation) (d : AllocationCreateDesc) (old : Pool D) (result : Result (Option Allocation) AllocationError) (new : Pool D) : Type 0 where
  pub host : Bool
  pub answer : Place
  pub proposes : Proposes from.memory_type_index (piece_of from) d host old answer new
  pub replies : RepliesPlace (setup_of old) d result (placed_with from.memory_type_index answer)
