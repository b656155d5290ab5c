-- A move of an allocation in mapped memory, whose bytes the allocator copies.
use Rattle.std.specs.Prelude.{◌≡◌, ◌⊎◌, List, ℕ, Some, None, Result, Ok, Err}
use Rattle.gpu_values.specs.Refusal.{refusal_of, host_out_of_memory}
use Rattle.gpu_values.specs.declared.error.AllocationError.{AllocationError}
use Rattle.gpu_device.specs.declared.vulkan.device.VulkanDevice.{Ghosts}
use Rattle.gpu_vulkan.specs.Free.{AllocatorFrees}
use Rattle.gpu_vulkan.specs.Lends.{ChangesOnly}
use Rattle.gpu_vulkan.specs.Live.{IsMapped, bytes_at}
use Rattle.gpu_vulkan.specs.State.{State}
use Rattle.gpu_vulkan.specs.Step.{IsMoveStep}
use Rattle.gpu_vulkan.specs.declared.allocation.Allocation.{Allocation}
use Rattle.gpu_vulkan.specs.declared.describe.AllocationCreateDesc.{AllocationCreateDesc}

-- an allocation has the bytes that it had
abbrev pub ReadsAsBefore : {D : Type 0} → Ghosts D → (old : State D) → Allocation → (new : State D) → Type 0
ReadsAsBefore g old a new = bytes_at (g.held new.device) a ≡ bytes_at (g.held old.device) a

-- the bytes of the first were written at the second, and nothing else was, and then the first was freed
pub record Carries {D : Type 0} (g : Ghosts D) (from to : Allocation) (old new : State D) : Type 0 where
  pub copied : State D
  pub bytes : List ℕ
  pub read : bytes_at (g.held old.device) from ≡ Some bytes
  pub writes : ChangesOnly g old to bytes copied
  pub frees : AllocatorFrees g from copied.slots copied.device (Ok tt) new.slots new.device

-- from: the allocation that moves; d: its request again
module _ {D : Type 0} (g : Ghosts D) (from : Allocation) (d : AllocationCreateDesc) where
  -- it got a second place, and what it held was carried there
  pub record IsMovedTo (to : Allocation) (old new : State D) : Type 0 where
    pub proposed : State D
    pub step : IsMoveStep g from d (Ok (Some to)) old proposed
    pub carries : Carries g from to proposed new

  -- it isn't live in mapped memory, or no block ahead has a place
  abbrev pub StaysIn : State D → Type 0
  StaysIn s = (IsMapped s.setup.properties s.slots from → ⊥) ⊎ IsMoveStep g from d (Ok None) s s

  -- it is live in mapped memory, and host memory is refused, or the second place
  pub record IsMoveRefusal (e : AllocationError) (s : State D) : Type 0 where
    pub mapped : IsMapped s.setup.properties s.slots from
    pub cause : (refusal_of e ≡ host_out_of_memory) ⊎ IsMoveStep g from d (Err e) s s

  -- it is moved, or stays as it was, or is refused and stays
  abbrev pub Moves : State D → Result Allocation (AllocationError × Allocation) → State D → Type 0
  Moves old (Ok a) new = IsMovedTo a old new ⊎ ((a ≡ from) × (new ≡ old) × StaysIn old)
  Moves old (Err e) new = (e.1 ≡ from) × (new ≡ old) × IsMoveRefusal e.0 old
