-- What an upload leaves of the allocator's memory.
use Rattle.std.specs.Prelude.{◌≡◌, ℕ, ◌<◌, List, length, Some}
use Rattle.gpu_device.specs.Held.{Held, range_in}
use Rattle.gpu_device.specs.declared.vulkan.device.VulkanDevice.{Ghosts}
use Rattle.gpu_ring.specs.Line.{IsTakenAt, Apart}
use Rattle.gpu_vulkan.specs.Live.{bytes_at}
use Rattle.gpu_vulkan.specs.Lends.{ChangesOnly}
use Rattle.gpu_vulkan.specs.State.{State}
use Rattle.gpu_vulkan.specs.declared.allocation.Allocation.{Allocation}
use Rattle.gpu_upload.specs.UploadState.{UploadState}

-- the allocation has these bytes from there on
abbrev pub HasAt : Held → Allocation → (offset : ℕ) → List ℕ → Type 0
HasAt held a offset bytes = range_in offset (length bytes) (bytes_at held a) ≡ Some bytes

-- these bytes were written over those of the allocation from there on: its bytes apart from them are as before, and so is all but its bytes
pub record Writes {D : Type 0} (g : Ghosts D) (a : Allocation) (old : State D) (offset : ℕ) (bytes : List ℕ) (new : State D) : Type 0 where
  pub after : List ℕ
  pub changes : ChangesOnly g old a after new
  pub written : HasAt (g.held new.device) a offset bytes
  pub kept : (p : ℕ) (xs : List ℕ) → Apart p (length xs) offset (length bytes) → HasAt (g.held old.device) a p xs
      → HasAt (g.held new.device) a p xs

-- so many bytes from there on lie in the ring's taken ones
abbrev pub LiesTaken : UploadState → (offset size : ℕ) → Type 0
LiesTaken u offset size = IsTakenAt u.ring.size u.ring.tail u.ring.taken offset size

-- what lies in the ring's taken bytes is there still
abbrev pub KeepsTaken : (old new : Held) → UploadState → Type 0
KeepsTaken old new u = (offset : ℕ) (bytes : List ℕ) → 0 < length bytes → LiesTaken u offset (length bytes)
    → HasAt old u.allocation offset bytes → HasAt new u.allocation offset bytes
