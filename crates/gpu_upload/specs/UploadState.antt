-- What callers see of a ring of uploads.
use Rattle.gpu_ring.specs.RingState.{RingState}
use Rattle.gpu_vulkan.specs.declared.allocation.Allocation.{Allocation}

-- the ring, and the allocation that it is over
pub record UploadState : Type 0 where
  pub ring : RingState
  pub allocation : Allocation
