-- What callers see of Metal's machine.
use Rattle.std.specs.Prelude.{Bool}
use Rattle.gpu_device.specs.declared.metal.types.MTLHeap.{MTLHeap}
use Rattle.gpu_pool.specs.RequestState.{RequestState}

-- the blocks and the open request; and whether heaps are members of a residency set
pub record State : Type 0 where
  pub requests : RequestState MTLHeap
  pub has_set : Bool
