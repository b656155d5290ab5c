-- An attempt at a memory type, from what the pool returned and left.
use Rattle.std.proofs.Common.{◌≡◌, subst, false, Result}
use Rattle.gpu_values.specs.declared.error.AllocationError.{AllocationError}
use Rattle.gpu_core.specs.declared.piece.Request.{Request}
use Rattle.gpu_core.specs.TypeTake.{asked}
use Rattle.gpu_device.specs.declared.d3d12.device.D3D12Device.{Ghosts}
use Rattle.gpu_d3d12.specs.Describe.{request_of}
use Rattle.gpu_d3d12.specs.MemoryKinds.{memory_kinds, IsFirstServing}
use Rattle.gpu_d3d12.specs.Setup.{kinds_of_device}
use Rattle.gpu_d3d12.specs.declared.describe.AllocationCreateDesc.{AllocationCreateDesc}
use Rattle.gpu_pool.specs.Allocate as pools
use Rattle.gpu_pool.specs.Allocation.{AllocatesNamed}
use Rattle.gpu_d3d12.specs.Allocate.{IsAttempted}
use Rattle.gpu_d3d12.specs.Live.{Allocation}
use Rattle.gpu_d3d12.specs.Source.{AsksBlock}
use Rattle.gpu_d3d12.specs.State.{Pool}

module _ {D : Type 0} (g : Ghosts D) (d : AllocationCreateDesc) (t : _) (old : Pool D) (first : IsFirstServing d.location d.resource_category (memory_kinds old.source.tier) t) where
  pub attempted : (r : Request) → asked r ≡ request_of d → r.dedicated ≡ false → (result : Result Allocation AllocationError) (new : Pool D)
      → AllocatesNamed (kinds_of_device old.source.tier) (AsksBlock g) (pools.request_at t r tt) old result new → IsAttempted g d old result new
  attempted r asks shared result new named =
      let a = subst (λ q. AllocatesNamed (kinds_of_device old.source.tier) (AsksBlock g) q old result new)
      (λ i. record { memory_type = t; requested_dedicated = shared i; request = asks i; extra = tt }) named in
      record { memory_type = t; first = first; answer = a.answer; allocates = a.allocates; returns = a.returns }
