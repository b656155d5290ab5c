-- Why no allocator is made, and the memory types of one that is.
use Rattle.std.specs.Prelude.{ℕ, ℤ, Bool, List, map, Option, Some, None, Result, Ok, Err, codes}
use Rattle.gpu_values.specs.Refusal.{Refusal, internal}
use Rattle.gpu_device.specs.D3D12.{Properties}
use Rattle.gpu_device.specs.declared.d3d12.types.ResourceHeapTier.{ResourceHeapTier}
use Rattle.gpu_d3d12.specs.Heaps.{is_host}
use Rattle.gpu_d3d12.specs.MemoryKinds.{memory_kinds}

-- the device can't tell its heap tier, and has this code for it
abbrev pub tier_refusal : (code : ℤ) → Refusal
tier_refusal code = internal (codes "ID3D12Device::CheckFeatureSupport failed") (Some code)

abbrev pub tier_fault : Result ResourceHeapTier ℤ → Option Refusal
tier_fault (Ok tier) = None
tier_fault (Err code) = Some (tier_refusal code)

-- why no allocator is made of a device, where host memory is enough
abbrev pub setup_fault : Properties → Option Refusal
setup_fault p = tier_fault p.tier

-- of each memory type, whether its blocks are of the host's sizes, and its page size, which is 1
abbrev pub kinds_of_device : ResourceHeapTier → List (Bool × ℕ)
kinds_of_device tier = map (λ k. (is_host k, 1)) (memory_kinds tier)
