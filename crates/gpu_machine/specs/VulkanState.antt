-- What callers see of Vulkan's machine.
use Rattle.std.specs.Prelude.{◌≡◌, ℕ, Bool, false, Option, Some, None, Result}
use Rattle.gpu_values.specs.Refusal.{Refusal, refusal_in}
use Rattle.gpu_values.specs.declared.error.AllocationError.{AllocationError}
use Rattle.gpu_device.specs.Properties.{Properties}
use Rattle.gpu_pool.specs.RequestState.{RequestState}
use Rattle.gpu_pool.specs.declared.requests.Awaited.{Awaited}
use Rattle.gpu_vulkan.specs.Setup.{Setup, setup_fault}
use Rattle.gpu_vulkan.specs.Types.{kinds_of_device}
use Rattle.gpu_machine.specs.VulkanDescription.{IsWellFormed}
use Rattle.gpu_machine.specs.VulkanHeapLimit.{Limits, HasNoLimits}
use Rattle.gpu_machine.specs.declared.vulkan.asking.Asking.{Asking}

-- what the machine is made with, the limits of heaps and how many blocks there may be, whether they are smaller where memory is short, the blocks
-- with their pieces and budgets, and the request whose question is open
pub record State (H : Type 0) : Type 0 where
  pub setup : Setup
  pub limits : Limits
  pub most_blocks : Option ℕ
  pub smaller_blocks : Bool
  pub requests : RequestState H
  pub asking : Option Asking

-- the memory types are the device's, and shared blocks are as large as the setup says
pub record IsOver {H : Type 0} (setup : Setup) (requests : RequestState H) : Type 0 where
  pub kinds : requests.kinds ≡ kinds_of_device setup.properties
  pub sizes : requests.sizes ≡ setup.sizes

-- a request is kept exactly while a block is awaited, and it is one that is served
abbrev pub KeepsRequest : Option Awaited → Option Asking → Type 0
KeepsRequest None None = Unit {0}
KeepsRequest None (Some r) = ⊥
KeepsRequest (Some a) None = ⊥
KeepsRequest (Some a) (Some r) = IsWellFormed r.description

-- why no machine is made of what is told: as with an allocator, whose physical device isn't null
abbrev pub told_fault : Properties → Option Refusal
told_fault p = setup_fault 1 p

-- the call is refused for this cause, and nothing changes
abbrev pub IsRefused : {H A : Type 0} → Refusal → State H → Result A AllocationError → State H → Type 0
IsRefused refusal old result new = (refusal_in result ≡ Some refusal) × (new ≡ old)

-- what is asked for is what the allocator asks for: neither heaps nor the number of blocks are bounded, and they are never smaller
pub record AsksAsAllocator {H : Type 0} (s : State H) : Type 0 where
  pub heaps : HasNoLimits s.limits
  pub blocks : s.most_blocks ≡ None
  pub sizes : s.smaller_blocks ≡ false
