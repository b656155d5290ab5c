-- An attempt at one memory type: what it met with, the request that it makes of the blocks, and the device after it.
use Rattle.std.specs.Prelude.{◌≡◌, ℕ, Bool, true, false, Option, Some, None, Result}
use Rattle.gpu_values.specs.Refusal.{Refusal}
use Rattle.gpu_core.specs.declared.piece.Piece.{Piece}
use Rattle.gpu_device.specs.declared.vulkan.device.VulkanDevice.{Ghosts}
use Rattle.gpu_device.specs.declared.vulkan.types.AllocationScheme.{AllocationScheme}
use Rattle.gpu_device.specs.declared.vulkan.types.DeviceMemory.{DeviceMemory}
use Rattle.gpu_device.specs.declared.vulkan.types.MemoryAllocateInfo.{MemoryAllocateInfo}
use Rattle.gpu_core.specs.Budgets.{Budgets}
use Rattle.gpu_pool.specs.Allocate.{RequestAt, Environment, NothingMet, NoHostMemory, Answered, PoolServes}
use Rattle.gpu_pool.specs.State as pools
use Rattle.gpu_vulkan.specs.Describe.{requests_dedicated, request_of}
use Rattle.gpu_vulkan.specs.Setup.{Setup}
use Rattle.gpu_vulkan.specs.Types.{is_mapped, kinds_of_device}
use Rattle.gpu_vulkan.specs.declared.describe.AllocationCreateDesc.{AllocationCreateDesc}
use Rattle.gpu_vulkan.specs.Blocks.{Slots}
use Rattle.gpu_vulkan.specs.BlockAnswer.{BlockAnswer, IsAnswer, Asks}
use Rattle.gpu_vulkan.specs.Source.{IsResult, question}

-- what the device was asked for, and how it answered
pub record Asked : Type 0 where
  pub info : MemoryAllocateInfo
  pub answer : BlockAnswer

-- what an attempt meets with: host memory is enough or not, and the device answers, where it is asked
pub record AttemptEnvironment : Type 0 where
  pub host : Bool
  pub asked : Option Asked

-- what an attempt answers
abbrev pub Answer : Type 0
Answer = Result (Piece DeviceMemory) Refusal

-- ---- over the blocks alone

-- what the t-th memory type is asked for
abbrev pub request_in : (t : ℕ) → AllocationCreateDesc → RequestAt AllocationScheme
request_in t d = record { memory_type = t; requested_dedicated = requests_dedicated d.allocation_scheme; request = request_of d; extra = d.allocation_scheme }

-- the blocks and budgets as a pool whose source isn't seen
abbrev pub unseen : Setup → Budgets → Slots → pools.State (Unit {0}) DeviceMemory
unseen setup budgets slots = record { source = tt; sizes = setup.sizes; slots = slots; budgets = budgets }

-- a question of which the pool sees nothing
abbrev pub AnyQuestion : Unit {0} → (t size : ℕ) → AllocationScheme → Result DeviceMemory Refusal → Unit {0} → Type 0
AnyQuestion old t size scheme result new = Unit {0}

-- a block that goes back, of which the pool sees nothing
abbrev pub AnyBlockBack : Unit {0} → DeviceMemory → Unit {0} → Type 0
AnyBlockBack old memory new = Unit {0}

-- the pool's request met with this: the device is asked only where the host has memory
abbrev pub IsMet : AttemptEnvironment → Environment DeviceMemory → Type 0
IsMet o NothingMet = (o.host ≡ true) × (o.asked ≡ None)
IsMet o NoHostMemory = (o.host ≡ false) × (o.asked ≡ None)
IsMet o (Answered size result) = (o.host ≡ true) × ((a : Asked) × (o.asked ≡ Some a) × (a.info.size ≡ size) × IsResult result a.answer)

-- the t-th memory type allocates the piece or refuses it, as a pool does
pub record AttemptAllocates (setup : Setup) (budgets : Budgets) (old : Slots) (t : ℕ) (d : AllocationCreateDesc) (o : AttemptEnvironment) (answer : Answer) (new : Slots) : Type 0 where
  pub met : Environment DeviceMemory
  pub is_met : IsMet o met
  pub serves : PoolServes (kinds_of_device setup.properties) AnyQuestion (request_in t d) (unseen setup budgets old) met answer (unseen setup budgets new)

-- ---- over a device

-- the device is asked, if it is, for memory of the t-th type, and answers as such memory may be answered
abbrev pub IsAskedFor : Setup → (t : ℕ) → AllocationCreateDesc → Option Asked → Type 0
IsAskedFor setup t d None = Unit {0}
IsAskedFor setup t d (Some a) = (a.info ≡ question setup t a.info.size d.allocation_scheme) × IsAnswer (is_mapped setup.properties t) a.info.size a.answer

-- the device after an attempt: untouched where it wasn't asked
abbrev pub IsAfter : {D : Type 0} → Ghosts D → (old : D) → (mapped : Bool) → Option Asked → (new : D) → Type 0
IsAfter g old mapped None new = new ≡ old
IsAfter g old mapped (Some a) new = Asks g old a.info mapped a.answer new
