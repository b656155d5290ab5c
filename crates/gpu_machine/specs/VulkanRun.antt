-- A request from its beginning to its end: its questions are asked of a device, and the machine is told the answers.
use Rattle.std.specs.Prelude.{◌≡◌, ℕ, zero, suc, Bool, if◌then◌else◌, Result, Ok, Err}
use Rattle.gpu_values.specs.Refusal.{refusal_of}
use Rattle.gpu_values.specs.declared.error.AllocationError.{AllocationError}
use Rattle.gpu_device.specs.declared.vulkan.device.VulkanDevice.{Ghosts}
use Rattle.gpu_device.specs.declared.vulkan.types.DeviceMemory.{DeviceMemory}
use Rattle.gpu_vulkan.specs.BlockAnswer as device_answers
use Rattle.gpu_vulkan.specs.BlockAnswer.{BlockAnswer, Declined, Granted, Mapped, NotMapped, memory_of, memory_refusal, map_refusal}
use Rattle.gpu_vulkan.specs.Live.{IsAllocated}
use Rattle.gpu_vulkan.specs.Setup.{Setup}
use Rattle.gpu_vulkan.specs.Source.{question}
use Rattle.gpu_vulkan.specs.declared.allocation.Allocation.{Allocation}
use Rattle.gpu_vulkan.specs.declared.describe.AllocationCreateDesc.{AllocationCreateDesc}
use Rattle.gpu_machine.specs.VulkanBegin.{Begins, Grants, Declines}
use Rattle.gpu_machine.specs.VulkanState as states
use Rattle.gpu_machine.specs.declared.vulkan.answer.Allocated as answers
use Rattle.gpu_machine.specs.declared.vulkan.answer.Progress as answers_of
use Rattle.gpu_machine.specs.declared.vulkan.answer.Progress.TheVariants as progress
use Rattle.gpu_machine.specs.declared.vulkan.answer.Question.{Question}

-- a machine whose blocks are known by the device's own handles
abbrev pub State : Type 0
State = states.State DeviceMemory

abbrev pub Allocated : Type 0
Allocated = answers.Allocated DeviceMemory

abbrev pub Progress : Type 0
Progress = answers_of.Progress DeviceMemory

-- the machine is told that the memory was granted
pub record HearsGrant (old : State) (number : ℕ) (heard : Result Progress AllocationError) (new : State) : Type 0 where
  pub piece : Allocated
  pub grants : Grants old (memory_of number) (Ok piece) new
  pub is : heard ≡ Ok (progress.Piece piece)

-- what the machine makes of a device's answer
abbrev pub Hears : State → BlockAnswer → Result Progress AllocationError → State → Type 0
Hears old (Declined code) heard new = Declines old (memory_refusal code) heard new
Hears old (Granted number) heard new = HearsGrant old number heard new
Hears old (Mapped number bytes) heard new = HearsGrant old number heard new
Hears old (NotMapped number code) heard new = Declines old (map_refusal code) heard new

module _ {D : Type 0} (g : Ghosts D) (d : AllocationCreateDesc) where
  -- the device is asked the question, for what the request says that its memory is for, and the machine is told the answer
  pub record IsAnswered (old : State) (device : D) (q : Question) (heard : Result Progress AllocationError) (new : State) (after : D) : Type 0 where
    pub answer : BlockAnswer
    pub asks : device_answers.Asks g device (question old.setup q.block.memory_type q.block.size d.allocation_scheme) q.mapped answer after
    pub hears : Hears old answer heard new

  -- so many questions at most are asked, until none is left
  abbrev pub Finishes : (questions : ℕ) → State → D → Result Progress AllocationError → Result Allocated AllocationError → State → D → Type 0
  Finishes n mid device (Err e) told new after = (told ≡ Err e) × (new ≡ mid) × (after ≡ device)
  Finishes n mid device (Ok (progress.Piece a)) told new after = (told ≡ Ok a) × (new ≡ mid) × (after ≡ device)
  Finishes zero mid device (Ok (progress.Question q)) told new after = ⊥
  Finishes (suc n) mid device (Ok (progress.Question q)) told new after =
      (heard : Result Progress AllocationError) × (next : State) × (between : D) × IsAnswered mid device q heard next between × Finishes n next between heard told new after

  -- a request is begun, and goes on until it has its piece or its refusal
  pub record Runs (questions : ℕ) (old : State) (device : D) (told : Result Allocated AllocationError) (new : State) (after : D) : Type 0 where
    pub first : Result Progress AllocationError
    pub mid : State
    pub begins : Begins old d first mid
    pub finishes : Finishes questions mid device first told new after

-- how many questions a request by a location asks at most: one for each of two memory types, or three with smaller blocks
abbrev pub most_questions : (smaller_blocks : Bool) → ℕ
most_questions smaller_blocks = if smaller_blocks then 6 else 2

-- what an allocator returns is what the machine told
abbrev pub Returns : Setup → AllocationCreateDesc → Result Allocated AllocationError → Result Allocation AllocationError → Type 0
Returns setup d (Ok a) (Ok allocation) = IsAllocated setup a.memory_type d a.piece allocation
Returns setup d (Ok a) (Err f) = ⊥
Returns setup d (Err e) (Ok allocation) = ⊥
Returns setup d (Err e) (Err f) = refusal_of f ≡ refusal_of e
