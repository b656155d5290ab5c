-- A Vulkan device as a source of blocks: what it holds, and what its calls are in Vulkan's own words.
use Rattle.std.specs.Prelude.{◌≡◌, ℕ, true, List, nat_eq, Option, Some, None, Result, Ok, Err}
use Rattle.std.specs.FinMap.{get, remove}
use Rattle.std.specs.Option.{is_some}
use Rattle.std.proofs.lemmas.Bool.{eqb-true}
use Rattle.gpu_values.specs.Refusal.{Refusal}
use Rattle.gpu_device.specs.Held.{Held, Entry, bytes_of}
use Rattle.gpu_device.specs.Properties.{Properties}
use Rattle.gpu_device.specs.declared.vulkan.device.VulkanDevice.{Ghosts}
use Rattle.gpu_device.specs.declared.vulkan.types.AllocationScheme.{AllocationScheme}
use Rattle.gpu_device.specs.declared.vulkan.types.DeviceMemory.{DeviceMemory}
use Rattle.gpu_device.specs.declared.vulkan.types.MemoryAllocateInfo.{MemoryAllocateInfo}
use Rattle.gpu_vulkan.specs.Setup.{Setup}
use Rattle.gpu_vulkan.specs.Types.{is_mapped}
use Rattle.gpu_pool.specs.Source.{HeldBlock, HeldBlocks, block_since}
use Rattle.gpu_vulkan.specs.BlockAnswer.{BlockAnswer, Asks, answer_number, answer_refusal, free_recorded}

-- the device, what it was when it was handed in, and what the allocator is made with
pub record SourceState (D : Type 0) : Type 0 where
  pub device : D
  pub first : D
  pub setup : Setup

-- ---- memory as blocks

-- what is held under a number, as a block
abbrev pub entry_block : Option Entry → Option HeldBlock
entry_block None = None
entry_block (Some e) = Some (record { memory_type = e.memory_type_index; size = e.size })

abbrev pub new_block : (at_first now : Option Entry) → Option HeldBlock
new_block = block_since entry_block

-- the memory that came since, as blocks
abbrev pub blocks_of : (first held : Held) → HeldBlocks
blocks_of first held n = new_block (get first n) (get held n)

-- memory that compares alike has one number
pub one_number : (a b : DeviceMemory) → nat_eq a.0 b.0 ≡ true → a.0 ≡ b.0
one_number a b same = eqb-true a.0 b.0 same

-- the device holds what it held at first, and what came since is mapped where its memory type is
pub record HoldsFirst (p : Properties) (first held : Held) : Type 0 where
  pub stays : (n : ℕ) (e : Entry) → get first n ≡ Some e → get held n ≡ Some e
  pub came : (n : ℕ) (e : Entry) → get first n ≡ None → get held n ≡ Some e → is_some e.bytes ≡ is_mapped p e.memory_type_index

-- ---- what its calls are

-- the question for a block of this size in the t-th memory type
abbrev pub question : Setup → (t size : ℕ) → AllocationScheme → MemoryAllocateInfo
question setup t size scheme = record { size = size; memory_type_index = t; device_address = setup.device_address; scheme = scheme }

-- what the asker makes of the device's answer
abbrev pub IsResult : Result DeviceMemory Refusal → BlockAnswer → Type 0
IsResult (Ok memory) answer = answer_number answer ≡ Some memory.0
IsResult (Err e) answer = answer_refusal answer ≡ Some e

-- the source over the device after ws was written there
abbrev pub with_written : {D : Type 0} → Ghosts D → SourceState D → (number start : ℕ) → List ℕ → SourceState D
with_written g s number start ws = record s { device = g.written s.device number start ws }

module _ {D : Type 0} (g : Ghosts D) where
  -- the device was asked for memory of the t-th type and this size, and answered so
  pub record AsksBlock (old : SourceState D) (t size : ℕ) (scheme : AllocationScheme) (result : Result DeviceMemory Refusal) (new : SourceState D) : Type 0 where
    pub answer : BlockAnswer
    pub is_result : IsResult result answer
    pub asks : Asks g old.device (question old.setup t size scheme) (is_mapped old.setup.properties t) answer new.device
    pub state : new ≡ record old { device = new.device }

  -- the memory went back, once, and nothing was asked
  pub record GivesMemoryBack (old : SourceState D) (memory : DeviceMemory) (new : SourceState D) : Type 0 where
    pub held : g.held new.device ≡ remove (g.held old.device) memory.0
    pub history : g.history new.device ≡ free_recorded (is_some (bytes_of (g.held old.device) memory.0)) memory (g.history old.device)
    pub count : g.refused new.device ≡ g.refused old.device
    pub latest : g.latest new.device ≡ g.latest old.device
    pub constant : g.properties new.device ≡ g.properties old.device
    pub state : new ≡ record old { device = new.device }
