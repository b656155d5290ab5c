-- What freeing an allocation results in.
use Rattle.std.specs.Prelude.{◌≡◌, ℕ, List, IsTrue, Option, Some, None, Result, Ok, Err}
use Rattle.std.specs.FinMap.{remove}
use Rattle.std.specs.List.{slice_set}
use Rattle.std.specs.Option.{is_some}
use Rattle.gpu_values.specs.Refusal.{refusal_of}
use Rattle.gpu_core.specs.TypeRelease.{has_others, ReleasesPiece, IsFreeRefusal}
use Rattle.gpu_core.specs.TypeState.{Slot, slot_at}
use Rattle.gpu_values.specs.declared.error.AllocationError.{AllocationError}
use Rattle.gpu_core.specs.declared.piece.Piece.{Piece}
use Rattle.gpu_device.specs.declared.vulkan.device.VulkanDevice.{Ghosts}
use Rattle.gpu_device.specs.declared.vulkan.types.DeviceMemory.{DeviceMemory}
use Rattle.gpu_device.specs.Held.{bytes_of}
use Rattle.gpu_vulkan.specs.BlockAnswer.{free_recorded}
use Rattle.gpu_vulkan.specs.Blocks.{Slots}
use Rattle.gpu_core.specs.Blocks.{slots_at}
use Rattle.gpu_vulkan.specs.Live.{is_same_memory, IsLiveIn, piece_of}
use Rattle.gpu_vulkan.specs.declared.allocation.Allocation.{Allocation}

-- the device after the memory of a block went back, once: it holds all else as before, and was asked nothing
pub record IsWithout {D : Type 0} (g : Ghosts D) (old : D) (memory : DeviceMemory) (new : D) : Type 0 where
  pub held : g.held new ≡ remove (g.held old) memory.0
  pub history : g.history new ≡ free_recorded (is_some (bytes_of (g.held old) memory.0)) memory (g.history old)
  pub count : g.refused new ≡ g.refused old
  pub latest : g.latest new ≡ g.latest old
  pub constant : g.properties new ≡ g.properties old

abbrev pub GivesBack : {D : Type 0} → Ghosts D → (old : D) → Option DeviceMemory → (new : D) → Type 0
GivesBack g old None new = new ≡ old
GivesBack g old (Some memory) new = IsWithout g old memory new

-- a piece of the t-th memory type went, and its block with it where that goes
pub record IsReleased {D : Type 0} (g : Ghosts D) (t : ℕ) (p : Piece DeviceMemory) (old : Slots) (device : D) (new : Slots) (after : D) : Type 0 where
  pub went : Option DeviceMemory
  pub left : List (Option (Slot DeviceMemory))
  pub releases : ReleasesPiece (IsTrue (has_others (slots_at old t))) (slots_at old t) p went left
  pub slots : new ≡ slice_set old t left
  pub gives_back : GivesBack g device went after

-- a live piece goes; of one that isn't live nothing changes, and the allocation comes back as it was
abbrev pub FreesPiece : {D : Type 0} → Ghosts D → Allocation → Option (Piece DeviceMemory) → Slots → D → Result (Unit {0}) (AllocationError × Allocation) → Slots → D → Type 0
FreesPiece g a None old device (Ok _) new after = (new ≡ old) × (after ≡ device)
FreesPiece g a None old device (Err e) new after = ⊥
FreesPiece g a (Some p) old device (Ok _) new after =
    IsLiveIn old a.memory_type_index (Some p) × IsReleased g a.memory_type_index p old device new after
FreesPiece g a (Some p) old device (Err e) new after =
    (IsLiveIn old a.memory_type_index (Some p) → ⊥)
    × IsFreeRefusal is_same_memory p (slot_at (slots_at old a.memory_type_index) p.slot) (refusal_of e.0)
    × (e.1 ≡ a) × (new ≡ old) × (after ≡ device)

-- a null allocation is nothing to give back
abbrev pub AllocatorFrees : {D : Type 0} → Ghosts D → Allocation → Slots → D → Result (Unit {0}) (AllocationError × Allocation) → Slots → D → Type 0
AllocatorFrees g a old device result new after = FreesPiece g a (piece_of a) old device result new after
