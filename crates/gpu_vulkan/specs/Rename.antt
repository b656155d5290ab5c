-- What renaming an allocation results in.
use Rattle.std.specs.Prelude.{◌≡◌, ℕ, List, IsSomeAnd, string_bytes, Option, Some, None, Result, Ok, Err}
use Rattle.gpu_values.specs.Refusal.{refusal_of, host_out_of_memory}
use Rattle.gpu_values.specs.declared.error.AllocationError.{AllocationError}
use Rattle.gpu_core.specs.declared.piece.Piece.{Piece}
use Rattle.gpu_device.specs.declared.vulkan.types.DeviceMemory.{DeviceMemory}
use Rattle.gpu_vulkan.specs.Blocks.{Slots}
use Rattle.gpu_core.specs.Blocks.{slots_at}
use Rattle.gpu_core.specs.Rename.{IsNotNamed, IsRenamed}
use Rattle.gpu_vulkan.specs.Live.{is_same_memory}
use Rattle.gpu_vulkan.specs.Live.{piece_of, IsLive}
use Rattle.gpu_vulkan.specs.declared.allocation.Allocation.{Allocation}

-- the allocation has that name, and all else of it is as it was
pub record IsNamed (old : Allocation) (name : List ℕ) (new : Allocation) : Type 0 where
  pub has_name : IsSomeAnd new.name (λ s. string_bytes s ≡ name)
  pub others : new ≡ record old { name = new.name }

-- a live piece's record and its allocation are named, or neither is; of a null allocation its own name alone changes
abbrev pub RenamesBy : Allocation → Option (Piece DeviceMemory) → (name : List ℕ) → Slots → Result (Unit {0}) AllocationError → Allocation → Slots → Type 0
RenamesBy a None name old (Ok _) b new = IsNamed a name b × (new ≡ old)
RenamesBy a None name old (Err e) b new = (refusal_of e ≡ host_out_of_memory) × (b ≡ a) × (new ≡ old)
RenamesBy a (Some p) name old (Ok _) b new = IsNamed a name b × IsRenamed is_same_memory a.memory_type_index p name old new
RenamesBy a (Some p) name old (Err e) b new = IsNotNamed is_same_memory (slots_at old a.memory_type_index) p (refusal_of e) × (b ≡ a) × (new ≡ old)

abbrev pub Renames : Allocation → (name : List ℕ) → Slots → Result (Unit {0}) AllocationError → Allocation → Slots → Type 0
Renames a name old result b new = RenamesBy a (piece_of a) name old result b new

-- what was live is live
abbrev pub StayLive : (old new : Slots) → Type 0
StayLive old new = (a : Allocation) → IsLive old a → IsLive new a
