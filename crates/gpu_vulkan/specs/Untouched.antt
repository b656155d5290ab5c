-- What calls that write nothing leave of the device's memory.
use Rattle.std.specs.Prelude.{◌≡◌, ℕ, Some}
use Rattle.std.specs.FinMap.{get}
use Rattle.gpu_device.specs.Held.{Held, Entry}

-- memory that is held before and after is as it was: its size, its type, and each of its bytes
abbrev pub LeavesMemory : (old new : Held) → Type 0
LeavesMemory old new = (number : ℕ) (x y : Entry) → get old number ≡ Some x → get new number ≡ Some y → y ≡ x
