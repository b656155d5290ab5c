-- Why no allocator is made, and the memory types of one that is.
use Rattle.std.specs.Prelude.{◌≡◌, ◌⊎◌, ℕ, ℤ, Bool, true, List, map, Err}
use Rattle.gpu_device.specs.declared.metal.device.MetalDevice.{Ghosts}
use Rattle.gpu_values.specs.Refusal.{Refusal, host_out_of_memory}
use Rattle.gpu_metal.specs.MemoryKinds.{locations, is_host}
use Rattle.gpu_metal.specs.Residency.{AnswersSet, set_refusal}

-- of each memory type, whether its blocks are of the host's sizes, and its page size, which is 1
abbrev pub kinds_of_device : List (Bool × ℕ)
kinds_of_device = map (λ location. (is_host location, 1)) locations

-- the host refused memory before the device was asked anything, or the device refused a set that is wanted
abbrev pub IsNotMade : {D : Type 0} → Ghosts D → (wanted : Bool) → Refusal → (old new : D) → Type 0
IsNotMade g wanted refusal old new =
    ((refusal ≡ host_out_of_memory) × (new ≡ old)) ⊎ ((refusal ≡ set_refusal) × (wanted ≡ true) × (code : ℤ) × AnswersSet g old (Err code) new)
