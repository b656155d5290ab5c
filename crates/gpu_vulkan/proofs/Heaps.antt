-- The heaps of a valid device.
use Rattle.std.proofs.Common.{◌≡◌, ◌∙◌, sym, refl, ℕ, ◌<◌, Bool, true, false, length, slice_get, Some}
use Rattle.std.specs.List.{list_any}
use Rattle.std.proofs.lemmas.Bool.{leb-false}
use Rattle.gpu_device.specs.Properties.{Properties}
use Rattle.gpu_device.specs.declared.vulkan.types.MemoryTypeInfo.{MemoryTypeInfo}
use Rattle.gpu_vulkan.specs.Setup.{lacks_heap}
use Rattle.gpu_vulkan.proofs.Taken.{one_passes}

false_true : false ≡ true → ⊥
false_true e = cc

there : (p : Properties) (i : ℕ) (info : MemoryTypeInfo) (b : Bool) → lacks_heap p info ≡ b
    → list_any (lacks_heap p) p.types ≡ false → slice_get p.types i ≡ Some info → info.heap_index < length p.heaps
there p i info true is none at = absurd (false_true (sym none ∙ one_passes (lacks_heap p) p.types i info at is))
there p i info false is none at = leb-false (length p.heaps) info.heap_index is

-- each memory type lies in a heap that is there
pub heap_there : (p : Properties) (i : ℕ) (info : MemoryTypeInfo)
    → list_any (lacks_heap p) p.types ≡ false → slice_get p.types i ≡ Some info → info.heap_index < length p.heaps
heap_there p i info none at = there p i info (lacks_heap p info) refl none at
