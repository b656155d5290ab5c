-- The memory types that an allocation asks are there.
use Rattle.std.proofs.Common.{◌≡◌, ℕ, suc, ◌+◌, ◌<◌, ◌&&◌, not, Bool, true, false, if◌then◌else◌, List, [], ◌∷◌, length, Option, Some, None, Ok, Err, arith}
use Rattle.gpu_device.specs.declared.vulkan.types.MemoryTypeInfo.{MemoryTypeInfo}
use Rattle.gpu_vulkan.specs.Allocate.{is_for_upload, is_short}
use Rattle.gpu_vulkan.specs.Attempt.{Answer}
use Rattle.gpu_vulkan.specs.Step.{next_by}
use Rattle.gpu_vulkan.specs.Choice.{serves, first_from, first_type, preferred, required, or_else, best_type}
use Rattle.gpu_vulkan.specs.Setup.{Setup}
use Rattle.gpu_vulkan.specs.declared.describe.AllocationCreateDesc.{AllocationCreateDesc}
use Rattle.gpu_core.proofs.Options.{none_some, some_same}

chosen_below : (b : Bool) (index u n : ℕ) (rest : Option ℕ) → (rest ≡ Some u → u < n) → index < n → (if b then Some index else rest) ≡ Some u → u < n
chosen_below true index u n rest more here is = let same = some_same index u is in omega (arith, here, same)
chosen_below false index u n rest more here is = more is

first_below : (bits flags index : ℕ) (types : List MemoryTypeInfo) (u : ℕ) → first_from bits flags index types ≡ Some u → u < index + length types
first_below bits flags index [] u is = absurd (none_some u is)
first_below bits flags index (info ∷ more) u is =
    chosen_below (serves bits flags index info) index u (index + length (info ∷ more)) (first_from bits flags (suc index) more)
    (λ later. let far = first_below bits flags (suc index) more u later in omega (arith, far))
    (omega arith) is

next_chosen : (b : Bool) (o : Option ℕ) (u n : ℕ) → (o ≡ Some u → u < n) → (if b then o else None) ≡ Some u → u < n
next_chosen true o u n below is = below is
next_chosen false o u n below is = absurd (none_some u is)

pub next_below : (setup : Setup) (d : AllocationCreateDesc) (answer : Answer) (u : ℕ) → next_by setup d answer ≡ Some u → u < length setup.properties.types
next_below setup d (Ok p) u is = absurd (none_some u is)
next_below setup d (Err r) u is =
    next_chosen (is_for_upload d.location && not (is_short r)) (first_type setup.properties.types d.requirements.memory_type_bits (required d.location)) u (length setup.properties.types)
    (λ first. let below = first_below d.requirements.memory_type_bits (required d.location) 0 setup.properties.types u first in omega (arith, below)) is

or_below : (a b : Option ℕ) (t n : ℕ) → (a ≡ Some t → t < n) → (b ≡ Some t → t < n) → or_else a b ≡ Some t → t < n
or_below None b t n one two is = two is
or_below (Some i) b t n one two is = one is

pub best_below : (setup : Setup) (d : AllocationCreateDesc) (t : ℕ) → best_type setup.properties.types d.requirements.memory_type_bits d.location ≡ Some t → t < length setup.properties.types
best_below setup d t is =
    let types = setup.properties.types in
    let bits = d.requirements.memory_type_bits in
    or_below (first_type types bits (preferred d.location)) (first_type types bits (required d.location)) t (length types)
    (λ first. let below = first_below bits (preferred d.location) 0 types t first in omega (arith, below))
    (λ first. let below = first_below bits (required d.location) 0 types t first in omega (arith, below)) is
