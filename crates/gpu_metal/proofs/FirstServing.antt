-- The first memory type that serves a location is one.
use Rattle.std.proofs.Common.{◌≡◌, ◌<◌, ℕ, Option, Some, None, slice_get, refl, arith}
use Rattle.std.specs.Prelude.{IsSomeAnd}
use Rattle.gpu_values.specs.declared.memory_location.MemoryLocation.{MemoryLocation}
use Rattle.gpu_metal.specs.MemoryKinds.{locations, LocationServes, IsFirstServing}

earlier : (asked : MemoryLocation) (i : ℕ) (o : Option MemoryLocation) → slice_get locations i ≡ o → IsSomeAnd o (λ k. LocationServes asked k)
    → ((k : MemoryLocation) → slice_get locations i ≡ Some k → LocationServes asked k → ⊥) → ⊥
earlier asked i None at serves none = absurd serves
earlier asked i (Some k) at serves none = none k at serves

not_before : (asked : MemoryLocation) (i j : ℕ) → IsFirstServing asked i → IsFirstServing asked j → i < j → ⊥
not_before asked i j one other before = earlier asked i _ refl one.serves (λ k at serves. other.first i k before at serves)

pub one_first : (asked : MemoryLocation) (i j : ℕ) → IsFirstServing asked i → IsFirstServing asked j → i ≡ j
one_first asked i j one other =
    let here : i < j → ⊥ = not_before asked i j one other in
    let there : j < i → ⊥ = not_before asked j i other one in
    omega (arith, here, there)
