-- The first memory type that serves a request is one.
use Rattle.std.proofs.Common.{◌≡◌, ◌<◌, ℕ, List, Option, Some, None, slice_get, refl, arith}
use Rattle.std.specs.Prelude.{IsSomeAnd}
use Rattle.gpu_values.specs.declared.memory_location.MemoryLocation.{MemoryLocation}
use Rattle.gpu_d3d12.specs.declared.category.ResourceCategory.{ResourceCategory}
use Rattle.gpu_d3d12.specs.declared.memory_kind.MemoryKind.{MemoryKind}
use Rattle.gpu_d3d12.specs.MemoryKinds.{KindServes, IsFirstServing}

earlier : (location : MemoryLocation) (category : ResourceCategory) (kinds : List MemoryKind) (i : ℕ) (o : Option MemoryKind)
    → slice_get kinds i ≡ o → IsSomeAnd o (λ k. KindServes location category k)
    → ((k : MemoryKind) → slice_get kinds i ≡ Some k → KindServes location category k → ⊥) → ⊥
earlier location category kinds i None at serves none = absurd serves
earlier location category kinds i (Some k) at serves none = none k at serves

not_before : (location : MemoryLocation) (category : ResourceCategory) (kinds : List MemoryKind) (i j : ℕ)
    → IsFirstServing location category kinds i → IsFirstServing location category kinds j → i < j → ⊥
not_before location category kinds i j one other before =
    earlier location category kinds i _ refl one.serves (λ k at serves. other.first i k before at serves)

pub one_first : (location : MemoryLocation) (category : ResourceCategory) (kinds : List MemoryKind) (i j : ℕ)
    → IsFirstServing location category kinds i → IsFirstServing location category kinds j → i ≡ j
one_first location category kinds i j one other =
    let here : i < j → ⊥ = not_before location category kinds i j one other in
    let there : j < i → ⊥ = not_before location category kinds j i other one in
    omega (arith, here, there)
