-- An allocation with another name is the same piece.
use Rattle.std.proofs.Common.{ℕ, List, Result, Ok, Err, sym, subst}
use Rattle.gpu_values.specs.declared.error.AllocationError.{AllocationError}
use Rattle.gpu_d3d12.specs.Blocks.{Slots}
use Rattle.gpu_pool.specs.Allocation.{AreDistinct}
use Rattle.gpu_d3d12.specs.Live.{Allocation, IsLive}
use Rattle.gpu_pool.specs.Allocation.{NamesBy}

-- what follows of both allocations, where the name alone may differ
named_by : (P : Allocation → Type 0) (a b : Allocation) (name : List ℕ) (result : Result (Unit {0}) AllocationError) → NamesBy a name result b → P (record a { name = b.name }) → P a → P b
named_by P a b name (Ok u) names with_name same = subst P (sym names.others) with_name
named_by P a b name (Err e) names with_name same = subst P (sym names) same

pub live_named : (slots : Slots) (a b : Allocation) (name : List ℕ) (result : Result (Unit {0}) AllocationError) → NamesBy a name result b → IsLive slots a → IsLive slots b
live_named slots a b name result names live = named_by (λ x. IsLive slots x) a b name result names live live

pub alike_named : (a b : Allocation) (name : List ℕ) (result : Result (Unit {0}) AllocationError) → NamesBy a name result b → (d : Allocation) → AreDistinct a d → AreDistinct b d
alike_named a b name result names d apart = named_by (λ x. AreDistinct x d) a b name result names apart apart
