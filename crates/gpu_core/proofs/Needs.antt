-- A fresh block serves the request that it was made for.
use Rattle.std.proofs.Common.{◌≡◌, ℕ, ◌<◌, ◌≤◌, Bool, true, false, not, Option, Some, None, refl, inl, inr, arith, sym, ◌∙◌}
use Rattle.gpu_values.specs.declared.error.AllocationError.{AllocationError}
use Rattle.gpu_values.specs.declared.error.AllocationError.TheVariants as errors
use Rattle.gpu_values.specs.Refusal.{refusal_of, host_out_of_memory}
use Rattle.gpu_block_pieces.specs.BlockRefusal.{IsAllocateRefusal}
use Rattle.gpu_block_pieces.specs.Request.{Request}
use Rattle.gpu_block_pieces.specs.Place.{HasNoPlace}
use Rattle.gpu_block_pieces.specs.FreeList.{fresh_free_list}
use Rattle.std.specs.Prelude.{IsNone}
use Rattle.gpu_block.specs.Block.{Block, free_list, dedicated, size_of, is_shared, HasPages, TakesIn, IsAllocateRefusalIn}
use Rattle.gpu_core.specs.TypeTake.{fresh_block}
use Rattle.gpu_block_pieces.proofs.OneOutcome.{chosen_once}
use Rattle.gpu_block_pieces.proofs.Empty.{empty_chosen, empty_has_place}
use Rattle.gpu_core.proofs.Kept.{takes_same}
use Rattle.std.proofs.lemmas.Bool.{false≢true}

pub host_error : (e : AllocationError) → refusal_of e ≡ host_out_of_memory → e ≡ errors.HostOutOfMemory
host_error errors.HostOutOfMemory h = refl
host_error errors.OutOfMemory h = absurd (cc)
host_error (errors.FailedToMap _) h = absurd (cc)
host_error errors.NoCompatibleMemoryTypeFound h = absurd (cc)
host_error errors.InvalidAllocationCreateDesc h = absurd (cc)
host_error (errors.InvalidAllocatorCreateDesc _) h = absurd (cc)
host_error (errors.Internal _) h = absurd (cc)
host_error errors.BarrierLayoutNeedsDevice10 h = absurd (cc)
host_error errors.CastableFormatsRequiresEnhancedBarriers h = absurd (cc)
host_error errors.CastableFormatsRequiresAtLeastDevice12 h = absurd (cc)
host_error errors.BudgetExceeded h = absurd (cc)

-- a fresh free list serves every request up to its size
pub fresh_served : (size granularity : ℕ) (r : Request) → 0 < size → r.size ≤ size → HasNoPlace (fresh_free_list size granularity 2) r → ⊥
fresh_served size granularity r some le h =
    let n = empty_has_place (fresh_free_list size granularity 2) r refl some le h in
    let last = n.1 in
    omega arith

fresh_list_error : (size granularity : ℕ) (r : Request) (e : AllocationError) → 0 < size → r.size ≤ size → IsAllocateRefusal (fresh_free_list size granularity 2) r e → e ≡ errors.HostOutOfMemory
fresh_list_error size granularity r errors.OutOfMemory some le h = absurd (fresh_served size granularity r some le h)
fresh_list_error size granularity r errors.HostOutOfMemory some le h = refl
fresh_list_error size granularity r (errors.FailedToMap _) some le h = absurd h
fresh_list_error size granularity r errors.NoCompatibleMemoryTypeFound some le h = absurd h
fresh_list_error size granularity r errors.InvalidAllocationCreateDesc some le h = absurd h
fresh_list_error size granularity r (errors.InvalidAllocatorCreateDesc _) some le h = absurd h
fresh_list_error size granularity r (errors.Internal _) some le h = absurd h
fresh_list_error size granularity r errors.BarrierLayoutNeedsDevice10 some le h = absurd h
fresh_list_error size granularity r errors.CastableFormatsRequiresEnhancedBarriers some le h = absurd h
fresh_list_error size granularity r errors.CastableFormatsRequiresAtLeastDevice12 some le h = absurd h
fresh_list_error size granularity r errors.BudgetExceeded some le h = absurd h

pub fresh_error : (is_dedicated : Bool) (size granularity : ℕ) (r : Request) (e : AllocationError) → (is_dedicated ≡ true → size ≡ r.size) → r.size ≤ size → 0 < r.size → IsAllocateRefusalIn
    (fresh_block is_dedicated size granularity) r e → e ≡ errors.HostOutOfMemory
fresh_error true size granularity r e exact le some h =
    elim h [
      | inl taken ↦ absurd (false≢true taken.0)
      | inr free ↦ elim free [
        | inl other ↦ absurd (other.1 (sym (exact refl)))
        | inr host ↦ host_error e host.2
      ]
    ]
fresh_error false size granularity r e exact le some h = fresh_list_error size granularity r e (omega arith) le h

pub none_of : {A : Type 0} (o : Option A) → ((x : A) → o ≡ Some x → ⊥) → IsNone o
none_of None h = refl
none_of (Some x) h = absurd (h x refl)

-- a new block has the pages that it is made with
pub fresh_pages : (is_dedicated : Bool) (size granularity : ℕ) → HasPages (fresh_block is_dedicated size granularity) granularity
fresh_pages true size granularity = tt
fresh_pages false size granularity = refl

-- what is taken of a fresh block begins at its start
pub fresh_begins : (is_dedicated : Bool) (size granularity : ℕ) (r : Request) (o n : ℕ) (new : Block) → 0 < r.size → r.size ≤ size → TakesIn (fresh_block is_dedicated size granularity) r o n new → o
    ≡ 0
fresh_begins true size granularity r o n (free_list new) some le t = absurd t
fresh_begins true size granularity r o n (dedicated new) some le t = t.2
fresh_begins false size granularity r o n (free_list new) some le t =
    let b = fresh_free_list size granularity 2 in
    sym (chosen_once b r 0 t.start size t.end 0 o (empty_chosen b r refl (omega arith) le) t.chosen).offsets
fresh_begins false size granularity r o n (dedicated new) some le t = absurd t

fresh_size : (is_dedicated : Bool) (size granularity : ℕ) → size_of (fresh_block is_dedicated size granularity) ≡ size
fresh_size true size granularity = refl
fresh_size false size granularity = refl

fresh_kind : (is_dedicated : Bool) (size granularity : ℕ) → is_shared (fresh_block is_dedicated size granularity) ≡ not is_dedicated
fresh_kind true size granularity = refl
fresh_kind false size granularity = refl

-- what is taken of a fresh block has its size and form
pub fresh_taken : (is_dedicated : Bool) (size granularity : ℕ) (r : Request) (o n : ℕ) (new : Block) → TakesIn (fresh_block is_dedicated size granularity) r o n new → (size_of new ≡ size) ×
    (is_shared new ≡ not is_dedicated)
fresh_taken is_dedicated size granularity r o n new t =
    let same = takes_same (fresh_block is_dedicated size granularity) r o n new t in
    (same.0 ∙ fresh_size is_dedicated size granularity, same.1 ∙ fresh_kind is_dedicated size granularity)
