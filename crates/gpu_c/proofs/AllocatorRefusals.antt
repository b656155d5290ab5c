-- With which statuses a request that is served is refused before the driver is asked.
use Rattle.std.proofs.Common.{◌≡◌, ℕ, ◌<◌, ◌==◌, ◌&&◌, Bool, true, false, not, if◌then◌else◌, List, [], ◌∷◌, Option, Some, None, Err, refl, sym, subst, arith, ⊎_elim, inl, inr}
use Rattle.std.specs.Int.{is_power_of_two}
use Rattle.gpu_values.specs.Refusal as refusals
use Rattle.gpu_values.specs.Refusal.{Refusal, refusal_of}
use Rattle.gpu_values.specs.Sizes.{Sizes}
use Rattle.gpu_values.specs.declared.error.AllocationError.{AllocationError}
use Rattle.gpu_device.specs.declared.vulkan.types.MemoryRequirements.{MemoryRequirements}
use Rattle.gpu_pool.specs.Begin as pools
use Rattle.gpu_pool.specs.Allocate.{NeedsNewBlock}
use Rattle.gpu_pool.specs.RequestState.{with_sizes, pool_of}
use Rattle.gpu_pool.specs.declared.requests.Awaited.{Awaited}
use Rattle.gpu_vulkan.specs.Allocate.{is_valid}
use Rattle.gpu_vulkan.specs.declared.describe.AllocationCreateDesc.{AllocationCreateDesc}
use Rattle.gpu_machine.specs.VulkanAttempt.{AttemptsSized, IsAboveLimit, BeginsWithinHeap}
use Rattle.gpu_machine.specs.VulkanAttempt.Attempts.{tries_whole, tries_left}
use Rattle.gpu_machine.specs.VulkanBegin.{request_in, asking_of, IsTooLarge, Tries, Begins, BeginsIn, BeginsBy, BeginsAt, MakesAttempts, Follows}
use Rattle.gpu_machine.specs.VulkanDescription.{description_of}
use Rattle.gpu_machine.specs.VulkanSmallerBlocks.{sizes_in, sizes_left}
use Rattle.gpu_c.specs.Allocator.{State, Says}
use Rattle.gpu_c.specs.Status as status
use Rattle.gpu_c.specs.Status.{IsOneOf, refusal_status}
use Rattle.gpu_c.specs.declared.allocator_values.AllocatorRequest.{AllocatorRequest}

abbrev pub Told : Refusal → Type 0
Told r = IsOneOf (refusal_status r) (status.no_memory_type ∷ status.out_of_memory ∷ status.host_out_of_memory ∷ status.budget_exceeded ∷ [])

abbrev pub TheOption : Option Refusal → Type 0
TheOption None = ⊥
TheOption (Some r) = Told r

pub no_type_told : Told refusals.no_compatible_memory_type_found
no_type_told = inl refl

pub short_told : Told refusals.out_of_memory
short_told = inr (inl refl)

pub host_told : Told refusals.host_out_of_memory
host_told = inr (inr (inl refl))

pub budget_told : Told refusals.budget_exceeded
budget_told = inr (inr (inr (inl refl)))

pub limited : (x y : Bool) (r : Refusal) → (if x then (if y then None else Some refusals.budget_exceeded) else Some refusals.out_of_memory) ≡ Some r → Told r
limited true true r e = absurd (grind (arith, e))
limited true false r e = subst TheOption e budget_told
limited false y r e = subst TheOption e short_told

module _ (old : State) (d : AllocationCreateDesc) (closed : old.requests.awaited ≡ None) where
  within_told : (sizes : Sizes) (t : ℕ) (is_second : Bool) (e : AllocationError) (new : State) → BeginsWithinHeap sizes old t (description_of d) (asking_of d is_second) (Err e) new → Told (refusal_of e)
  within_told sizes t is_second e new within =
      let requests = with_sizes sizes old.requests in
      let left = with_sizes sizes new.requests in
      let begun : pools.BeginsIn (request_in t d) None requests (Err e) left = subst (λ (o : Option Awaited). pools.BeginsIn (request_in t d) o requests (Err e) left) closed within.begins in
      ⊎_elim (λ starved. subst Told (sym starved) host_told)
      (λ (much : (size : ℕ) × NeedsNewBlock requests.kinds pools.NoneAsked (request_in t d) (pool_of tt requests) size (Some (refusal_of e))). limited _ _ (refusal_of e) much.1.limits)
      begun.0

  sized_told : (sizes : Sizes) (t : ℕ) (is_second : Bool) (e : AllocationError) (new : State) → AttemptsSized sizes old t (description_of d) (asking_of d is_second) (Err e) new → Told (refusal_of e)
  sized_told sizes t is_second e new h =
      ⊎_elim (λ (large : IsTooLarge old t d (Err e) new). subst TheOption (sym large.refused.0) short_told)
      (λ rest. ⊎_elim (λ (above : IsAboveLimit sizes old t (description_of d) (Err e) new). subst TheOption (sym above.refused.0) budget_told)
      (λ (within : BeginsWithinHeap sizes old t (description_of d) (asking_of d is_second) (Err e) new). within_told sizes t is_second e new within)
      rest)
      h

  tried_told : (t : ℕ) (is_second : Bool) (e : AllocationError) (new : State) → Tries old t d is_second (Err e) new → Told (refusal_of e)
  tried_told t is_second e new (tries_whole unlike whole) = sized_told (sizes_in old t) t is_second e new whole
  tried_told t is_second e new (tries_left cause smaller bounded whole again) = sized_told (sizes_left old t) t is_second e new again

  follows_told : (o : Option ℕ) (r : Refusal) (e : AllocationError) (new : State) → Told r → Follows old d o r (Err e) new → Told (refusal_of e)
  follows_told None r e new told h = subst TheOption (sym h.0) told
  follows_told (Some t) r e new told h = tried_told t true e new h

  attempts_told : (t : ℕ) (e : AllocationError) (new : State) → MakesAttempts old t d (Err e) new → Told (refusal_of e)
  attempts_told t e new h = ⊎_elim (λ a. absurd (grind (arith, a.0))) (λ b. follows_told _ (refusal_of b.cause) e new (tried_told t false b.cause old b.tries) b.follows) h

  at_told : (o : Option ℕ) (e : AllocationError) (new : State) → BeginsAt o old d (Err e) new → Told (refusal_of e)
  at_told None e new h = subst TheOption (sym h.0) no_type_told
  at_told (Some t) e new h = attempts_told t e new h

  by_told : (valid : Bool) (e : AllocationError) (new : State) → valid ≡ true → BeginsBy valid old d (Err e) new → Told (refusal_of e)
  by_told true e new is h = at_told _ e new h
  by_told false e new is h = absurd (grind (arith, is))

  in_told : (o : Option Awaited) (e : AllocationError) (new : State) → o ≡ None → is_valid d ≡ true → BeginsIn o old d (Err e) new → Told (refusal_of e)
  in_told None e new shut is h = by_told _ e new is h
  in_told (Some a) e new shut is h = absurd (grind (arith, shut))

-- the refusals of a request that is served
pub begins_told : (old new : State) (d : AllocationCreateDesc) (e : AllocationError) → old.requests.awaited ≡ None → is_valid d ≡ true → Begins old d (Err e) new → Told (refusal_of e)
begins_told old new d e closed is h = in_told old d closed old.requests.awaited e new closed is h

valid_by : (size : ℕ) (aligned : Bool) → 0 < size → aligned ≡ true → (not (size == 0) && aligned) ≡ true
valid_by size aligned s a = grind (arith, s, a)

-- what says something is valid
pub says_valid : (r : AllocatorRequest) (name : List ℕ) (d : AllocationCreateDesc) → Says r name (description_of d) → is_valid d ≡ true
says_valid r name d h = valid_by _ _ (subst (λ (q : MemoryRequirements). 0 < q.size) (sym h.requirements) h.served.sized) (subst (λ (q : MemoryRequirements). is_power_of_two q.alignment ≡ true) (sym h.requirements) h.served.aligned)

-- none of these statuses says that the request is none that is served
pub not_invalid : (n : ℕ) → IsOneOf n (status.no_memory_type ∷ status.out_of_memory ∷ status.host_out_of_memory ∷ status.budget_exceeded ∷ []) → n ≡ status.invalid → ⊥
not_invalid n h e =
    ⊎_elim (λ a. absurd (omega (arith, a, e)))
    (λ b. ⊎_elim (λ a. absurd (omega (arith, a, e))) (λ d. ⊎_elim (λ a. absurd (omega (arith, a, e))) (λ f. ⊎_elim (λ a. absurd (omega (arith, a, e))) (λ g. g) f) d) b) h
