-- What a refused request by flags leaves, and with which statuses it is refused.
use Rattle.std.proofs.Common.{◌≡◌, ◌∙◌, ℕ, Bool, true, false, Option, Some, None, Err, sym, ap, subst, arith, ⊎_elim}
use Rattle.gpu_values.specs.Refusal as refusals
use Rattle.gpu_values.specs.Refusal.{Refusal, refusal_of}
use Rattle.gpu_values.specs.Sizes.{Sizes}
use Rattle.gpu_values.specs.declared.error.AllocationError.{AllocationError}
use Rattle.gpu_pool.specs.Begin as pools
use Rattle.gpu_pool.specs.Allocate.{NeedsNewBlock}
use Rattle.gpu_pool.specs.RequestState.{RequestState, with_sizes, pool_of}
use Rattle.gpu_pool.specs.declared.requests.Awaited.{Awaited}
use Rattle.gpu_pool.proofs.Beginning.{sized_back}
use Rattle.gpu_vulkan.specs.Allocate.{is_valid}
use Rattle.gpu_vulkan.specs.declared.describe.AllocationCreateDesc.{AllocationCreateDesc}
use Rattle.gpu_vulkan.specs.declared.preference.Preference.{Preference}
use Rattle.gpu_machine.specs.VulkanAttempt.{request_said, AttemptsSized, IsAboveHeap, IsAboveLimit, BeginsWithinHeap, NeedsBlock, PlacesWithinHeap}
use Rattle.gpu_machine.specs.VulkanAttempt.Attempts.{tries_whole, tries_left}
use Rattle.gpu_machine.specs.VulkanByFlags.{asking_by_flags, AttemptsIf, GoesDown, BeginsDown, BeginsDownIn, BeginsDownBy}
use Rattle.gpu_machine.specs.VulkanByFlags.GoesDown.{ends, settles, goes_on}
use Rattle.gpu_machine.specs.VulkanDescription.{Description, description_of}
use Rattle.gpu_machine.specs.VulkanSmallerBlocks.{sizes_in, sizes_left}
use Rattle.gpu_c.specs.Allocator.{State}
use Rattle.gpu_c.specs.declared.mapped_memory.MappedMemory.{MappedMemory}
use Rattle.gpu_c.proofs.AllocatorRefusals.{Told, TheOption, no_type_told, short_told, host_told, budget_told, limited}

begun_told : (requests left : RequestState MappedMemory) (t : ℕ) (k : Description) (e : AllocationError) → requests.awaited ≡ None → pools.Begins (request_said t k) requests (Err e) left
    → Told (refusal_of e) × (left ≡ requests)
begun_told requests left t k e closed begins =
    let begun : pools.BeginsIn (request_said t k) None requests (Err e) left = subst (λ (o : Option Awaited). pools.BeginsIn (request_said t k) o requests (Err e) left) closed begins in (
      ⊎_elim (λ starved. subst Told (sym starved) host_told)
          (λ (much : (size : ℕ) × NeedsNewBlock requests.kinds pools.NoneAsked (request_said t k) (pool_of tt requests) size (Some (refusal_of e))). limited _ _ (refusal_of e) much.1.limits)
          begun.0,
      begun.1,
    )

module _ (p : Preference) (old : State) (closed : old.requests.awaited ≡ None) where
  sized_told : (sizes : Sizes) (t : ℕ) (k : Description) (e : AllocationError) (new : State) → AttemptsSized sizes old t k (asking_by_flags p t k) (Err e) new → Told (refusal_of e) × (new ≡ old)
  sized_told sizes t k e new h =
      ⊎_elim (λ (large : IsAboveHeap old t k (Err e) new). (subst TheOption (sym large.refused.0) short_told, large.refused.1))
      (λ more. ⊎_elim (λ (above : IsAboveLimit sizes old t k (Err e) new). (subst TheOption (sym above.refused.0) budget_told, above.refused.1))
      (λ (within : BeginsWithinHeap sizes old t k (asking_by_flags p t k) (Err e) new).
      let told = begun_told (with_sizes sizes old.requests) (with_sizes sizes new.requests) t k e closed within.begins in
      (told.0, within.state ∙ ap (λ (r : RequestState MappedMemory). record old { requests = r }) (sized_back sizes new.requests old.requests within.sizes_stay told.1)))
      more)
      h

  attempt_told : (never : Bool) (t : ℕ) (k : Description) (e : AllocationError) (new : State) → AttemptsIf p never old t k (Err e) new → Told (refusal_of e) × (new ≡ old)
  attempt_told false t k e new (tries_whole unlike whole) = sized_told (sizes_in old t) t k e new whole
  attempt_told false t k e new (tries_left cause smaller bounded whole again) = sized_told (sizes_left old t) t k e new again
  attempt_told true t k e new h =
      ⊎_elim (λ (large : IsAboveHeap old t k (Err e) new). (subst TheOption (sym large.refused.0) short_told, large.refused.1))
      (λ rest. ⊎_elim (λ (needs : NeedsBlock old t k (Err e) new). (subst TheOption (sym needs.refused.0) short_told, needs.refused.1))
      (λ (within : PlacesWithinHeap old t k (Err e) new).
      let told = begun_told old.requests new.requests t k e closed within.begins in
      (told.0, within.state ∙ ap (λ (r : RequestState MappedMemory). record old { requests = r }) told.1))
      rest)
      h

  down_told : (e : AllocationError) (new : State) (k : Description) (last : Refusal) → Told last → GoesDown p old (Err e) new k last → Told (refusal_of e) × (new ≡ old)
  down_told e new k last told (ends none refused) = (subst TheOption (sym refused.0) told, refused.1)
  down_told e new k last told (settles t cheapest attempt settled) = attempt_told p.never_allocate t k e new attempt
  down_told e new k last told (goes_on t cause cheapest attempt lacks rest) = down_told e new _ (refusal_of cause) (attempt_told p.never_allocate t k cause old attempt).0 rest

  by_told : (valid : Bool) (d : AllocationCreateDesc) (e : AllocationError) (new : State) → valid ≡ true → BeginsDownBy p valid old (description_of d) (Err e) new → Told (refusal_of e) × (new ≡ old)
  by_told true d e new is h = down_told e new (description_of d) refusals.no_compatible_memory_type_found no_type_told h
  by_told false d e new is h = absurd (grind (arith, is))

-- a refused request that is served: its status is one of these, and nothing changes
pub down_refused : (p : Preference) (old new : State) (d : AllocationCreateDesc) (e : AllocationError) → old.requests.awaited ≡ None → is_valid d ≡ true → BeginsDown p old d (Err e) new
    → Told (refusal_of e) × (new ≡ old)
down_refused p old new d e closed is h = by_told p old closed (is_valid d) d e new is (subst (λ (o : Option Awaited). BeginsDownIn p o old d (Err e) new) closed h)
