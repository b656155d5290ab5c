-- With which statuses requests that are served are refused before the device is asked.
use Rattle.std.proofs.Common.{◌≡◌, ℕ, ◌<◌, ◌==◌, ◌&&◌, Bool, true, false, not, if◌then◌else◌, List, [], ◌∷◌, Option, Some, None, Err, refl, sym, subst, arith, ⊎_elim, inl, inr}
use Rattle.std.specs.Int.{is_power_of_two}
use Rattle.gpu_values.specs.Refusal as refusals
use Rattle.gpu_values.specs.Refusal.{Refusal, refusal_of}
use Rattle.gpu_values.specs.declared.error.AllocationError.{AllocationError}
use Rattle.gpu_pool.specs.Begin as pools
use Rattle.gpu_pool.specs.Allocate.{NeedsNewBlock}
use Rattle.gpu_pool.specs.RequestState.{pool_of}
use Rattle.gpu_pool.specs.declared.requests.Awaited.{Awaited}
use Rattle.gpu_metal.specs.Allocate.{request_in, is_valid}
use Rattle.gpu_metal.specs.declared.describe.AllocationCreateDesc.{AllocationCreateDesc}
use Rattle.gpu_machine.specs.MetalBegin as machine
use Rattle.gpu_machine.specs.MetalBegin.{Begins, BeginsIn, BeginsBy}
use Rattle.gpu_machine.specs.MetalState.{State}
use Rattle.gpu_c.specs.MetalHeaps.{Says}
use Rattle.gpu_c.specs.Status as status
use Rattle.gpu_c.specs.Status.{IsOneOf, refusal_status}
use Rattle.gpu_c.specs.declared.metal_heaps_values.MetalHeapsRequest.{MetalHeapsRequest}

abbrev pub Told : Refusal → Type 0
Told r = IsOneOf (refusal_status r) (status.out_of_memory ∷ status.host_out_of_memory ∷ status.budget_exceeded ∷ [])

abbrev TheOption : Option Refusal → Type 0
TheOption None = ⊥
TheOption (Some r) = Told r

short_told : Told refusals.out_of_memory
short_told = inl refl

host_told : Told refusals.host_out_of_memory
host_told = inr (inl refl)

budget_told : Told refusals.budget_exceeded
budget_told = inr (inr (inl refl))

limited : (x y : Bool) (r : Refusal) → (if x then (if y then None else Some refusals.budget_exceeded) else Some refusals.out_of_memory) ≡ Some r → Told r
limited true true r e = absurd (grind (arith, e))
limited true false r e = subst TheOption e budget_told
limited false y r e = subst TheOption e short_told

module _ (old new : State) (d : AllocationCreateDesc) (e : AllocationError) (closed : old.requests.awaited ≡ None) where
  begun_told : machine.IsBegun d old (Err e) new → Told (refusal_of e)
  begun_told h =
      let begun : pools.BeginsIn (request_in h.memory_type d) None old.requests (Err e) new.requests =
      subst (λ (o : Option Awaited). pools.BeginsIn (request_in h.memory_type d) o old.requests (Err e) new.requests) closed h.begins in
      ⊎_elim (λ starved. subst Told (sym starved) host_told)
      (λ (much : (size : ℕ) × NeedsNewBlock old.requests.kinds pools.NoneAsked (request_in h.memory_type d) (pool_of tt old.requests) size (Some (refusal_of e))). limited _ _ (refusal_of e) much.1.limits)
      begun.0

  by_told : (valid : Bool) → valid ≡ true → BeginsBy d valid old (Err e) new → Told (refusal_of e)
  by_told true is h = begun_told h
  by_told false is h = absurd (grind (arith, is))

  in_told : (o : Option Awaited) → o ≡ None → is_valid d ≡ true → BeginsIn o old d (Err e) new → Told (refusal_of e)
  in_told None shut is h = by_told _ is h
  in_told (Some a) shut is h = absurd (grind (arith, shut))

  pub begins_told : is_valid d ≡ true → Begins old d (Err e) new → Told (refusal_of e)
  begins_told is h = in_told old.requests.awaited closed is h

valid_by : (size : ℕ) (aligned : Bool) → 0 < size → aligned ≡ true → (not (size == 0) && aligned) ≡ true
valid_by size aligned s a = grind (arith, s, a)

-- what says something is valid
pub says_valid : (r : MetalHeapsRequest) (name : List ℕ) (d : AllocationCreateDesc) → Says r name d → is_valid d ≡ true
says_valid r name d h = valid_by _ _ (subst (λ (n : ℕ). 0 < n) (sym h.size_is) h.asked.0.sized) (subst (λ (n : ℕ). is_power_of_two n ≡ true) (sym h.alignment_is) h.asked.0.aligned)

-- none of these statuses says that the request is none that is served
pub not_invalid : (n : ℕ) → IsOneOf n (status.out_of_memory ∷ status.host_out_of_memory ∷ status.budget_exceeded ∷ []) → n ≡ status.invalid → ⊥
not_invalid n h e =
    ⊎_elim (λ a. absurd (omega (arith, a, e))) (λ b. ⊎_elim (λ a. absurd (omega (arith, a, e))) (λ d. ⊎_elim (λ a. absurd (omega (arith, a, e))) (λ g. g) d) b) h
