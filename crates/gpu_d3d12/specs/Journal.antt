-- Which resources are out, by what was made and released since the device was handed in.
use Rattle.std.specs.Prelude.{◌≡◌, ◌⊎◌, ℕ, nat_eq, Bool, true, false, not, cond, List, [], ◌∷◌, filter, Option, Some, None, Result, Ok, Err}
use Rattle.std.specs.FinMap.{get}
use Rattle.std.specs.List.{list_any}
use Rattle.gpu_device.specs.D3D12.{Held, Entry, Heap, Committed, Placed}
use Rattle.gpu_values.specs.declared.error.AllocationError.{AllocationError}
use Rattle.gpu_device.specs.declared.d3d12.types.ID3D12Resource.{ID3D12Resource}
use Rattle.gpu_d3d12.specs.declared.journal.Journal.{Journal}
use Rattle.gpu_d3d12.specs.declared.journal.ResourceEvent.{ResourceEvent}
use Rattle.gpu_d3d12.specs.declared.journal.ResourceEvent.TheVariants.{Made, Released}

-- what happened, newest first
abbrev pub events : Journal → List ResourceEvent
events j = j.history

-- the number is in the list
abbrev pub is_in : List ℕ → ℕ → Bool
is_in numbers n = list_any (λ m. nat_eq m n) numbers

-- the numbers of the resources that are out: made, and not released since
abbrev pub out : List ResourceEvent → List ℕ
out [] = []
out (Made r ∷ events) = r.0 ∷ out events
out (Released r ∷ events) = filter (λ n. not (nat_eq n r.0)) (out events)

-- the numbers that were released, but weren't those of a resource that was out
abbrev pub strays : List ResourceEvent → List ℕ
strays [] = []
strays (Made r ∷ events) = strays events
strays (Released r ∷ events) = cond (is_in (out events) r.0) (strays events) (r.0 ∷ strays events)

-- the number of a resource that is granted
abbrev pub number_in : Result ID3D12Resource AllocationError → Option ℕ
number_in (Ok resource) = Some resource.0
number_in (Err e) = None

-- the events after an answer: a resource that is granted is made
abbrev pub with_made : Option ℕ → List ResourceEvent → List ResourceEvent
with_made None events = events
with_made (Some number) events = Made (record { 0 = number }) ∷ events

-- the events after a resource was given back: one that is released is out no more
abbrev pub with_released : {E : Type 0} → ID3D12Resource → Result (Unit {0}) E → List ResourceEvent → List ResourceEvent
with_released r (Ok _) events = Released r ∷ events
with_released r (Err e) events = events

-- a resource has the entry
abbrev pub IsResource : Option Entry → Type 0
IsResource None = ⊥
IsResource (Some (Heap desc)) = ⊥
IsResource (Some (Committed size)) = Unit {0}
IsResource (Some (Placed heap offset size)) = Unit {0}

-- of resources the device holds those that it held at first, and those that are out; what strayed may be gone
pub record HoldsResources (first held : Held) (events : List ResourceEvent) : Type 0 where
  pub stays : (n : ℕ) (e : Entry) → get first n ≡ Some e → is_in (strays events) n ≡ false → get held n ≡ Some e
  pub live : (n : ℕ) → is_in (out events) n ≡ true → IsResource (get held n)
  pub came : (n : ℕ) → IsResource (get held n) → (is_in (out events) n ≡ true) ⊎ (get held n ≡ get first n)
  pub new : (n : ℕ) → is_in (out events) n ≡ true → (get first n ≡ None) ⊎ (is_in (strays events) n ≡ true)

-- what was held at first, the resources that are out, and nothing else; what strayed may be gone
pub record IsFirstAndOut (first held : Held) (events : List ResourceEvent) : Type 0 where
  pub stays : (n : ℕ) (e : Entry) → get first n ≡ Some e → is_in (strays events) n ≡ false → get held n ≡ Some e
  pub live : (n : ℕ) → is_in (out events) n ≡ true → IsResource (get held n)
  pub came : (n : ℕ) (e : Entry) → get held n ≡ Some e → (get first n ≡ Some e) ⊎ (is_in (out events) n ≡ true)
  pub new : (n : ℕ) → is_in (out events) n ≡ true → (get first n ≡ None) ⊎ (is_in (strays events) n ≡ true)
