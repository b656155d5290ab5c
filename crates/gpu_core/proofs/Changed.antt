-- What a call of one memory type is among all of them.
use Rattle.std.proofs.Common.{◌≡◌, ◌≢◌, ◌∙◌, refl, sym, ap, subst, ℕ, zero, suc, [], ◌∷◌, ◌<◌, Bool, List, length, slice_get, slice_set, Option, Some, None, Ok, Err, Result, arith, inl, inr}
use Rattle.std.proofs.Common.{IsTrue, IfOk, IfErr, OnOk, OnErr}
use Rattle.std.proofs.Common.{get_or}
use Rattle.std.proofs.lemmas.Option.{slice_get-get_or}
use Rattle.gpu_values.specs.Refusal.{Refusal, refusal_of}
use Rattle.gpu_values.specs.Sizes.{Sizes}
use Rattle.gpu_values.specs.declared.error.AllocationError.{AllocationError}
use Rattle.gpu_values.specs.declared.error.AllocationError.TheVariants as errors
use Rattle.gpu_block_pieces.specs.Changes.{Said}
use Rattle.gpu_core.specs.TypeState.{TypeState, Slot, slot_at, capacity_of}
use Rattle.gpu_core.specs.TypeRelease.{has_others, ReleasesPiece, RelabelsPiece, IsLive, IsNameRefusal}
use Rattle.gpu_core.specs.TypeTake.{Pending, Installs, asked, NeedsBlock}
use Rattle.gpu_core.specs.TypePrepare.{IsPrepared}
use Rattle.gpu_core.specs.declared.piece.Piece.{Piece}
use Rattle.gpu_core.specs.declared.memory_type.Prepared.{Prepared}
use Rattle.gpu_core.specs.declared.memory_type.Prepared.TheVariants as prepared
use Rattle.gpu_core.specs.declared.piece.Request as type_requests
use Rattle.gpu_core.specs.Blocks.{slots_at, total_capacity}
use Rattle.gpu_core.specs.Release.{ReleasesAt}
use Rattle.gpu_core.specs.Rename.{IsRelabelled, IsNotNamed}
use Rattle.gpu_core.specs.Requests.{refusal_of_need, PreparesAt, NeedsTooMuch, IsPrepareRefusal, InstallsAt}
use Rattle.gpu_core.specs.Types.{Types, slots_of, type_of}
use Rattle.gpu_core.specs.Budgets.{block_refusal}
use Rattle.gpu_core.proofs.Options.{none_some}
use Rattle.gpu_core.proofs.Types.{slots_set, slots_are, slots_same, type_is}

-- what was set is there
set_there : {A : Type 0} (xs : List A) (i : ℕ) (x : A) → i < length xs → slice_get (slice_set xs i x) i ≡ Some x
set_there [] i x below = absurd (omega (arith, below))
set_there (y ∷ ys) zero x below = refl
set_there (y ∷ ys) (suc i) x below = set_there ys i x (omega (arith, below))

-- what a loop or an index reads is there
pub element_at : {A : Type 0} (xs : List A) (i : ℕ) (x : A) → i < length xs → x ≡ get_or xs i x → slice_get xs i ≡ Some x
element_at xs i x below is = slice_get-get_or xs i x below ∙ ap Some (sym is)

-- why a piece isn't named
not_named : {H : Type 0} (eq : H → H → Bool) (slots : List (Option (Slot H))) (p : Piece H) (e : AllocationError)
    → (e ≢ errors.HostOutOfMemory → IsLive eq slots p → ⊥) → (e ≡ errors.HostOutOfMemory → IsLive eq slots p)
    → IsNameRefusal eq p (slot_at slots p.slot) (refusal_of e) → IsNotNamed eq slots p (refusal_of e)
not_named eq slots p errors.HostOutOfMemory dead live cause = inl (live refl, refl)
not_named eq slots p errors.OutOfMemory dead live cause = inr (dead (λ e. cc), λ e. cc, cause)
not_named eq slots p (errors.FailedToMap _) dead live cause = inr (dead (λ e. cc), λ e. cc, cause)
not_named eq slots p errors.NoCompatibleMemoryTypeFound dead live cause = inr (dead (λ e. cc), λ e. cc, cause)
not_named eq slots p errors.InvalidAllocationCreateDesc dead live cause = inr (dead (λ e. cc), λ e. cc, cause)
not_named eq slots p (errors.InvalidAllocatorCreateDesc _) dead live cause = inr (dead (λ e. cc), λ e. cc, cause)
not_named eq slots p (errors.Internal _) dead live cause = inr (dead (λ e. cc), λ e. cc, cause)
not_named eq slots p errors.BarrierLayoutNeedsDevice10 dead live cause = inr (dead (λ e. cc), λ e. cc, cause)
not_named eq slots p errors.CastableFormatsRequiresEnhancedBarriers dead live cause = inr (dead (λ e. cc), λ e. cc, cause)
not_named eq slots p errors.CastableFormatsRequiresAtLeastDevice12 dead live cause = inr (dead (λ e. cc), λ e. cc, cause)
not_named eq slots p errors.BudgetExceeded dead live cause = inr (dead (λ e. cc), λ e. cc, cause)

module _ {H : Type 0} (types : Types H) (i : ℕ) (old new : TypeState H) (at : slice_get types i ≡ Some old) where
  -- the slots of the memory type among those of all
  here : old.slots ≡ slots_at (slots_of types) i
  here = slots_are types i old at

  pub released : (p : Piece H) (r : Result (Option H) AllocationError)
      → IfOk r (λ went. ReleasesPiece (IsTrue (has_others old.slots)) old.slots p went new.slots)
      → IfOk r (λ went. ReleasesAt i p (slots_of types) went (slots_of (slice_set types i new)))
  released p (Ok went) h = record {
    left = new.slots;
    releases = subst (λ (ss : List (Option (Slot H))). ReleasesPiece (IsTrue (has_others ss)) ss p went new.slots) here h;
    slots = slots_set types i new;
  }
  released p (Err e) h = tt

  pub renamed : (eq : H → H → Bool) (p : Piece H) (said : Said) (r : Result (Unit {0}) AllocationError) → OnOk r (IsLive eq old.slots p) → OnOk r (RelabelsPiece old.slots p said new.slots)
      → OnOk r (IsRelabelled eq i p said (slots_of types) (slots_of (slice_set types i new)))
  renamed eq p said (Ok _) live h = record {
    live = subst (λ (ss : List (Option (Slot H))). IsLive eq ss p) here live;
    left = new.slots;
    renames = subst (λ (ss : List (Option (Slot H))). RelabelsPiece ss p said new.slots) here h;
    slots = slots_set types i new;
  }
  renamed eq p said (Err e) live h = tt

  pub installed : (is_dedicated : Bool) (ready : Pending) (handle : H) (p : Piece H) → Installs old.slots is_dedicated ready handle p new.slots
      → InstallsAt i (slots_of types) is_dedicated ready handle p (slots_of (slice_set types i new))
  installed is_dedicated ready handle p h = record {
    left = new.slots;
    installs = subst (λ (ss : List (Option (Slot H))). Installs ss is_dedicated ready handle p new.slots) here h;
    slots = slots_set types i new;
  }

  -- where a memory type keeps its budget and its blocks' sizes, it refuses what it refused
  module _ (budget : new.budget ≡ old.budget) (capacity : capacity_of new.slots ≡ capacity_of old.slots) where
    same_refusal : (used : ℕ) (p : Prepared H) → refusal_of_need used new p ≡ refusal_of_need used (type_of types i) p
    same_refusal used (prepared.Taken p) = refl
    same_refusal used (prepared.NeedBlock need) =
        ap (λ b. block_refusal used b (capacity_of new.slots) need.size) budget
        ∙ ap (λ n. block_refusal used old.budget n need.size) capacity
        ∙ ap (λ (t : TypeState H). block_refusal used t.budget (capacity_of t.slots) need.size) (sym (type_is types i old at))

    pub prepared_at : (sizes : Sizes) (r : type_requests.Request) (result : Result (Prepared H) AllocationError) (prepared : Prepared H)
        → IsPrepared old sizes r prepared new → IfOk result (λ p. p ≡ prepared) → OnOk result (refusal_of_need (total_capacity (slots_of types)) new prepared ≡ None) → i < length types
        → IfOk result (λ p. PreparesAt i types sizes r p (slice_set types i new))
    prepared_at sizes r (Err e) prepared h same fits below = tt
    prepared_at sizes r (Ok p) prepared h same fits below = record {
      prepares =
          subst (λ (t : TypeState H). IsPrepared t sizes r p (type_of (slice_set types i new) i)) (sym (type_is types i old at))
          (subst (λ (t : TypeState H). IsPrepared old sizes r p t) (sym (type_is (slice_set types i new) i new (set_there types i new below)))
          (subst (λ (q : Prepared H). IsPrepared old sizes r q new) (sym same) h));
      fits = sym (same_refusal (total_capacity (slots_of types)) p) ∙ subst (λ (q : Prepared H). refusal_of_need (total_capacity (slots_of types)) new q ≡ None) (sym same) fits;
      slots = slots_set types i new ∙ ap (λ (t : TypeState H). slice_set (slots_of types) i t.slots) (sym (type_is (slice_set types i new) i new (set_there types i new below)));
    }

  -- the slots of one memory type are as they were
  pub same_slots : new.slots ≡ old.slots → slots_of (slice_set types i new) ≡ slots_of types
  same_slots same = slots_set types i new ∙ ap (slice_set (slots_of types) i) (same ∙ here) ∙ slots_same (slots_of types) i

  -- a refusal that has a cause is of a new block that is needed
  refused_need : (sizes : Sizes) (r : type_requests.Request) (used : ℕ) (prepared : Prepared H) (e : Refusal) → IsPrepared old sizes r prepared new
      → refusal_of_need used new prepared ≡ Some e → slots_of (slice_set types i new) ≡ slots_of types
  refused_need sizes r used (prepared.Taken p) e h why = absurd (none_some e why)
  refused_need sizes r used (prepared.NeedBlock need) e h why = same_slots h.2

  pub limits_refused : (sizes : Sizes) (r : type_requests.Request) (used : ℕ) (result : Result (Prepared H) AllocationError) (prepared : Prepared H) → IsPrepared old sizes r prepared new
      → IfErr result (λ e. refusal_of_need used new prepared ≡ Some (refusal_of e)) → OnErr result (slots_of (slice_set types i new) ≡ slots_of types)
  limits_refused sizes r used (Ok p) prepared h why = tt
  limits_refused sizes r used (Err e) prepared h why = refused_need sizes r used prepared (refusal_of e) h why

  module _ (budget : new.budget ≡ old.budget) (capacity : capacity_of new.slots ≡ capacity_of old.slots) where
    too_much : (sizes : Sizes) (r : type_requests.Request) (prepared : Prepared H) (e : Refusal) → IsPrepared old sizes r prepared new
        → refusal_of_need (total_capacity (slots_of types)) new prepared ≡ Some e → NeedsTooMuch i types sizes r e
    too_much sizes r (prepared.Taken p) e h why = absurd (none_some e why)
    too_much sizes r (prepared.NeedBlock need) e h why = record {
      size = need.size;
      is_dedicated = need.dedicated;
      ready = need.room;
      needs = subst (λ (t : TypeState H). NeedsBlock t sizes r.dedicated (asked r) need.size need.dedicated need.room) (sym (type_is types i old at)) h.0;
      above = sym (same_refusal budget capacity (total_capacity (slots_of types)) (prepared.NeedBlock need)) ∙ why;
    }

    pub limits_cause : (sizes : Sizes) (r : type_requests.Request) (result : Result (Prepared H) AllocationError) (prepared : Prepared H) → IsPrepared old sizes r prepared new
        → IfErr result (λ e. refusal_of_need (total_capacity (slots_of types)) new prepared ≡ Some (refusal_of e))
        → IfErr result (λ e. IsPrepareRefusal i types sizes r (refusal_of e))
    limits_cause sizes r (Ok p) prepared h why = tt
    limits_cause sizes r (Err e) prepared h why = inr (too_much sizes r prepared (refusal_of e) h why)

  -- a refusal that isn't for lack of host memory concerns pieces alone that aren't live
  pub named_cause : (eq : H → H → Bool) (p : Piece H) (r : Result (Unit {0}) AllocationError) → IfErr r (λ e. e ≢ errors.HostOutOfMemory → IsLive eq old.slots p → ⊥)
      → IfErr r (λ e. e ≡ errors.HostOutOfMemory → IsLive eq old.slots p) → IfErr r (λ e. IsNameRefusal eq p (slot_at old.slots p.slot) (refusal_of e))
      → IfErr r (λ e. IsNotNamed eq (slots_at (slots_of types) i) p (refusal_of e))
  named_cause eq p (Ok _) dead starved cause = tt
  named_cause eq p (Err e) dead starved cause = subst (λ (ss : List (Option (Slot H))). IsNotNamed eq ss p (refusal_of e)) here (not_named eq old.slots p e dead starved cause)
