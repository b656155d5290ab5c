-- The numbers go on owning their pieces and resources.
use Rattle.std.proofs.Common.{◌≡◌, ◌≢◌, ◌∙◌, ℕ, Option, Some, None, ap, sym, subst, inl, inr}
use Rattle.std.specs.Prelude.{Contains, IsSome}
use Rattle.std.specs.FinMap.{get}
use Rattle.std.proofs.lemmas.Bool.{cases_eq}
use Rattle.gpu_d3d12.specs.Blocks.{Slots}
use Rattle.gpu_d3d12.specs.Committed.{Committed, records_at}
use Rattle.gpu_pool.specs.Allocation.{AreDistinct, StayLive}
use Rattle.gpu_d3d12.specs.Live.{Allocation, IsLive}
use Rattle.gpu_d3d12.specs.Blocks.{is_same_heap}
use Rattle.gpu_d3d12.specs.Resource.{IsBeside, IsNewIn, record_of}
use Rattle.gpu_d3d12.specs.State.{Model}
use Rattle.gpu_d3d12.specs.declared.committed_record.CommittedRecord.{CommittedRecord}
use Rattle.gpu_d3d12.specs.declared.resource.Resource.{Resource}
use Rattle.gpu_run.specs.Bindings.{bind, AreOwn}
use Rattle.gpu_run.proofs.Binding.{bound_here, bound_other}
use Rattle.gpu_run.proofs.Owning.{own_kept, own_bound, own_freed, own_changed_in_place}
use Rattle.gpu_run.specs.D3D12Session.{SessionState, IsOwn, IsKept, IsLiveResource, ArePiecesApart, AreApart}
use Rattle.gpu_run.proofs.D3D12Serving.{distinct_sym}

pieces_sym : (a b : Option Allocation) → ArePiecesApart a b → ArePiecesApart b a
pieces_sym (Some a) (Some b) h = distinct_sym a b h
pieces_sym None (Some b) h = tt
pieces_sym a b h = tt

apart_sym : (r q : Resource) → AreApart r q → AreApart q r
apart_sym r q h = record { numbers = λ e. h.numbers (sym e); pieces = pieces_sym r.allocation q.allocation h.pieces }

none_some : {T : Type 0} (a : T) → None ≡ Some a → ⊥
none_some a e = cc

some_same : {T : Type 0} (a b : T) → Some a ≡ Some b → a ≡ b
some_same a b e = cc

none_is : {T : Type 0} (o : Option T) → o ≡ None → IsSome o → ⊥
none_is None e h = cc
none_is (Some a) e h = none_some a (sym e)

-- ---- what is live later

-- what was live, held and kept of records is so still
pub record HasMore (old new : Model) : Type 0 where
  pub live : StayLive is_same_heap old.pool.slots new.pool.slots
  pub beside : (n : ℕ) → IsSome (get old.pool.source.beside n) → IsSome (get new.pool.source.beside n)
  pub records : (t : ℕ) (q : CommittedRecord) → Contains (records_at old.committed t) q → Contains (records_at new.committed t) q

kept_more : (old new : Model) (r : Resource) (piece : Option Allocation) → HasMore old new → IsKept old.pool.slots old.committed r piece → IsKept new.pool.slots new.committed r piece
kept_more old new r None more h = more.records r.memory_type_index (record_of r) h
kept_more old new r (Some a) more h = more.live a h

more_resource : (old new : Model) (r : Resource) → HasMore old new → IsLiveResource old r → IsLiveResource new r
more_resource old new r more h = record { kept = kept_more old new r r.allocation more h.kept; held = more.beside r.resource.0 h.held }

-- nothing is held beside the blocks that wasn't, and the records are the same
pub more_by : (old new : Model) → StayLive is_same_heap old.pool.slots new.pool.slots → new.pool.source.beside ≡ old.pool.source.beside → new.committed ≡ old.committed → HasMore old new
more_by old new live beside committed = record {
  live = live;
  beside = λ n h. subst (λ b. IsSome (get b n)) (sym beside) h;
  records = λ t q h. subst (λ c. Contains (records_at c t) q) (sym committed) h;
}

-- ---- pieces of allocations, beside those of resources

-- the piece of a live resource isn't one that is new
beside_new : (slots : Slots) (committed : Committed) (a : Allocation) (r : Resource) (piece : Option Allocation) → IsKept slots committed r piece → ((b : Allocation) → IsLive slots b → AreDistinct b a) → IsBeside a piece
beside_new slots committed a r None kept new = tt
beside_new slots committed a r (Some p) kept new = distinct_sym p a (new p kept)

module _ (old : SessionState) (own : IsOwn old) where
  -- one number of an allocation stands for something else
  beside_bound : (new : SessionState) (key : ℕ) (to : Option Allocation) → new.bound ≡ bind old.bound key to → new.resources ≡ old.resources
      → ((a : Allocation) (other : ℕ) (r : Resource) → to ≡ Some a → old.resources other ≡ Some r → IsBeside a r.allocation)
      → (k other : ℕ) (a : Allocation) (r : Resource) → new.bound k ≡ Some a → new.resources other ≡ Some r → IsBeside a r.allocation
  beside_bound new key to is same here k other a r e f =
      let at = ap (λ b. b k) is in
      let was = sym (ap (λ b. b other) same) ∙ f in
      elim (cases_eq key k) [
        | inl this ↦ here a other r (sym (at ∙ bound_here old.bound key k to this) ∙ e) was
        | inr apart ↦ own.beside k other a r (sym (at ∙ bound_other old.bound key k to apart) ∙ e) was
      ]

  -- one number of a resource does
  beside_made : (new : SessionState) (key : ℕ) (to : Option Resource) → new.bound ≡ old.bound → new.resources ≡ bind old.resources key to
      → ((a : Allocation) (k : ℕ) (r : Resource) → to ≡ Some r → old.bound k ≡ Some a → IsBeside a r.allocation)
      → (k other : ℕ) (a : Allocation) (r : Resource) → new.bound k ≡ Some a → new.resources other ≡ Some r → IsBeside a r.allocation
  beside_made new key to same is here k other a r e f =
      let at = ap (λ b. b other) is in
      let was = sym (ap (λ b. b k) same) ∙ e in
      elim (cases_eq key other) [
        | inl this ↦ here a k r (sym (at ∙ bound_here old.resources key other to this) ∙ f) was
        | inr apart ↦ own.beside k other a r was (sym (at ∙ bound_other old.resources key other to apart) ∙ f)
      ]

  -- ---- what each call leaves

  resources_more : (new : SessionState) → new.resources ≡ old.resources → HasMore old.model new.model → AreOwn (IsLiveResource new.model) AreApart new.resources
  resources_more new same more =
      own_kept (IsLiveResource old.model) (IsLiveResource new.model) AreApart apart_sym old.resources own.resources new.resources same (λ r h. more_resource old.model new.model r more h)

  allocations_more : (new : SessionState) → new.bound ≡ old.bound → HasMore old.model new.model → AreOwn (IsLive new.model.pool.slots) AreDistinct new.bound
  allocations_more new same more = own_kept (IsLive old.model.pool.slots) (IsLive new.model.pool.slots) AreDistinct distinct_sym old.bound own.allocations new.bound same more.live

  -- all numbers stand for what they stood for
  pub owns_still : (new : SessionState) → new.bound ≡ old.bound → new.resources ≡ old.resources → HasMore old.model new.model → IsOwn new
  owns_still new same also more = record {
    allocations = allocations_more new same more;
    resources = resources_more new also more;
    beside = λ k other a r e f. own.beside k other a r (sym (ap (λ b. b k) same) ∙ e) (sym (ap (λ b. b other) also) ∙ f);
  }

  -- a number stands for a new allocation
  pub owns_allocated : (new : SessionState) (key : ℕ) (a : Allocation) → new.bound ≡ bind old.bound key (Some a) → new.resources ≡ old.resources → HasMore old.model new.model
      → IsLive new.model.pool.slots a → ((b : Allocation) → IsLive old.model.pool.slots b → AreDistinct b a) → IsOwn new
  owns_allocated new key a is same more live apart = record {
    allocations = own_bound (IsLive old.model.pool.slots) (IsLive new.model.pool.slots) AreDistinct distinct_sym old.bound own.allocations new.bound key a is more.live live apart;
    resources = resources_more new same more;
    beside = beside_bound new key (Some a) is same (λ b other r e was. subst (λ z. IsBeside z r.allocation) (some_same a b e)
        (beside_new old.model.pool.slots old.model.committed a r r.allocation (own.resources.live other r was).kept apart));
  }

  -- an allocation has another name
  pub owns_renamed : (new : SessionState) (key : ℕ) (a b : Allocation) → old.bound key ≡ Some a → new.bound ≡ bind old.bound key (Some b) → new.resources ≡ old.resources
      → HasMore old.model new.model → IsLive new.model.pool.slots b → ((c : Allocation) → AreDistinct a c → AreDistinct b c) → IsOwn new
  owns_renamed new key a b was is same more live alike = record {
    allocations = own_changed_in_place (IsLive old.model.pool.slots) (IsLive new.model.pool.slots) AreDistinct distinct_sym old.bound own.allocations new.bound key a b was is more.live live alike;
    resources = resources_more new same more;
    beside = beside_bound new key (Some b) is same (λ c other r e there. subst (λ z. IsBeside z r.allocation) (some_same b c e)
        (alike_beside r.allocation (own.beside key other a r was there)));
  }
    where
      alike_beside : (piece : Option Allocation) → IsBeside a piece → IsBeside b piece
      alike_beside None h = tt
      alike_beside (Some p) h = alike p h

  -- an allocation is freed
  pub owns_freed : (new : SessionState) (key : ℕ) (a : Allocation) → old.bound key ≡ Some a → new.bound ≡ bind old.bound key None → new.resources ≡ old.resources
      → ((b : Allocation) → IsLive old.model.pool.slots b → AreDistinct b a → IsLive new.model.pool.slots b) → new.model.pool.source.beside ≡ old.model.pool.source.beside
      → new.model.committed ≡ old.model.committed → IsOwn new
  owns_freed new key a was is same keeps beside committed = record {
    allocations = own_freed (IsLive old.model.pool.slots) (IsLive new.model.pool.slots) AreDistinct distinct_sym old.bound own.allocations new.bound key a was is keeps;
    resources = own_kept (λ r. IsLiveResource old.model r × IsBeside a r.allocation) (IsLiveResource new.model) AreApart apart_sym old.resources
        (record { live = λ k r e. (own.resources.live k r e, own.beside key k a r was e); apart = own.resources.apart }) new.resources same
        (λ r h. record {
          kept = kept_beside r r.allocation h.0.kept h.1;
          held = subst (λ b. IsSome (get b r.resource.0)) (sym beside) h.0.held;
        });
    beside = beside_bound new key None is same (λ b other r e there. absurd (none_some b e));
  }
    where
      kept_beside : (r : Resource) (piece : Option Allocation) → IsKept old.model.pool.slots old.model.committed r piece → IsBeside a piece → IsKept new.model.pool.slots new.model.committed r piece
      kept_beside r None kept apart = subst (λ c. Contains (records_at c r.memory_type_index) (record_of r)) (sym committed) kept
      kept_beside r (Some p) kept apart = keeps p kept (distinct_sym a p apart)

  -- a number stands for a new resource
  pub owns_created : (new : SessionState) (key : ℕ) (r : Resource) → new.resources ≡ bind old.resources key (Some r) → new.bound ≡ old.bound → HasMore old.model new.model
      → IsLiveResource new.model r → get old.model.pool.source.beside r.resource.0 ≡ None → IsNewIn old.model.pool.slots new.model.pool.slots r.allocation → IsOwn new
  owns_created new key r is same more live fresh gives = record {
    allocations = allocations_more new same more;
    resources = own_bound (IsLiveResource old.model) (IsLiveResource new.model) AreApart apart_sym old.resources own.resources new.resources key r is
        (λ q h. more_resource old.model new.model q more h) live
        (λ q h. record {
          numbers = λ e. unheld q h e;
          pieces = pieces_new q q.allocation r.allocation h.kept gives;
        });
    beside = beside_made new key (Some r) same is (λ a k q e was. subst (λ (z : Resource). IsBeside a z.allocation) (some_same r q e)
        (new_beside a r.allocation (own.allocations.live k a was) gives));
  }
    where
      unheld : (q : Resource) → IsLiveResource old.model q → q.resource.0 ≡ r.resource.0 → ⊥
      unheld q h e = none_is (get old.model.pool.source.beside q.resource.0) (ap (get old.model.pool.source.beside) e ∙ fresh) h.held

      new_beside : (a : Allocation) (piece : Option Allocation) → IsLive old.model.pool.slots a → IsNewIn old.model.pool.slots new.model.pool.slots piece → IsBeside a piece
      new_beside a None live gives = tt
      new_beside a (Some p) live gives = gives.1 a live

      pieces_new : (q : Resource) (mine piece : Option Allocation) → IsKept old.model.pool.slots old.model.committed q mine → IsNewIn old.model.pool.slots new.model.pool.slots piece → ArePiecesApart mine piece
      pieces_new q None piece kept gives = tt
      pieces_new q (Some p) piece kept gives = new_beside p piece kept gives

  -- a resource is given back
  pub owns_released : (new : SessionState) (key : ℕ) (r : Resource) → old.resources key ≡ Some r → new.resources ≡ bind old.resources key None → new.bound ≡ old.bound
      → ((b : Allocation) → IsLive old.model.pool.slots b → IsBeside b r.allocation → IsLive new.model.pool.slots b)
      → ((n : ℕ) → n ≢ r.resource.0 → IsSome (get old.model.pool.source.beside n) → IsSome (get new.model.pool.source.beside n))
      → ((t : ℕ) (q : CommittedRecord) → q.resource.0 ≢ r.resource.0 → Contains (records_at old.model.committed t) q → Contains (records_at new.model.committed t) q)
      → IsOwn new
  owns_released new key r was is same keeps held records = record {
    allocations = own_kept (λ b. IsLive old.model.pool.slots b × IsBeside b r.allocation) (IsLive new.model.pool.slots) AreDistinct distinct_sym old.bound
        (record { live = λ k b e. (own.allocations.live k b e, own.beside k key b r e was); apart = own.allocations.apart }) new.bound same
        (λ b h. keeps b h.0 h.1);
    resources = own_freed (IsLiveResource old.model) (IsLiveResource new.model) AreApart apart_sym old.resources own.resources new.resources key r was is
        (λ q h apart. record {
          kept = kept_apart q q.allocation h.kept apart.numbers apart.pieces;
          held = held q.resource.0 apart.numbers h.held;
        });
    beside = beside_made new key None same is (λ a k q e there. absurd (none_some q e));
  }
    where
      kept_apart : (q : Resource) (piece : Option Allocation) → IsKept old.model.pool.slots old.model.committed q piece → q.resource.0 ≢ r.resource.0 → ArePiecesApart piece r.allocation
          → IsKept new.model.pool.slots new.model.committed q piece
      kept_apart q None kept apart pieces = records q.memory_type_index (record_of q) apart kept
      kept_apart q (Some p) kept apart pieces = keeps p kept pieces
