-- What asking for a heap is for the source, and a new source.
use Rattle.std.specs.Prelude.{MatchResult}
use Rattle.std.proofs.Common.{◌≡◌, ◌∙◌, refl, sym, ap, subst, ⊎_elim, ℕ, [], slice_get, Option, Some, None, Ok, Err, Result, Bool, true, false}
use Rattle.std.specs.FinMap.{get, insert}
use Rattle.std.specs.List.{IsDistinct}
use Rattle.gpu_values.specs.Refusal.{refusal_of}
use Rattle.gpu_values.specs.declared.error.AllocationError.{AllocationError}
use Rattle.gpu_values.specs.declared.memory_location.MemoryLocation.{MemoryLocation}
use Rattle.gpu_device.specs.Metal.{Held, Entry, Set}
use Rattle.gpu_device.specs.declared.metal.device.MetalDevice.{Ghosts}
use Rattle.gpu_device.specs.declared.metal.types.MTLHeap.{MTLHeap}
use Rattle.gpu_device.specs.declared.metal.types.MTLResidencySet.{MTLResidencySet}
use Rattle.gpu_device.proofs.Maps.{get-insert_same, get-insert_other}
use Rattle.gpu_metal.specs.HeapAnswer.{AsksHeap, heap_refusal}
use Rattle.gpu_metal.specs.MemoryKinds.{locations, heap_descriptor}
use Rattle.gpu_metal.specs.Residency.{MakesSet}
use Rattle.gpu_pool.specs.Source.{HoldsAfter, result_of}
use Rattle.gpu_metal.specs.Source.{AsksBlock}
use Rattle.gpu_metal.specs.Source.{blocks_of, new_block, HoldsFirst, joined}
use Rattle.gpu_metal.specs.Blocks.{Residency, residency_of, is_same_heap}
use Rattle.gpu_metal.specs.Source.{SourceState}
use Rattle.std.proofs.lemmas.Bool.{cases_eq}
use Rattle.gpu_core.proofs.Options.{none_some}
use Rattle.gpu_metal.proofs.Members.{in_of}
use Rattle.gpu_metal.proofs.Changing.{type_at, heap_adds, heap_comes, heap_joins, new_same, new_set, is_some_none}

joined_none : (r : Option Residency) → joined r None ≡ r
joined_none None = refl
joined_none (Some r) = refl

module _ {D : Type 0} (g : Ghosts D) (s : SourceState D) (t size : ℕ) (l : MemoryLocation) (at : slice_get locations t ≡ Some l) (h : HoldsFirst s.set (g.held s.first) (g.held s.device)) (after : D) where
  abbrev new : SourceState D
  new = record s { device = after }

  abbrev pub Answered : Result MTLHeap AllocationError → Type 0
  Answered result =
      MatchResult result
      (λ heap. AsksHeap g s.set s.device (heap_descriptor l) size (Some heap) after)
      (λ e. (refusal_of e ≡ heap_refusal) × AsksHeap g s.set s.device (heap_descriptor l) size None after)

  pub asks : (result : Result MTLHeap AllocationError) → Answered result → AsksBlock g s t size tt (result_of result) new
  asks (Ok heap) a = record {
    location = l;
    at = at;
    refusal = tt;
    asks = a;
    residency = heap_joins s.set (g.held s.first) (g.held s.device) (g.held after) heap (heap_descriptor l) t size (type_at t l at) a.number.1 a.held h;
    state = refl;
  }
  asks (Err e) a = record {
    location = l;
    at = at;
    refusal = a.0;
    asks = a.1;
    residency = ap (λ (k : Held). residency_of k s.set) a.1.held ∙ sym (joined_none (residency_of (g.held s.device) s.set));
    state = refl;
  }

  pub held_answer : (result : Result MTLHeap AllocationError) → Answered result
      → HoldsAfter (λ heap. heap.0) (blocks_of (g.held s.first) (g.held s.device)) (record { memory_type = t; size = size }) (result_of result) (blocks_of (g.held s.first) (g.held after))
  held_answer (Ok heap) a = heap_adds s.set (g.held s.first) (g.held s.device) (g.held after) heap (heap_descriptor l) t size (type_at t l at) a.number.1 a.held h
  held_answer (Err e) a = λ n. ap (λ k. blocks_of (g.held s.first) k n) a.1.held

  pub holds_after : (result : Result MTLHeap AllocationError) → Answered result → (g.properties after ≡ g.properties s.device) × HoldsFirst s.set (g.held s.first) (g.held after)
  holds_after (Ok heap) a =
      (a.constant, heap_comes s.set (g.held s.first) (g.held s.device) (g.held after) heap (heap_descriptor l) t size (type_at t l at) a.number.1 a.held h)
  holds_after (Err e) a = (a.1.constant, subst (HoldsFirst s.set (g.held s.first)) (sym a.1.held) h)

-- ---- a new source

abbrev pub Begins : Option MTLResidencySet → (first now : Held) → Type 0
Begins set first now = HoldsFirst set first now × ((n : ℕ) → blocks_of first now n ≡ None)

same_begins : (first now : Held) → now ≡ first → Begins None first now
same_begins first now is =
    subst (Begins None first) (sym is)
    (record { stays = λ n e at. at; came = λ n fresh out none. fresh; residency = tt }, λ n. new_same (get first n))

distinct_none : IsDistinct is_same_heap []
unfolding IsDistinct
distinct_none = tt

set_begins : (set : MTLResidencySet) (first now : Held) → get first set.0 ≡ None → now ≡ insert first set.0 (Set [] []) → Begins (Some set) first now
set_begins set first now new is =
    let e : Entry = Set [] [] in
    let none : (n : ℕ) → blocks_of first (insert first set.0 e) n ≡ None =
    λ n. ⊎_elim
    (λ same. ap (new_block (get first n)) (ap (get (insert first set.0 e)) same ∙ get-insert_same first set.0 e) ∙ new_set (get first n) [] [])
    (λ ne. ap (new_block (get first n)) (get-insert_other first set.0 n e ne) ∙ new_same (get first n))
    (cases_eq n set.0) in
    subst (Begins (Some set) first) (sym is) (
      record {
        stays = λ n x at. get-insert_other first set.0 n e (λ same. none_some x (sym (ap (get first) same ∙ new) ∙ at)) ∙ at;
        came = λ n fresh out none. get-insert_other first set.0 n e out ∙ fresh;
        residency = record {
          members = [];
          committed = [];
          new = new;
          at = get-insert_same first set.0 e;
          live = λ heap within. absurd (in_of [] heap within);
          all = λ heap some. absurd (is_some_none (blocks_of first (insert first set.0 e) heap.0) (none heap.0) some);
          once = distinct_none;
        };
      },
      none,
    )

pub begins : {D : Type 0} (g : Ghosts D) (first now : D) (wanted : Bool) (set : Option MTLResidencySet) → MakesSet g wanted first set now → (g.properties now ≡ g.properties first) × Begins set (g.held first) (g.held now)
begins g first now false None makes = (ap g.properties makes, same_begins (g.held first) (g.held now) (ap g.held makes))
begins g first now false (Some set) makes = absurd makes
begins g first now true None makes = absurd makes
begins g first now true (Some set) makes = (makes.constant, set_begins set (g.held first) (g.held now) makes.number.1 makes.held)
