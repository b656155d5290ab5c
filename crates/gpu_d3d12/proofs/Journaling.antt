-- The resources that are out, as a heap or a resource comes or goes.
use Rattle.std.specs.Prelude.{IsSome, not, cond, filter}
use Rattle.std.proofs.Common.{◌≡◌, ◌≢◌, ◌∙◌, ◌⊎◌, ◌||◌, refl, sym, ap, subst, ⊎_elim, inl, inr, ℕ, nat_eq, Bool, true, false, List, [], ◌∷◌, Option, Some, None, Ok, Err, Result, arith}
use Rattle.std.proofs.lemmas.Bool.{cases_eq}
use Rattle.std.specs.FinMap.{get, insert}
use Rattle.gpu_device.specs.D3D12.{Held, Entry, Heap, Committed, Placed, without_heap, without_resource}
use Rattle.gpu_device.specs.Granted.{IsNew, with_granted}
use Rattle.gpu_device.specs.declared.d3d12.types.HeapDesc.{HeapDesc}
use Rattle.gpu_device.specs.declared.d3d12.types.ID3D12Resource.{ID3D12Resource}
use Rattle.gpu_device.specs.declared.d3d12.types.ResourceHeapTier.{ResourceHeapTier}
use Rattle.gpu_pool.specs.Source.{HeldBlock}
use Rattle.gpu_device.proofs.HeapsAndResources.{get-without_heap_other, get-without_resource_other}
use Rattle.gpu_device.proofs.Maps.{get-insert_same, get-insert_other}
use Rattle.gpu_core.proofs.Options.{none_some}
use Rattle.gpu_values.specs.Refusal.{refusal_of}
use Rattle.gpu_values.specs.declared.error.AllocationError.{AllocationError}
use Rattle.gpu_d3d12.specs.ResourceAnswer.{ResourceAnswer, Granted, Declined, Null, Texts, Makes, resource_number}
use Rattle.gpu_d3d12.specs.Journal.{number_in, is_in, out, strays, with_made, IsResource, HoldsResources, IsFirstAndOut}
use Rattle.gpu_d3d12.specs.Source.{entry_block, new_block, blocks_of, beside, HoldsFirst}
use Rattle.gpu_d3d12.specs.declared.journal.ResourceEvent.{ResourceEvent}
use Rattle.gpu_d3d12.specs.declared.journal.ResourceEvent.TheVariants.{Made, Released}
use Rattle.gpu_d3d12.proofs.Changing.{heap_now, no_first_heap, left, left_at, heap_removed, new_same, no_block_entry, shown, at_beside, beside_other}

false_true : false ≡ true → ⊥
false_true e = cc

-- ---- what is in a list

unlike : (a b : ℕ) → (a ≡ b → ⊥) → nat_eq a b ≡ false
unlike a b ne = grind arith

alike : (a b : ℕ) → a ≡ b → nat_eq a b ≡ true
alike a b e = grind arith

or_left : (a b : Bool) → a ≡ true → (a || b) ≡ true
or_left true b is = refl
or_left false b is = absurd (false_true is)

or_right : (a b : Bool) → b ≡ true → (a || b) ≡ true
or_right true b is = refl
or_right false b is = is

first_in : (n : ℕ) (xs : List ℕ) → is_in (n ∷ xs) n ≡ true
first_in n xs = or_left (nat_eq n n) (is_in xs n) (alike n n refl)

later_in : (k m : ℕ) (xs : List ℕ) → is_in xs m ≡ true → is_in (k ∷ xs) m ≡ true
later_in k m xs is = or_right (nat_eq k m) (is_in xs m) is

other_in : (k m : ℕ) (xs : List ℕ) → (k ≡ m → ⊥) → is_in (k ∷ xs) m ≡ is_in xs m
other_in k m xs ne = ap (λ b. b || is_in xs m) (unlike k m ne)

kept_in : (b : Bool) (k m : ℕ) (zs : List ℕ) → (b ≡ true) ⊎ (k ≡ m → ⊥) → is_in (cond b (k ∷ zs) zs) m ≡ (nat_eq k m || is_in zs m)
kept_in true k m zs h = refl
kept_in false k m zs h = ⊎_elim (λ e. absurd (false_true e)) (λ ne. sym (ap (λ b. b || is_in zs m) (unlike k m ne))) h

-- taking a number out of a list leaves every other
others_in : (n m : ℕ) (xs : List ℕ) → m ≢ n → is_in (filter (λ k. not (nat_eq k n)) xs) m ≡ is_in xs m
others_in n m [] ne = refl
others_in n m (k ∷ xs) ne =
    kept_in (not (nat_eq k n)) k m (filter (λ k. not (nat_eq k n)) xs)
    (⊎_elim (λ (same : k ≡ n). inr (λ here. ne (sym here ∙ same))) (λ other. inl (ap not (unlike k n other))) (cases_eq k n))
    ∙ ap (λ b. nat_eq k m || b) (others_in n m xs ne)

taken_in : (b : Bool) (k n : ℕ) (zs : List ℕ) → (b ≡ false) ⊎ (k ≡ n → ⊥) → is_in zs n ≡ false → is_in (cond b (k ∷ zs) zs) n ≡ false
taken_in false k n zs h none = none
taken_in true k n zs h none = ⊎_elim (λ e. absurd (false_true (sym e))) (λ ne. other_in k n zs ne ∙ none) h

none_in : (n : ℕ) (xs : List ℕ) → is_in (filter (λ k. not (nat_eq k n)) xs) n ≡ false
none_in n [] = refl
none_in n (k ∷ xs) =
    taken_in (not (nat_eq k n)) k n (filter (λ k. not (nat_eq k n)) xs)
    (⊎_elim (λ (same : k ≡ n). inl (ap not (alike k n same))) (λ other. inr other) (cases_eq k n))
    (none_in n xs)

-- a test is passed, or it isn't
decided : (b : Bool) → (b ≡ true) ⊎ (b ≡ false)
decided true = inl refl
decided false = inr refl

-- ---- the numbers that strayed

strays_by : (b : Bool) (n m : ℕ) (xs : List ℕ) → m ≢ n → is_in (cond b xs (n ∷ xs)) m ≡ is_in xs m
strays_by true n m xs ne = refl
strays_by false n m xs ne = other_in n m xs (λ same. ne (sym same))

strayed : (b : Bool) (n : ℕ) (xs : List ℕ) → b ≡ false → is_in (cond b xs (n ∷ xs)) n ≡ true
strayed true n xs is = absurd (false_true (sym is))
strayed false n xs is = first_in n xs

not_strayed : (b : Bool) (n : ℕ) (xs : List ℕ) → b ≡ true → is_in (cond b xs (n ∷ xs)) n ≡ is_in xs n
not_strayed true n xs is = refl
not_strayed false n xs is = absurd (false_true is)

-- ---- one entry

left_no_resource : (x : Option Entry) → IsResource (left x) → ⊥
left_no_resource None r = r
left_no_resource (Some (Heap desc)) r = r
left_no_resource (Some (Committed size)) r = r
left_no_resource (Some (Placed heap offset size)) r = r

module _ (first held now : Held) (events : List ResourceEvent) (n : ℕ) (others : (m : ℕ) → m ≢ n → get now m ≡ get held m) (h : HoldsResources first held events) where
  out_elsewhere : (m : ℕ) → m ≢ n → is_in (out events) m ≡ true → IsResource (get now m)
  out_elsewhere m ne is = subst IsResource (sym (others m ne)) (h.live m is)

  stays_elsewhere : (m : ℕ) (e : Entry) → m ≢ n → get first m ≡ Some e → is_in (strays events) m ≡ false → get now m ≡ Some e
  stays_elsewhere m e ne at away = others m ne ∙ h.stays m e at away

  came_elsewhere : (m : ℕ) → m ≢ n → IsResource (get now m) → (is_in (out events) m ≡ true) ⊎ (get now m ≡ get first m)
  came_elsewhere m ne is = ⊎_elim (λ o. inl o) (λ same. inr (others m ne ∙ same)) (h.came m (subst IsResource (others m ne) is))

  -- what is no resource changes no resource
  quiet : (is_in (out events) n ≡ true → ⊥) → (IsResource (get now n) → ⊥) → ((e : Entry) → get first n ≡ Some e → is_in (strays events) n ≡ false → get now n ≡ Some e) → HoldsResources first now events
  quiet no_out no_resource stays = record {
    stays = λ m e at away.
        ⊎_elim
        (λ same. ap (get now) same ∙ stays e (ap (get first) (sym same) ∙ at) (subst (λ k. is_in (strays events) k ≡ false) same away))
        (λ ne. stays_elsewhere m e ne at away)
        (cases_eq m n);
    live = λ m is. ⊎_elim (λ same. absurd (no_out (subst (λ k. is_in (out events) k ≡ true) same is))) (λ ne. out_elsewhere m ne is) (cases_eq m n);
    came = λ m is. ⊎_elim (λ same. absurd (no_resource (subst (λ k. IsResource (get now k)) same is))) (λ ne. came_elsewhere m ne is) (cases_eq m n);
    new = h.new;
  }

-- a heap comes
pub heap_quiet : (first held now : Held) (events : List ResourceEvent) (n : ℕ) (desc : HeapDesc) → get held n ≡ None → now ≡ insert held n (Heap desc) → HoldsResources first held events
    → HoldsResources first now events
heap_quiet first held now events n desc fresh is h =
    let here : get now n ≡ Some (Heap desc) = ap (λ (k : Held). get k n) is ∙ get-insert_same held n (Heap desc) in
    quiet first held now events n (λ m ne. ap (λ (k : Held). get k m) is ∙ get-insert_other held n m (Heap desc) ne) h
    (λ o. subst IsResource fresh (h.live n o)) (λ r. subst IsResource here r) (λ e at away. absurd (none_some e (sym fresh ∙ h.stays n e at away)))

-- a heap of a block goes
pub heap_goes_quiet : (first held now : Held) (events : List ResourceEvent) (n : ℕ) → IsSome (blocks_of first held n) → now ≡ without_heap held n → HoldsResources first held events
    → HoldsResources first now events
heap_goes_quiet first held now events n some is h =
    let heap = heap_now (get first n) (get held n) some in
    let gone : get now n ≡ None = ap (λ (k : Held). get k n) is ∙ heap_removed held n (get held n) heap in
    quiet first held now events n (λ m ne. ap (λ (k : Held). get k m) is ∙ get-without_heap_other held n m ne) h
    (λ o. subst IsResource heap.1 (h.live n o)) (λ r. subst IsResource gone r)
    (λ e at away. absurd (no_first_heap (get first n) (get held n) some (heap.0, at ∙ sym (h.stays n e at away) ∙ heap.1)))

-- a resource is made
resource_made : (first held now : Held) (events : List ResourceEvent) (n : ℕ) (e : Entry) → IsResource (Some e) → get held n ≡ None → now ≡ insert held n e → HoldsResources first held events
    → HoldsResources first now (Made (record { 0 = n }) ∷ events)
resource_made first held now events n e resource fresh is h =
    let here : get now n ≡ Some e = ap (λ (k : Held). get k n) is ∙ get-insert_same held n e in
    let others : (m : ℕ) → m ≢ n → get now m ≡ get held m = λ m ne. ap (λ (k : Held). get k m) is ∙ get-insert_other held n m e ne in
    record {
      stays = λ m x at away.
          ⊎_elim
          (λ same. absurd (none_some x (sym fresh ∙ ap (get held) (sym same) ∙ h.stays m x at away)))
          (λ ne. stays_elsewhere first held now events n others h m x ne at away)
          (cases_eq m n);
      live = λ m is.
          ⊎_elim
          (λ same. subst IsResource (sym (ap (get now) same ∙ here)) resource)
          (λ ne. out_elsewhere first held now events n others h m ne (sym (other_in n m (out events) (λ k. ne (sym k))) ∙ is))
          (cases_eq m n);
      came = λ m is.
          ⊎_elim
          (λ same. inl (subst (λ k. is_in (n ∷ out events) k ≡ true) (sym same) (first_in n (out events))))
          (λ ne. ⊎_elim (λ o. inl (later_in n m (out events) o)) (λ same. inr same) (came_elsewhere first held now events n others h m ne is))
          (cases_eq m n);
      new = λ m is.
          ⊎_elim
          (λ same. subst (λ k. (get first k ≡ None) ⊎ (is_in (strays events) k ≡ true)) (sym same) (first_free first held events n fresh h))
          (λ ne. h.new m (sym (other_in n m (out events) (λ k. ne (sym k))) ∙ is))
          (cases_eq m n);
    }
  where
    -- a number that isn't held wasn't held at first, or strayed
    first_by : (first held : Held) (events : List ResourceEvent) (n : ℕ) (x : Option Entry) → get first n ≡ x → get held n ≡ None → HoldsResources first held events
        → (get first n ≡ None) ⊎ (is_in (strays events) n ≡ true)
    first_by first held events n None at fresh h = inl at
    first_by first held events n (Some x) at fresh h =
        ⊎_elim (λ yes. inr yes) (λ no. absurd (none_some x (sym fresh ∙ h.stays n x at no))) (decided (is_in (strays events) n))

    first_free : (first held : Held) (events : List ResourceEvent) (n : ℕ) → get held n ≡ None → HoldsResources first held events → (get first n ≡ None) ⊎ (is_in (strays events) n ≡ true)
    first_free first held events n fresh h = first_by first held events n (get first n) refl fresh h

pub resource_asked_for : (first held now : Held) (events : List ResourceEvent) (o : Option ℕ) (e : Entry) → IsResource (Some e) → IsNew held o → now ≡ with_granted held o e → HoldsResources first held events
    → HoldsResources first now (with_made o events)
resource_asked_for first held now events None e resource new is h = subst (λ (k : Held). HoldsResources first k events) (sym is) h
resource_asked_for first held now events (Some n) e resource new is h = resource_made first held now events n e resource new.1 is h

-- a resource is released
pub resource_released : (first held now : Held) (events : List ResourceEvent) (n : ℕ) → now ≡ without_resource held n → HoldsResources first held events
    → HoldsResources first now (Released (record { 0 = n }) ∷ events)
resource_released first held now events n is h =
    let here : get now n ≡ left (get held n) = ap (λ (k : Held). get k n) is ∙ left_at held n in
    let others : (m : ℕ) → m ≢ n → get now m ≡ get held m = λ m ne. ap (λ (k : Held). get k m) is ∙ get-without_resource_other held n m ne in
    let b = is_in (out events) n in
    let xs = strays events in
    let none : is_in (out (Released (record { 0 = n }) ∷ events)) n ≡ false = none_in n (out events) in
    record {
      stays = λ m e at away.
          ⊎_elim
          (λ same.
          let here_first : get first n ≡ Some e = ap (get first) (sym same) ∙ at in
          let away_here : is_in (cond b xs (n ∷ xs)) n ≡ false = subst (λ k. is_in (cond b xs (n ∷ xs)) k ≡ false) same away in
          ⊎_elim
          (λ is_out. ⊎_elim
          (λ no. absurd (none_some e (sym no ∙ here_first)))
          (λ stray. absurd (false_true (sym away_here ∙ not_strayed b n xs is_out ∙ stray)))
          (h.new n is_out))
          (λ not_out. absurd (false_true (sym away_here ∙ strayed b n xs not_out)))
          (decided b))
          (λ ne. stays_elsewhere first held now events n others h m e ne at (sym (strays_by b n m xs ne) ∙ away))
          (cases_eq m n);
      live = λ m yes.
          ⊎_elim
          (λ same. absurd (false_true (sym none ∙ subst (λ k. is_in (filter (λ j. not (nat_eq j n)) (out events)) k ≡ true) same yes)))
          (λ ne. out_elsewhere first held now events n others h m ne (sym (others_in n m (out events) ne) ∙ yes))
          (cases_eq m n);
      came = λ m yes.
          ⊎_elim
          (λ same. absurd (left_no_resource (get held n) (subst IsResource (ap (get now) same ∙ here) yes)))
          (λ ne. ⊎_elim (λ o. inl (others_in n m (out events) ne ∙ o)) (λ same. inr same) (came_elsewhere first held now events n others h m ne yes))
          (cases_eq m n);
      new = λ m yes.
          ⊎_elim
          (λ same. absurd (false_true (sym none ∙ subst (λ k. is_in (filter (λ j. not (nat_eq j n)) (out events)) k ≡ true) same yes)))
          (λ ne. ⊎_elim (λ no. inl no) (λ stray. inr (strays_by b n m xs ne ∙ stray)) (h.new m (sym (others_in n m (out events) ne) ∙ yes)))
          (cases_eq m n);
    }

-- a new source
pub resources_begin : (first : Held) → HoldsResources first first []
resources_begin first = record {
  stays = λ n e at away. at;
  live = λ n is. absurd (false_true is);
  came = λ n is. inr refl;
  new = λ n is. absurd (false_true is);
}

-- what the asker made of an answer has its number
pub number_is : (texts : Texts) (answer : ResourceAnswer) (result : Result ID3D12Resource AllocationError) → Makes texts result answer → number_in result ≡ resource_number answer
number_is texts answer (Ok r) is = ap resource_number (sym is)
number_is texts (Granted n) (Err e) is = absurd (none_some (refusal_of e) is)
number_is texts (Declined code reason) (Err e) is = refl
number_is texts Null (Err e) is = refl

-- ---- what a device holds beside the blocks

no_resource_block : (y : Option Entry) → IsResource y → entry_block y ≡ None
no_resource_block None r = absurd r
no_resource_block (Some (Heap desc)) r = absurd r
no_resource_block (Some (Committed size)) r = refl
no_resource_block (Some (Placed heap offset size)) r = refl

module _ (tier : ResourceHeapTier) (first held : Held) (events : List ResourceEvent) (f : HoldsFirst tier first held) (h : HoldsResources first held events) where
  -- what is shown beside the blocks is no block
  shown_block : (n : ℕ) (e : Entry) (o : Option HeldBlock) → shown o (get held n) ≡ Some e → (get held n ≡ Some e) × (o ≡ None)
  shown_block n e None is = (is, refl)
  shown_block n e (Some b) is = absurd (none_some e is)

  -- a heap that is no block was there at first
  first_heap : (n : ℕ) (desc : HeapDesc) (x : Option Entry) → get first n ≡ x → new_block x (Some (Heap desc)) ≡ None → get held n ≡ Some (Heap desc) → get first n ≡ Some (Heap desc)
  first_heap n desc None at none is = absurd (none_some _ (sym none))
  first_heap n desc (Some (Heap d)) at none is = at ∙ sym (f.stays n d at) ∙ is
  first_heap n desc (Some (Committed size)) at none is = absurd (none_some _ (sym none))
  first_heap n desc (Some (Placed heap offset size)) at none is = absurd (none_some _ (sym none))

  came_resource : (n : ℕ) (e : Entry) → get held n ≡ Some e → IsResource (Some e) → (get first n ≡ Some e) ⊎ (is_in (out events) n ≡ true)
  came_resource n e is r = ⊎_elim (λ o. inr o) (λ same. inl (sym same ∙ is)) (h.came n (subst IsResource (sym is) r))

  came_beside : (n : ℕ) (e : Entry) → get held n ≡ Some e → blocks_of first held n ≡ None → (get first n ≡ Some e) ⊎ (is_in (out events) n ≡ true)
  came_beside n (Heap desc) is none = inl (first_heap n desc (get first n) refl (ap (new_block (get first n)) (sym is) ∙ none) is)
  came_beside n (Committed size) is none = came_resource n (Committed size) is tt
  came_beside n (Placed heap offset size) is none = came_resource n (Placed heap offset size) is tt

  pub first_and_out : IsFirstAndOut first (beside first held) events
  first_and_out = record {
    stays = λ n e at away.
        let is = h.stays n e at away in
        beside_other first held n ((λ i. new_block (at i) (is i)) ∙ new_same (Some e)) ∙ is;
    live = λ n yes.
        let r = h.live n yes in
        subst IsResource (sym (beside_other first held n (no_block_entry (get first n) (get held n) (no_resource_block (get held n) r)))) r;
    came = λ n e is.
        let k = shown_block n e (blocks_of first held n) (sym (at_beside first held n) ∙ is) in
        came_beside n e k.0 k.1;
    new = h.new;
  }
