-- Records that are threaded.
use Rattle.std.proofs.Common.{◌≡◌, ◌≢◌, ℕ, zero, suc, ◌+◌, ◌-◌, ◌^◌, ◌<◌, ◌≤◌, List, [], ◌∷◌, ◌++◌, length, get_or, set, map, All, ◌⊎◌, inl, inr, refl, sym, ap, subst, ◌∙◌, arith}
use Rattle.std.specs.List.{insert, remove}
use Rattle.std.proofs.lemmas.Bool.{cases_lt, cases_eq}
use Rattle.std.proofs.lemmas.List.{map-set, set-get_or, get_or-map, get_or_default, get_or_past, get_or_push, get_or_append_left, get_or_at, length-append, length-map}
use Rattle.std.proofs.lemmas.List.Edits.{length-insert, length-remove}
use Rattle.std.proofs.lemmas.List.Elements.{All-get_or, All-from_get_or, All-push, All-weaker}
use Rattle.std.proofs.lemmas.List.Quantifiers.{all_pairs_remove, all_pairs_push}
use Rattle.gpu_block_gaps.specs.Order.{IsIn}
use Rattle.gpu_block_gaps.proofs.Positions.{in_insert_cases, in_removed, all_pairs_insert}
use Rattle.gpu_block_gaps.specs.declared.index.Gap.{Gap}
use Rattle.gpu_block_gaps.specs.declared.thread.Record.{Record}
use Rattle.gpu_block_gaps.specs.Thread.{blank, gap_in}
use Rattle.gpu_block_gaps.specs.Records.{follow, blank_record, gap_of, last_of, next_in, prev_in, order_of, AreLinked, AreThreaded, IsThread, IsSpare, LeadsTo, LeadsThrough}
use Rattle.gpu_block_gaps.proofs.Rings.{follow_is, linked_more, linked_less}

-- a record with its gap as before
pub same_gaps : (rs : List Record) (slot : ℕ) (d r : Record) → slot < length rs → r.gap ≡ (get_or rs slot d).gap → map gap_of (set rs slot r) ≡ map gap_of rs
same_gaps rs slot d r within same =
    map-set gap_of rs slot r ∙ ap (λ (g : Gap). set (map gap_of rs) slot g) (same ∙ sym (get_or-map gap_of rs slot d d.gap within)) ∙ set-get_or (map gap_of rs) slot d.gap

module _ (rs : List Record) (spare : List ℕ) (room : ℕ) (order : List ℕ) (are : AreThreaded rs spare room order) where
  pub order_is : order_of rs ≡ order
  order_is =
      ap (λ (at : ℕ). order_from at) (are.linked 0 (omega arith)).0
      ∙ follow_is (next_in rs) (prev_in rs) order are.linked are.distinct (length rs) 0 (omega arith) (let a = are.counted in omega arith)
    where
      order_from : ℕ → List ℕ
      order_from at = follow (length rs) (next_in rs) at

  -- a slot of the ring, at any default
  ring_inside : (k : ℕ) → k ≤ length order → 0 < length rs → get_or (0 ∷ order) k 0 < length rs
  ring_inside zero le some = some
  ring_inside (suc k) le some = are.inside (get_or order k 0) (k, le, refl)

  pub next_inside : (k : ℕ) → k ≤ length order → 0 < length rs → get_or order k 0 < length rs
  next_inside k le some = by_order (cases_lt k (length order))
    where
      by_order : (k < length order) ⊎ (length order ≤ k) → get_or order k 0 < length rs
      by_order (inl lt) = are.inside (get_or order k 0) (k, lt, refl)
      by_order (inr past) = subst (λ m. m < length rs) (sym (get_or_past order k 0 past)) some

  pub prev_inside : (k : ℕ) → k ≤ length order → 0 < length rs → get_or (0 ∷ order) k 0 < length rs
  prev_inside k le some = ring_inside k le some

  -- no slot of the order is 0
  pub above_zero : (slot : ℕ) → IsIn slot order → 0 < slot
  above_zero slot is = let apart = are.distinct 0 (suc is.0) 0 (omega arith) (let a = is.1 in omega arith) in let same = is.2 in by_zero slot refl
    where
      by_zero : (m : ℕ) → slot ≡ m → 0 < slot
      by_zero zero e = absurd (are.distinct 0 (suc is.0) 0 (omega arith) (let a = is.1 in omega arith) (sym (is.2 ∙ e)))
      by_zero (suc m) e = omega arith

-- ---- a gap more

pub last_is : (spare : List ℕ) (s : ℕ) → last_of (spare ++ s ∷ []) ≡ s
last_is spare s = get_or_push spare s 0 (length (spare ++ s ∷ []) - 1) (let a = length-append spare (s ∷ []) in omega arith)

module _ (rs rs' : List Record) (spare : List ℕ) (s room : ℕ) (order : List ℕ) (are : AreThreaded rs (spare ++ s ∷ []) room order) where
  spare_long : length (spare ++ s ∷ []) ≡ length spare + 1
  spare_long = length-append spare (s ∷ [])

  pub slot_free : IsSpare (λ slot. IsIn slot order) (length rs) s
  slot_free = subst (IsSpare (λ slot. IsIn slot order) (length rs)) (get_or_at spare s [] 0 (length spare) refl) (All-get_or (IsSpare (λ slot. IsIn slot order) (length rs)) (spare ++ s ∷ []) (length spare) 0 (omega (arith, spare_long)) are.free)

  pub fresh_in_ring : (k d : ℕ) → k ≤ length order → get_or (0 ∷ order) k d ≢ s
  fresh_in_ring zero d le same = let some = slot_free.0 in omega arith
  fresh_in_ring (suc k) d le same = slot_free.2 (k, le, get_or_default order k 0 d le ∙ same)

  pub fresh_next : (k : ℕ) → k ≤ length order → get_or order k 0 ≢ s
  fresh_next k le same = by_order (cases_lt k (length order))
    where
      by_order : (k < length order) ⊎ (length order ≤ k) → ⊥
      by_order (inl lt) = slot_free.2 (k, lt, same)
      by_order (inr past) = let some = slot_free.0 in let none = get_or_past order k 0 past in omega arith

  pub threaded_more : (p : ℕ) → p ≤ length order → length rs' ≡ length rs → LeadsThrough (next_in rs) (next_in rs') (get_or (0 ∷ order) p 0) s (get_or order p 0)
      → LeadsThrough (prev_in rs) (prev_in rs') (get_or order p 0) s (get_or (0 ∷ order) p 0) → AreThreaded rs' spare room (insert order p s)
  threaded_more p le same next prev = record {
    linked = linked_more (next_in rs) (prev_in rs) (next_in rs') (prev_in rs') order are.linked are.distinct p s le (λ k h. fresh_in_ring k 0 h) next.0 next.1 next.2 prev.0 prev.1 prev.2;
    distinct = all_pairs_insert (λ a b. a ≢ b) (0 ∷ order) (suc p) s (omega arith) are.distinct (λ k d lt. fresh_in_ring k d (omega arith)) (λ k d after lt e. fresh_in_ring k d (omega arith) (sym e));
    inside = λ slot is. inside slot (in_insert_cases order p s le slot is);
    free = All-from_get_or (IsSpare (λ slot. IsIn slot (insert order p s)) (length rs')) spare 0 (λ i lt. free i lt (cases_eq (get_or spare i 0) s));
    apart = λ i j d lt h e. are.apart i j d lt (omega (arith, spare_long)) (get_or_append_left spare (s ∷ []) d i (omega arith) ∙ e ∙ sym (get_or_append_left spare (s ∷ []) d j h));
    counted = (let a = are.counted in let b = length-insert order p s le in omega (arith, spare_long));
    fits = (let a = are.fits in omega arith);
    few = (let a = are.few in omega arith);
  }
    where
      inside : (slot : ℕ) → IsIn slot order ⊎ (slot ≡ s) → slot < length rs'
      inside slot (inl is) = let a = are.inside slot is in omega arith
      inside slot (inr e) = let a = slot_free.1 in omega arith

      old : (i : ℕ) → i < length spare → IsSpare (λ slot. IsIn slot order) (length rs) (get_or spare i 0)
      old i lt = subst (IsSpare (λ slot. IsIn slot order) (length rs)) (get_or_append_left spare (s ∷ []) 0 i lt) (All-get_or (IsSpare (λ slot. IsIn slot order) (length rs)) (spare ++ s ∷ []) i 0 (omega (arith, spare_long)) are.free)

      free : (i : ℕ) → i < length spare → (get_or spare i 0 ≡ s) ⊎ (get_or spare i 0 ≢ s) → IsSpare (λ slot. IsIn slot (insert order p s)) (length rs') (get_or spare i 0)
      free i lt (inl e) = absurd (are.apart i (length spare) 0 lt (omega (arith, spare_long)) (get_or_append_left spare (s ∷ []) 0 i lt ∙ e ∙ sym (get_or_at spare s [] 0 (length spare) refl)))
      free i lt (inr other) = (
        (let a = (old i lt).0 in omega arith),
        (let a = (old i lt).1 in omega arith),
        λ is. by_cases (in_insert_cases order p s le (get_or spare i 0) is),
      )
        where
          by_cases : IsIn (get_or spare i 0) order ⊎ (get_or spare i 0 ≡ s) → ⊥
          by_cases (inl is) = (old i lt).2 is
          by_cases (inr e) = other e

-- ---- a gap less

module _ (rs rs' : List Record) (spare : List ℕ) (room : ℕ) (order : List ℕ) (are : AreThreaded rs spare room order) (p s : ℕ) (lt : p < length order) (at : s ≡ get_or order p 0) where
  pub next_there : next_in rs s ≡ get_or order (suc p) 0
  next_there = ap (next_in rs) at ∙ (are.linked (suc p) lt).0

  pub prev_there : prev_in rs s ≡ get_or (0 ∷ order) p 0
  prev_there = ap (prev_in rs) at ∙ (are.linked p (omega arith)).1

  pub threaded_less : length rs' ≡ length rs → LeadsTo (next_in rs) (next_in rs') (prev_in rs s) (next_in rs s) → LeadsTo (prev_in rs) (prev_in rs') (next_in rs s) (prev_in rs s)
      → AreThreaded rs' (spare ++ s ∷ []) room (remove order p)
  threaded_less same next prev = record {
    linked = linked_less (next_in rs) (prev_in rs) (next_in rs') (prev_in rs') order are.linked are.distinct p lt
        (ap (next_in rs') (sym prev_there) ∙ next.0 ∙ next_there) (λ k other. next.1 k (λ e. other (e ∙ prev_there)))
        (ap (prev_in rs') (sym next_there) ∙ prev.0 ∙ prev_there) (λ k other. prev.1 k (λ e. other (e ∙ next_there)));
    distinct = all_pairs_remove (λ a b. a ≢ b) (0 ∷ order) (suc p) (omega arith) are.distinct;
    inside = λ slot is. (let old = in_removed order p lt slot is in let a = are.inside slot (old.0, old.1, old.2) in omega arith);
    free = All-push (IsSpare (λ slot. IsIn slot (remove order p)) (length rs')) spare s
        (All-weaker (IsSpare (λ slot. IsIn slot order) (length rs)) (IsSpare (λ slot. IsIn slot (remove order p)) (length rs'))
        (λ slot free. (free.0, (let a = free.1 in omega arith), λ is. (let old = in_removed order p lt slot is in free.2 (old.0, old.1, old.2)))) spare are.free)
        (above_zero rs spare room order are s here, (let a = are.inside s here in omega arith), λ is. (let old = in_removed order p lt s is in twice old.0 old.1 old.2 old.3));
    apart = all_pairs_push (λ a b. a ≢ b) spare s are.apart (λ i d h e. (let free = All-get_or (IsSpare (λ slot. IsIn slot order) (length rs)) spare i d h are.free in free.2 (subst (λ m. IsIn m order) (sym e) here)));
    counted = (let a = are.counted in let b = length-append spare (s ∷ []) in let e = length-remove order p lt in let f = are.inside s here in omega arith);
    fits = (let a = are.fits in omega arith);
    few = (let a = are.few in omega arith);
  }
    where
      here : IsIn s order
      here = (p, lt, sym at)

      twice : (k : ℕ) → k < length order → get_or order k 0 ≡ s → k ≢ p → ⊥
      twice k in_k is other = by_order (cases_lt k p)
        where
          by_order : (k < p) ⊎ (p ≤ k) → ⊥
          by_order (inl before) = are.distinct (suc k) (suc p) 0 (omega arith) (omega arith) (is ∙ at)
          by_order (inr after) = are.distinct (suc p) (suc k) 0 (omega arith) (omega arith) (sym at ∙ sym is)

-- ---- a slot more

-- a blank behind a list reads as what is past it
past_blank : (rs : List Record) (k : ℕ) → get_or (rs ++ blank_record ∷ []) k blank_record ≡ get_or rs k blank_record
past_blank rs k = by_order (cases_lt k (length rs)) (cases_eq k (length rs))
  where
    by_order : (k < length rs) ⊎ (length rs ≤ k) → (k ≡ length rs) ⊎ (k ≢ length rs) → get_or (rs ++ blank_record ∷ []) k blank_record ≡ get_or rs k blank_record
    by_order (inl lt) other = get_or_append_left rs (blank_record ∷ []) blank_record k lt
    by_order (inr past) (inl e) = get_or_push rs blank_record blank_record k (sym e) ∙ sym (get_or_past rs k blank_record past)
    by_order (inr past) (inr other) =
        get_or_past (rs ++ blank_record ∷ []) k blank_record (let a = length-append rs (blank_record ∷ []) in omega arith) ∙ sym (get_or_past rs k blank_record past)

pub past_gap : (rs : List Record) (k : ℕ) → gap_in (map gap_of (rs ++ blank_record ∷ [])) k ≡ gap_in (map gap_of rs) k
past_gap rs k = at (rs ++ blank_record ∷ []) ∙ ap gap_of (past_blank rs k) ∙ sym (at rs)
  where
    at : (xs : List Record) → gap_in (map gap_of xs) k ≡ (get_or xs k blank_record).gap
    at xs = by_order (cases_lt k (length xs))
      where
        by_order : (k < length xs) ⊎ (length xs ≤ k) → gap_in (map gap_of xs) k ≡ (get_or xs k blank_record).gap
        by_order (inl lt) = get_or-map gap_of xs k blank_record blank lt
        by_order (inr past) = get_or_past (map gap_of xs) k blank (let a = length-map xs gap_of in omega arith) ∙ sym (ap gap_of (get_or_past xs k blank_record past))

module _ (rs : List Record) (spare : List ℕ) (room : ℕ) (order : List ℕ) (are : AreThreaded rs spare room order) (few : length rs + 1 < 2 ^ 30) (fits : length rs < room) where
  long : length (rs ++ blank_record ∷ []) ≡ length rs + 1
  long = length-append rs (blank_record ∷ [])

  linked_wide : AreLinked (next_in (rs ++ blank_record ∷ [])) (prev_in (rs ++ blank_record ∷ [])) order
  linked_wide k le = (
    ap (λ (r : Record). r.next) (past_blank rs (get_or (0 ∷ order) k 0)) ∙ (are.linked k le).0,
    ap (λ (r : Record). r.prev) (past_blank rs (get_or order k 0)) ∙ (are.linked k le).1,
  )

  -- slot 0
  pub threaded_first : length rs ≡ 0 → AreThreaded (rs ++ blank_record ∷ []) spare room order
  threaded_first none = record {
    linked = linked_wide;
    distinct = are.distinct;
    inside = λ slot is. (let a = are.inside slot is in omega (arith, long));
    free = All-weaker (IsSpare (λ slot. IsIn slot order) (length rs)) (IsSpare (λ slot. IsIn slot order) (length (rs ++ blank_record ∷ []))) (λ slot free. (free.0, (let a = free.1 in omega (arith, long)), free.2)) spare are.free;
    apart = are.apart;
    counted = (let a = are.counted in omega (arith, long));
    fits = omega (arith, long);
    few = omega (arith, long);
  }

  pub threaded_wide : 0 < length rs → AreThreaded (rs ++ blank_record ∷ []) (spare ++ length rs ∷ []) room order
  threaded_wide some = record {
    linked = linked_wide;
    distinct = are.distinct;
    inside = λ slot is. (let a = are.inside slot is in omega (arith, long));
    free = All-push (IsSpare (λ slot. IsIn slot order) (length (rs ++ blank_record ∷ []))) spare (length rs)
        (All-weaker (IsSpare (λ slot. IsIn slot order) (length rs)) (IsSpare (λ slot. IsIn slot order) (length (rs ++ blank_record ∷ []))) (λ slot free. (free.0, (let a = free.1 in omega (arith, long)), free.2)) spare are.free)
        (some, omega (arith, long), λ is. (let a = are.inside (length rs) is in omega arith));
    apart = all_pairs_push (λ a b. a ≢ b) spare (length rs) are.apart (λ i d h e. (let free = All-get_or (IsSpare (λ slot. IsIn slot order) (length rs)) spare i d h are.free in let a = free.1 in omega arith));
    counted = (let a = are.counted in let b = length-append spare (length rs ∷ []) in omega (arith, long));
    fits = omega (arith, long);
    few = omega (arith, long);
  }

pub more_room : (rs : List Record) (spare : List ℕ) (room room' : ℕ) (order : List ℕ) → room ≤ room' → AreThreaded rs spare room order → AreThreaded rs spare room' order
more_room rs spare room room' order more are = record {
  linked = are.linked;
  distinct = are.distinct;
  inside = are.inside;
  free = are.free;
  apart = are.apart;
  counted = are.counted;
  fits = (let a = are.fits in omega arith);
  few = are.few;
}

-- ---- what a call leaves

pub whole : (rs : List Record) (spare : List ℕ) (room : ℕ) (order : List ℕ) → AreThreaded rs spare room order → IsThread rs spare room × (order_of rs ≡ order)
whole rs spare room order are =
    let is = order_is rs spare room order are in
    (subst (λ (xs : List ℕ). AreThreaded rs spare room xs) (sym is) are, is)

module _ (rs old rs' : List Record) (spare0 spare' : List ℕ) (s room room' next : ℕ) (order : List ℕ) (p : ℕ) (at : Record) (thread : IsThread rs spare0 room) (is : order_of rs ≡ order)
    (popped : spare0 ≡ spare' ++ s ∷ []) (le : p ≤ length order) (there : next ≡ get_or order p 0) where
  threaded : AreThreaded rs (spare' ++ s ∷ []) room order
  threaded = subst (λ (xs : List ℕ). AreThreaded rs (spare' ++ s ∷ []) room xs) is (subst (λ (ss : List ℕ). AreThreaded rs ss room (order_of rs)) popped thread)

  pub some : 0 < length rs
  some = let free = slot_free rs rs' spare' s room order threaded in let a = free.1 in omega arith

  pub next_at : (next < length rs) × (next ≢ s)
  next_at = (
    subst (λ m. m < length rs) (sym there) (next_inside rs (spare' ++ s ∷ []) room order threaded p le some),
    λ e. fresh_next rs rs' spare' s room order threaded p le (sym there ∙ e),
  )

  module _ (read : at ≡ get_or rs next at) (before : ℕ) (told : before ≡ at.prev) where
    prev_is : before ≡ get_or (0 ∷ order) p 0
    prev_is = told ∙ ap (λ (r : Record). r.prev) (read ∙ get_or_default rs next at blank_record next_at.0) ∙ ap (prev_in rs) there ∙ (threaded.linked p le).1

    pub prev_at : (before < length rs) × (before ≢ s)
    prev_at = (
      subst (λ m. m < length rs) (sym prev_is) (prev_inside rs (spare' ++ s ∷ []) room order threaded p le some),
      λ e. fresh_in_ring rs rs' spare' s room order threaded p 0 le (sym prev_is ∙ e),
    )

    pub inserted : room' ≡ room → old ≡ rs → LeadsThrough (next_in old) (next_in rs') before s next → LeadsThrough (prev_in old) (prev_in rs') next s before → length rs' ≡ length old
        → IsThread rs' spare' room' × (order_of rs' ≡ insert order p s)
    inserted capacity same next_links prev_links long = whole rs' spare' room' (insert order p s) (
        subst (λ r. AreThreaded rs' spare' r (insert order p s)) (sym capacity) (
        threaded_more rs rs' spare' s room order threaded p le (long ∙ ap length same)
        (subst (λ (m : ℕ). LeadsThrough (next_in rs) (next_in rs') (get_or (0 ∷ order) p 0) s m) there
        (subst (λ (m : ℕ). LeadsThrough (next_in rs) (next_in rs') m s next) prev_is (subst (λ (xs : List Record). LeadsThrough (next_in xs) (next_in rs') before s next) same next_links)))
        (subst (λ (m : ℕ). LeadsThrough (prev_in rs) (prev_in rs') m s (get_or (0 ∷ order) p 0)) there
        (subst (λ (m : ℕ). LeadsThrough (prev_in rs) (prev_in rs') next s m) prev_is (subst (λ (xs : List Record). LeadsThrough (prev_in xs) (prev_in rs') next s before) same prev_links)))))

module _ (rs old rs' : List Record) (spare spare' : List ℕ) (s room room' : ℕ) (order : List ℕ) (p : ℕ) (thread : IsThread rs spare room) (is : order_of rs ≡ order) (lt : p < length order)
    (there : s ≡ get_or order p 0) where
  threaded_all : AreThreaded rs spare room order
  threaded_all = subst (λ (xs : List ℕ). AreThreaded rs spare room xs) is thread

  pub slot_inside : s < length rs
  slot_inside = threaded_all.inside s (p, lt, sym there)

  pub ends_inside : (prev_in rs s < length rs) × (next_in rs s < length rs)
  ends_inside = (
    subst (λ m. m < length rs) (sym (prev_there rs rs' spare room order threaded_all p s lt there)) (prev_inside rs spare room order threaded_all p (omega arith) (let a = slot_inside in omega arith)),
    subst (λ m. m < length rs) (sym (next_there rs rs' spare room order threaded_all p s lt there)) (next_inside rs spare room order threaded_all (suc p) lt (let a = slot_inside in omega arith)),
  )

  pub removed : spare' ≡ spare ++ s ∷ [] → room' ≡ room → old ≡ rs → LeadsTo (next_in old) (next_in rs') (prev_in old s) (next_in old s) → LeadsTo (prev_in old) (prev_in rs') (next_in old s) (prev_in old s)
      → length rs' ≡ length old → IsThread rs' spare' room' × (order_of rs' ≡ remove order p)
  removed pushed capacity same next_links prev_links long = whole rs' spare' room' (remove order p) (
      subst (λ r. AreThreaded rs' spare' r (remove order p)) (sym capacity) (subst (λ (ss : List ℕ). AreThreaded rs' ss room (remove order p)) (sym pushed) (
      threaded_less rs rs' spare room order threaded_all p s lt there (long ∙ ap length same)
      (subst (λ (xs : List Record). LeadsTo (next_in xs) (next_in rs') (prev_in xs s) (next_in xs s)) same next_links)
      (subst (λ (xs : List Record). LeadsTo (prev_in xs) (prev_in rs') (next_in xs s) (prev_in xs s)) same prev_links))))

-- the same links, whatever the gaps
pub same_links : (rs rs' : List Record) (spare : List ℕ) (room : ℕ) (order : List ℕ) → IsThread rs spare room → order_of rs ≡ order → length rs' ≡ length rs → ((k : ℕ) → next_in rs' k ≡ next_in rs k)
    → ((k : ℕ) → prev_in rs' k ≡ prev_in rs k) → IsThread rs' spare room × (order_of rs' ≡ order)
same_links rs rs' spare room order thread is long next prev = whole rs' spare room order (subst (λ (xs : List ℕ). AreThreaded rs' spare room xs) is (record {
  linked = λ k le. (next (get_or (0 ∷ order_of rs) k 0) ∙ (thread.linked k le).0, prev (get_or (order_of rs) k 0) ∙ (thread.linked k le).1);
  distinct = thread.distinct;
  inside = λ slot in_order. (let a = thread.inside slot in_order in omega arith);
  free = subst (λ n. All (IsSpare (λ slot. IsIn slot (order_of rs)) n) spare) (sym long) thread.free;
  apart = thread.apart;
  counted = (let a = thread.counted in omega arith);
  fits = (let a = thread.fits in omega arith);
  few = (let a = thread.few in omega arith);
}))
