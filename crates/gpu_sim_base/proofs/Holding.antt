-- What each change of a slot makes of what a simulated device holds.
use Rattle.std.proofs.Common.{◌≡◌, ◌≢◌, ℕ, zero, suc, ◌+◌, ◌<◌, List, [], ◌∷◌, ◌++◌, length, get_or, set, Option, Some, None, option_map, is_some, cond, count_by, refl, sym, ap, subst, ◌∙◌, arith}
use Rattle.std.proofs.Common.{⊎_elim}
use Rattle.std.proofs.lemmas.Bool.{cases_eq, cases_lt}
use Rattle.std.proofs.lemmas.List.{get_or_past, set_past, get_or-set_same, get_or-set_other}
use Rattle.std.proofs.lemmas.List.Sums.{sum_by-cons}
use Rattle.std.specs.Ordering.{nat_cmp}
use Rattle.std.specs.FinMap.{FinMap, get, insert, remove, len-empty, len-insert}
use Rattle.std.specs.FinMap.{len as map_len}
use Rattle.std.specs.Cmp.{nat_cmp_total}
use Rattle.gpu_device.proofs.Maps.{held_alike, get-insert_same, get-insert_other, get-remove_same, get-remove_other, remove_none}
use Rattle.gpu_sim_base.specs.Numbers.{item_at, with_item_at, held_from, held_in}
use Rattle.gpu_sim_base.specs.NumbersLaws.{find_before, get-held}

module _ {T E : Type 0} (entry : T → E) where
  -- ---- a slot that changes

  there : (ss : List (Option T)) (i : ℕ) (x : Option T) → i < length ss → get (held_in entry (set ss i x)) (suc i) ≡ option_map entry x
  there ss i x lt = get-held entry (set ss i x) (suc i) ∙ ap (option_map entry) (get_or-set_same ss i x None lt)

  off : (ss : List (Option T)) (i : ℕ) (x : Option T) (q : ℕ) → q ≢ suc i → item_at (set ss i x) q ≡ item_at ss q
  off ss i x zero ne = refl
  off ss i x (suc j) ne = get_or-set_other ss i j x None (λ e. ne (ap suc e))

  elsewhere : (ss : List (Option T)) (i : ℕ) (x : Option T) (q : ℕ) → q ≢ suc i → get (held_in entry (set ss i x)) q ≡ get (held_in entry ss) q
  elsewhere ss i x q ne = get-held entry (set ss i x) q ∙ ap (option_map entry) (off ss i x q ne) ∙ sym (get-held entry ss q)

  -- an item that is put into a slot
  pub set_held : (ss : List (Option T)) (i : ℕ) (a : T) → i < length ss → held_in entry (set ss i (Some a)) ≡ insert (held_in entry ss) (suc i) (entry a)
  set_held ss i a lt =
      held_alike _ _ (λ q.
      ⊎_elim
      (λ same. subst (λ k. get (held_in entry (set ss i (Some a))) k ≡ get (insert (held_in entry ss) (suc i) (entry a)) k) (sym same)
      (there ss i (Some a) lt ∙ sym (get-insert_same (held_in entry ss) (suc i) (entry a))))
      (λ ne. elsewhere ss i (Some a) q ne ∙ sym (get-insert_other (held_in entry ss) (suc i) q (entry a) ne))
      (cases_eq q (suc i)))

  set_free : (ss : List (Option T)) (i : ℕ) → i < length ss → held_in entry (set ss i None) ≡ remove (held_in entry ss) (suc i)
  set_free ss i lt =
      held_alike _ _ (λ q.
      ⊎_elim
      (λ same. subst (λ k. get (held_in entry (set ss i None)) k ≡ get (remove (held_in entry ss) (suc i)) k) (sym same)
      (there ss i None lt ∙ sym (get-remove_same (held_in entry ss) (suc i))))
      (λ ne. elsewhere ss i None q ne ∙ sym (get-remove_other (held_in entry ss) (suc i) q ne))
      (cases_eq q (suc i)))

  -- an item that is taken away, also where there is none
  pub removed : (ss : List (Option T)) (n : ℕ) → held_in entry (with_item_at ss n None) ≡ remove (held_in entry ss) n
  removed ss zero = sym (remove_none (held_in entry ss) 0 (get-held entry ss 0))
  removed ss (suc i) =
      ⊎_elim
      (λ lt. set_free ss i lt)
      (λ beyond.
      ap (held_in entry) (set_past ss i None beyond)
      ∙ sym (remove_none (held_in entry ss) (suc i) (get-held entry ss (suc i) ∙ ap (option_map entry) (get_or_past ss i None beyond))))
      (cases_lt i (length ss))

  -- ---- how many are held

  counted : (ss : List (Option T)) (k : ℕ) → map_len (held_from entry k ss) ≡ count_by is_some ss
  counted [] k = len-empty _ _
  counted (None ∷ ss) k = counted ss (suc k)
  counted (Some a ∷ ss) k =
      let rest : FinMap nat_cmp E = held_from entry (suc k) ss in
      let new : get rest k ≡ None = find_before entry ss (suc k) k (omega arith) in
      len-insert nat_cmp_total rest k (entry a) ∙ ap (λ x. cond (is_some x) (map_len rest) (map_len rest + 1)) new
      ∙ omega (arith, counted ss (suc k), sum_by-cons (λ x. cond (is_some x) 1 0) (Some a) ss)

  pub count_held : (ss : List (Option T)) → map_len (held_in entry ss) ≡ count_by is_some ss
  count_held ss = counted ss 1

  -- ---- a slot that is added

  get_or_joined : (ss : List (Option T)) (x : Option T) (j : ℕ) → j ≢ length ss → get_or (ss ++ x ∷ []) j None ≡ get_or ss j None
  get_or_joined [] x zero ne = absurd (ne refl)
  get_or_joined [] x (suc j) ne = refl
  get_or_joined (s ∷ ss) x zero ne = refl
  get_or_joined (s ∷ ss) x (suc j) ne = get_or_joined ss x j (λ e. ne (ap suc e))

  get_or_last : (ss : List (Option T)) (x : Option T) → get_or (ss ++ x ∷ []) (length ss) None ≡ x
  get_or_last [] x = refl
  get_or_last (s ∷ ss) x = get_or_last ss x

  on_joined : (ss : List (Option T)) (x : Option T) (q : ℕ) → q ≢ suc (length ss) → item_at (ss ++ x ∷ []) q ≡ item_at ss q
  on_joined ss x zero ne = refl
  on_joined ss x (suc j) ne = get_or_joined ss x j (λ e. ne (ap suc e))

  -- a number that was not given out is free
  pub not_held : (ss : List (Option T)) (n : ℕ) → length ss < n → get (held_in entry ss) n ≡ None
  not_held ss zero h = absurd (omega arith)
  not_held ss (suc i) h = get-held entry ss (suc i) ∙ ap (option_map entry) (get_or_past ss i None (omega arith))

  -- an item that is added has the next number
  pub added : (ss : List (Option T)) (a : T) (n : ℕ) → n ≡ length ss + 1 → held_in entry (ss ++ Some a ∷ []) ≡ insert (held_in entry ss) n (entry a)
  added ss a n is_n =
      let same : n ≡ suc (length ss) = omega arith in
      held_alike _ _ (λ q.
      ⊎_elim
      (λ at_n. subst (λ k. get (held_in entry (ss ++ Some a ∷ [])) k ≡ get (insert (held_in entry ss) n (entry a)) k) (sym at_n)
      (ap (get (held_in entry (ss ++ Some a ∷ []))) same ∙ get-held entry (ss ++ Some a ∷ []) (suc (length ss)) ∙ ap (option_map entry) (get_or_last ss (Some a))
      ∙ sym (get-insert_same (held_in entry ss) n (entry a))))
      (λ ne. get-held entry (ss ++ Some a ∷ []) q ∙ ap (option_map entry) (on_joined ss (Some a) q (λ at_n. ne (at_n ∙ sym same))) ∙ sym (get-held entry ss q)
      ∙ sym (get-insert_other (held_in entry ss) n q (entry a) ne))
      (cases_eq q n))

  -- ---- an item that changes in its place

  within : (ss : List (Option T)) (i : ℕ) (a : T) → get_or ss i None ≡ Some a → i < length ss
  within ss i a is = ⊎_elim (λ lt. lt) (λ beyond. let none = get_or_past ss i None beyond in cc) (cases_lt i (length ss))

  pub replaced : (ss : List (Option T)) (n : ℕ) (a b : T) → item_at ss n ≡ Some a → held_in entry (with_item_at ss n (Some b)) ≡ insert (held_in entry ss) n (entry b)
  replaced ss zero a b is = cc
  replaced ss (suc i) a b is = set_held ss i b (within ss i a is)

  -- an item that looks as before leaves what is held
  pub put_back : (ss : List (Option T)) (n : ℕ) (a b : T) → item_at ss n ≡ Some a → entry b ≡ entry a → held_in entry (with_item_at ss n (Some b)) ≡ held_in entry ss
  put_back ss n a b is same =
      replaced ss n a b is
      ∙ held_alike _ _ (λ q.
      ⊎_elim
      (λ e. subst (λ k. get (insert (held_in entry ss) n (entry b)) k ≡ get (held_in entry ss) k) (sym e)
      (get-insert_same (held_in entry ss) n (entry b) ∙ ap Some same ∙ sym (get-held entry ss n ∙ ap (option_map entry) is)))
      (λ ne. get-insert_other (held_in entry ss) n q (entry b) ne)
      (cases_eq q n))

-- ---- slots, one by one

module _ {T : Type 0} where
  pub item_put : (ss : List (Option T)) (n : ℕ) (a b : T) → item_at ss n ≡ Some a → item_at (with_item_at ss n (Some b)) n ≡ Some b
  item_put ss zero a b is = cc
  item_put ss (suc i) a b is = get_or-set_same ss i (Some b) None (within (λ x. x) ss i a is)

  pub item_apart : (ss : List (Option T)) (n : ℕ) (x : Option T) (q : ℕ) → q ≢ n → item_at (with_item_at ss n x) q ≡ item_at ss q
  item_apart ss zero x q ne = refl
  item_apart ss (suc i) x zero ne = refl
  item_apart ss (suc i) x (suc j) ne = get_or-set_other ss i j x None (λ e. ne (ap suc e))

  pub item_gone : (ss : List (Option T)) (n : ℕ) → item_at (with_item_at ss n None) n ≡ None
  item_gone ss zero = refl
  item_gone ss (suc i) =
      ⊎_elim
      (λ lt. get_or-set_same ss i None None lt)
      (λ beyond. ap (λ (l : List (Option T)). get_or l i None) (set_past ss i None beyond) ∙ get_or_past ss i None beyond)
      (cases_lt i (length ss))

  set_twice : (ss : List (Option T)) (i : ℕ) (x y : Option T) → set (set ss i x) i y ≡ set ss i y
  set_twice [] i x y = refl
  set_twice (s ∷ ss) zero x y = refl
  set_twice (s ∷ ss) (suc i) x y = ap (λ l. s ∷ l) (set_twice ss i x y)

  pub put_twice : (ss : List (Option T)) (n : ℕ) (x y : Option T) → with_item_at (with_item_at ss n x) n y ≡ with_item_at ss n y
  put_twice ss zero x y = refl
  put_twice ss (suc i) x y = set_twice ss i x y

  set_same : (ss : List (Option T)) (i : ℕ) (x : Option T) → get_or ss i None ≡ x → set ss i x ≡ ss
  set_same [] i x is = refl
  set_same (s ∷ ss) zero x is = ap (λ y. y ∷ ss) (sym is)
  set_same (s ∷ ss) (suc i) x is = ap (λ l. s ∷ l) (set_same ss i x is)

  -- an item that was taken out and is put back
  pub taken_and_put : (ss : List (Option T)) (n : ℕ) (x : Option T) → item_at ss n ≡ x → with_item_at (with_item_at ss n None) n x ≡ ss
  taken_and_put ss zero x is = refl
  taken_and_put ss (suc i) x is = set_twice ss i None x ∙ set_same ss i x is

  set_length : (ss : List (Option T)) (i : ℕ) (x : Option T) → length (set ss i x) ≡ length ss
  set_length [] i x = refl
  set_length (s ∷ ss) zero x = refl
  set_length (s ∷ ss) (suc i) x = ap suc (set_length ss i x)

  -- no number is given out by a change of a slot
  pub length_put : (ss : List (Option T)) (n : ℕ) (x : Option T) → length (with_item_at ss n x) ≡ length ss
  length_put ss zero x = refl
  length_put ss (suc i) x = set_length ss i x

  -- a number that was not given out has no item
  pub no_item : (ss : List (Option T)) (n : ℕ) → length ss < n → item_at ss n ≡ None
  no_item ss zero h = refl
  no_item ss (suc i) h = get_or_past ss i None (omega arith)

  -- an item that is added has the next number, and leaves the others
  pub item_added : (ss : List (Option T)) (a : Option T) → item_at (ss ++ a ∷ []) (suc (length ss)) ≡ a
  item_added ss a = get_or_last (λ (x : T). x) ss a

  pub item_beside : (ss : List (Option T)) (a : Option T) (q : ℕ) → q ≢ suc (length ss) → item_at (ss ++ a ∷ []) q ≡ item_at ss q
  item_beside ss a q ne = on_joined (λ (x : T). x) ss a q ne
