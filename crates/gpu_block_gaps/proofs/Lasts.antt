-- Gaps in classes, and the last one behind them.
use Rattle.std.proofs.Common.{◌≡◌, ◌≢◌, ℕ, zero, suc, ◌+◌, ◌-◌, ◌/◌, ◌<◌, ◌≤◌, ◌==◌, min, false, List, [], ◌∷◌, ◌++◌, length, get_or, Option, Some, None, ◌⊎◌, inl, inr, refl, sym, ap, subst, ◌∙◌, arith}
use Rattle.std.specs.List.{AllPairs, insert, remove}
use Rattle.std.proofs.lemmas.Bool.{cases_lt}
use Rattle.std.proofs.lemmas.Bool.Decides.{nat_tests}
use Rattle.gpu_cost.specs.Cost.{digits}
use Rattle.std.proofs.lemmas.List.{length-append, get_or_append_left, get_or_push, take_at, take_all, append-nil, length-map}
use Rattle.std.proofs.lemmas.List.Edits.{length-insert, get_or-insert_below, get_or-insert_at, get_or-insert_above, insert_end, insert-append_left, length-remove, get_or-remove_below, get_or-remove_above, remove-append_left, remove-append_right}
use Rattle.std.proofs.lemmas.List.Quantifiers.{all_pairs_push}
use Rattle.gpu_block_gaps.specs.declared.index.Gap.{Gap}
use Rattle.gpu_block_gaps.specs.Index.{Before, HasKey, HasNoKey, HasKeyAt, IsInserted, IsRemoved, IsReplaced}
use Rattle.gpu_block_gaps.specs.Last.{with_last, AreBefore, IsBehind, IsLast, StaysLast, last_count}
use Rattle.gpu_block_gaps.specs.Tree.{Tree}
use Rattle.gpu_block_gaps.specs.declared.forest.Forest.{Forest}
use Rattle.gpu_block_gaps.specs.Thread.{Threaded, gap_in}
use Rattle.gpu_block_gaps.specs.Ordered.{gaps_of, AreIndexed}
use Rattle.gpu_block_gaps.proofs.Surface.{gap_at, gaps_sorted, last_in}
use Rattle.gpu_block_gaps.proofs.Anew.{put_next}

-- ---- numbers of digits

other : (a b : ℕ) → a ≢ b → (a == b) ≡ false
other a b apart = grind (arith, nat_tests)

one_digit : (n : ℕ) → 0 < n → 1 ≤ digits n
unfolding digits
one_digit zero some = absurd (omega arith)
one_digit (suc n) some = let e = other (suc n) 0 (λ is. omega arith) in rw e (omega arith)

two_digits : (n : ℕ) → 1 < n → 2 ≤ digits n
unfolding digits
two_digits zero some = absurd (omega arith)
two_digits (suc zero) some = absurd (omega arith)
two_digits (suc (suc n)) some =
    let e = other (suc (suc n)) 0 (λ is. omega arith) in
    let half = other (suc (suc n) / 2) 0 (λ is. omega arith) in
    rw (e, half) (omega arith)

-- ---- the order

pub before_trans : (a b c : Gap) → Before a b → Before b c → Before a c
before_trans a b c (inl x) (inl y) = inl (omega arith)
before_trans a b c (inl x) (inr y) = let e = y.0 in inl (omega arith)
before_trans a b c (inr x) (inl y) = let e = x.0 in inl (omega arith)
before_trans a b c (inr x) (inr y) = let e = x.0 in let f = y.0 in let p = x.1 in let q = y.1 in inr (omega arith, omega arith)

-- where one isn't before the other, and they have different keys, that is before it
pub behind : (a b : Gap) → (Before a b → ⊥) → (HasKey b a.length a.start → ⊥) → Before b a
behind a b not_before other = by_length (cases_lt b.length a.length) (cases_lt a.length b.length)
  where
    by_length : (b.length < a.length) ⊎ (a.length ≤ b.length) → (a.length < b.length) ⊎ (b.length ≤ a.length) → Before b a
    by_length (inl lt) second = inl lt
    by_length (inr le) (inl lt) = absurd (not_before (inl lt))
    by_length (inr le) (inr ge) = by_start (cases_lt b.start a.start) (cases_lt a.start b.start)
      where
        by_start : (b.start < a.start) ⊎ (a.start ≤ b.start) → (a.start < b.start) ⊎ (b.start ≤ a.start) → Before b a
        by_start (inl lt) second = inr (omega arith, lt)
        by_start (inr up) (inl lt) = absurd (not_before (inr (omega arith, lt)))
        by_start (inr up) (inr down) = absurd (other (omega arith, omega arith))

-- ---- a list with one more behind it

module _ (gs : List Gap) (g : Gap) where
  pub longer : length (gs ++ g ∷ []) ≡ length gs + 1
  longer = length-append gs (g ∷ [])

  pub got_below : (k : ℕ) (d : Gap) → k < length gs → get_or (gs ++ g ∷ []) k d ≡ get_or gs k d
  got_below k d lt = get_or_append_left gs (g ∷ []) d k lt

  pub got_last : (d : Gap) → get_or (gs ++ g ∷ []) (length gs) d ≡ g
  got_last d = get_or_push gs g d (length gs) refl

  -- what holds of each of the others and of the last one
  pub each_or_last : (P : Gap → Type 0) → ((k : ℕ) (d : Gap) → k < length gs → P (get_or gs k d)) → P g → (k : ℕ) (d : Gap) → k < length (gs ++ g ∷ []) → P (get_or (gs ++ g ∷ []) k d)
  each_or_last P each last k d lt = by_place (cases_lt k (length gs))
    where
      by_place : (k < length gs) ⊎ (length gs ≤ k) → P (get_or (gs ++ g ∷ []) k d)
      by_place (inl within) = subst P (sym (got_below k d within)) (each k d within)
      by_place (inr past) = let l = longer in let e : length gs ≡ k = omega arith in subst P (sym (ap (λ j. get_or (gs ++ g ∷ []) j d) (sym e) ∙ got_last d)) last

  pub all_before : (h : Gap) → AreBefore gs g → Before g h → AreBefore (gs ++ g ∷ []) h
  all_before h before last = each_or_last (λ (a : Gap). Before a h) (λ k d lt. before_trans (get_or gs k d) g h (before k d lt) last) last

  pub no_key : (size start : ℕ) → HasNoKey (gs ++ g ∷ []) size start → HasKey g size start → ⊥
  no_key size start fresh same = fresh (length gs) g (let l = longer in omega arith) (subst (λ (a : Gap). HasKey a size start) (sym (got_last g)) same)

  pub put_last : IsInserted gs g (gs ++ g ∷ [])
  put_last = record { place = length gs; within = omega arith; is = sym (insert_end gs g) }

  pub gone_last : (size start : ℕ) → HasKey g size start → IsRemoved (gs ++ g ∷ []) size start gs
  gone_last size start same = record {
    place = length gs;
    within = (let l = longer in omega arith);
    key = λ d. subst (λ (a : Gap). HasKey a size start) (sym (got_last d)) same;
    is = sym (remove-append_right gs (g ∷ []) (length gs) (length gs) refl (omega arith) ∙ ap (λ k. gs ++ remove (g ∷ []) k) (none (length gs)) ∙ append-nil gs);
  }
    where
      none : (n : ℕ) → n - n ≡ 0
      none n = omega arith

  -- where the last of a list in order is put, it stands at the end
  pub put_at_end : (new : List Gap) → AllPairs Before new → AreBefore gs g → AllPairs Before gs → IsInserted gs g new → new ≡ gs ++ g ∷ []
  put_at_end new ordered before sorted put =
      let l = longer in
      put_next (gs ++ g ∷ []) (length gs) g (all_pairs_push Before gs g sorted before) (omega arith) got_last new
      (subst (λ (xs : List Gap). IsInserted xs g new) (sym (take_at gs (g ∷ []) (length gs) refl)) put) ordered
      ∙ take_all (suc (length gs)) (gs ++ g ∷ []) (omega arith)

-- a key of a class is compared if there is any, and the last one if there is one
pub few_compared : (gs : List Gap) (last : Option Gap) → min 1 (length gs) + last_count last ≤ digits (length (with_last gs last))
few_compared [] None = omega arith
few_compared (a ∷ gs) None = let one = one_digit (length (a ∷ gs)) (omega arith) in omega arith
few_compared [] (Some g) = one_digit 1 (omega arith)
few_compared (a ∷ gs) (Some g) = let l = longer (a ∷ gs) g in let two = two_digits (length (a ∷ gs ++ g ∷ [])) (omega arith) in omega arith

-- ---- changes of the others

pub in_order : (gs : List Gap) (room : ℕ) (last : Option Gap) → AllPairs Before gs → IsBehind gs room last → AllPairs Before (with_last gs last)
in_order gs room None sorted is = sorted
in_order gs room (Some g) sorted is = all_pairs_push Before gs g sorted is.0

pub put_others : (gs new : List Gap) (h : Gap) (last : Option Gap) → IsInserted gs h new → IsInserted (with_last gs last) h (with_last new last)
put_others gs new h None put = put
put_others gs new h (Some g) put =
    let le = put.within in
    let l = longer gs g in
    record { place = put.place; within = omega arith; is = ap (λ (xs : List Gap). xs ++ g ∷ []) put.is ∙ sym (insert-append_left gs (g ∷ []) put.place h le) }

pub gone_others : (gs new : List Gap) (size start : ℕ) (last : Option Gap) → IsRemoved gs size start new → IsRemoved (with_last gs last) size start (with_last new last)
gone_others gs new size start None gone = gone
gone_others gs new size start (Some g) gone =
    let lt = gone.within in
    let l = longer gs g in
    record {
      place = gone.place;
      within = omega arith;
      key = λ d. subst (λ (a : Gap). HasKey a size start) (sym (got_below gs g gone.place d lt)) (gone.key d);
      is = ap (λ (xs : List Gap). xs ++ g ∷ []) gone.is ∙ sym (remove-append_left gs (g ∷ []) gone.place lt);
    }

pub key_of_others : (gs : List Gap) (size start : ℕ) (last : Option Gap) → HasKeyAt (with_last gs last) size start → (IsLast last size start → ⊥) → HasKeyAt gs size start
key_of_others gs size start None has other = has
key_of_others gs size start (Some g) has other = by_place (cases_lt has.at (length gs))
  where
    by_place : (has.at < length gs) ⊎ (length gs ≤ has.at) → HasKeyAt gs size start
    by_place (inl lt) = record { at = has.at; at_within = lt; at_key = λ d. subst (λ (a : Gap). HasKey a size start) (got_below gs g has.at d lt) (has.at_key d) }
    by_place (inr ge) = absurd (
        let l = longer gs g in
        let within = has.at_within in
        let e : has.at ≡ length gs = omega arith in
        other (subst (λ (a : Gap). HasKey a size start) (ap (λ k. get_or (gs ++ g ∷ []) k g) e ∙ got_last gs g g) (has.at_key g)))

pub fresh_others : (gs : List Gap) (size start : ℕ) (last : Option Gap) → HasNoKey (with_last gs last) size start → HasNoKey gs size start
fresh_others gs size start None fresh = fresh
fresh_others gs size start (Some g) fresh = λ k d lt same.
    fresh k d (let l = longer gs g in omega arith) (subst (λ (a : Gap). HasKey a size start) (sym (got_below gs g k d lt)) same)

pub replaced_others : (gs new : List Gap) (size start : ℕ) (h : Gap) (last : Option Gap) → IsReplaced gs size start h new → IsReplaced (with_last gs last) size start h (with_last new last)
replaced_others gs new size start h last is =
    record { rest = with_last is.rest last; gone = gone_others gs is.rest size start last is.gone; put = put_others is.rest new h last is.put }

pub gone_if_last : (gs : List Gap) (size start : ℕ) (last : Option Gap) → IsLast last size start → IsRemoved (with_last gs last) size start gs
gone_if_last gs size start None is = absurd is
gone_if_last gs size start (Some g) is = gone_last gs g size start is

pub stays_other : (size start : ℕ) (h : Gap) (last : Option Gap) → StaysLast last size start h → IsLast last size start → ⊥
stays_other size start h None stays is = stays
stays_other size start h (Some g) stays is = stays.0 is

-- a gap behind the last one comes in that one's place
pub swapped : (gs new : List Gap) (e h : Gap) → AllPairs Before gs → AllPairs Before new → AreBefore gs e → IsInserted gs e new → IsInserted (gs ++ e ∷ []) h (new ++ h ∷ [])
swapped gs new e h sorted ordered before put =
    subst (λ (xs : List Gap). IsInserted xs h (new ++ h ∷ [])) (put_at_end gs e new ordered before sorted put) (put_last new h)

-- ---- they stay before the last one

pub before_put : (gs new : List Gap) (h g : Gap) → IsInserted gs h new → AreBefore gs g → Before h g → AreBefore new g
before_put gs new h g put before one = subst (λ (xs : List Gap). AreBefore xs g) (sym put.is) by_index
  where
    p : ℕ
    p = put.place

    le : p ≤ length gs
    le = put.within

    by_index : AreBefore (insert gs p h) g
    by_index k d lt = by_place (cases_lt k p) (cases_lt p k)
      where
        by_place : (k < p) ⊎ (p ≤ k) → (p < k) ⊎ (k ≤ p) → Before (get_or (insert gs p h) k d) g
        by_place (inl less) second = subst (λ (a : Gap). Before a g) (sym (get_or-insert_below gs p h d k less le)) (before k d (let a = le in omega arith))
        by_place (inr up) (inl more) =
            let l = length-insert gs p h le in
            let j : k ≡ (k - 1) + 1 = omega arith in
            subst (λ (a : Gap). Before a g) (sym (ap (λ i. get_or (insert gs p h) i d) j ∙ get_or-insert_above gs p h d (k - 1) (omega arith) le)) (before (k - 1) d (omega arith))
        by_place (inr up) (inr down) =
            let e : k ≡ p = omega arith in
            subst (λ (a : Gap). Before a g) (sym (ap (λ i. get_or (insert gs p h) i d) e ∙ get_or-insert_at gs p h d le)) one

pub before_gone : (gs new : List Gap) (size start : ℕ) (g : Gap) → IsRemoved gs size start new → AreBefore gs g → AreBefore new g
before_gone gs new size start g gone before = subst (λ (xs : List Gap). AreBefore xs g) (sym gone.is) by_index
  where
    p : ℕ
    p = gone.place

    within : p < length gs
    within = gone.within

    by_index : AreBefore (remove gs p) g
    by_index k d lt = by_place (cases_lt k p)
      where
        by_place : (k < p) ⊎ (p ≤ k) → Before (get_or (remove gs p) k d) g
        by_place (inl less) = subst (λ (a : Gap). Before a g) (sym (get_or-remove_below gs p d k less within)) (before k d (let a = within in omega arith))
        by_place (inr up) =
            let l = length-remove gs p within in
            subst (λ (a : Gap). Before a g) (sym (get_or-remove_above gs p d k up within)) (before (k + 1) d (omega arith))

-- ---- and there is room

put_long : (gs new : List Gap) (h : Gap) → IsInserted gs h new → length new ≡ length gs + 1
put_long gs new h put = ap length put.is ∙ length-insert gs put.place h put.within

gone_long : (gs new : List Gap) (size start : ℕ) → IsRemoved gs size start new → length new + 1 ≡ length gs
gone_long gs new size start gone = ap (λ (xs : List Gap). length xs + 1) gone.is ∙ length-remove gs gone.place gone.within

pub behind_put : (gs new : List Gap) (h : Gap) (room room' : ℕ) (last : Option Gap) → IsInserted gs h new → room' ≡ room → length (with_last gs last) < room → ((g : Gap) → last ≡ Some g → Before h g)
    → IsBehind gs room last → IsBehind new room' last
behind_put gs new h room room' None put same some before is = let l = put_long gs new h put in omega arith
behind_put gs new h room room' (Some g) put same some before is =
    let l = put_long gs new h put in
    let m = longer gs g in
    (before_put gs new h g put is.0 (before g refl), omega arith)

pub behind_gone : (gs new : List Gap) (size start room room' : ℕ) (last : Option Gap) → IsRemoved gs size start new → room' ≡ room → IsBehind gs room last → IsBehind new room' last
behind_gone gs new size start room room' None gone same is = let l = gone_long gs new size start gone in omega arith
behind_gone gs new size start room room' (Some g) gone same is =
    let l = gone_long gs new size start gone in
    let m = is.1 in
    (before_gone gs new size start g gone is.0, omega arith)

pub behind_replaced : (gs new : List Gap) (size start : ℕ) (h : Gap) (room room' : ℕ) (last : Option Gap) → IsReplaced gs size start h new → room' ≡ room → StaysLast last size start h → IsBehind gs room last
    → IsBehind new room' last
behind_replaced gs new size start h room room' None is same stays behind = absurd stays
behind_replaced gs new size start h room room' (Some g) is same stays behind =
    let l = gone_long gs is.rest size start is.gone in
    let m = put_long is.rest new h is.put in
    let some = behind.1 in
    (before_put is.rest new h g is.put (before_gone gs is.rest size start g is.gone behind.0) stays.1, omega arith)

pub room_left : (gs : List Gap) (room : ℕ) (last : Option Gap) → IsBehind gs room last → length (with_last gs last) ≤ room
room_left gs room None is = is
room_left gs room (Some g) is = let l = longer gs g in let m = is.1 in omega arith

pub behind_swapped : (gs new : List Gap) (e h : Gap) (room room' : ℕ) → IsInserted gs e new → room' ≡ room → length (gs ++ e ∷ []) < room → AreBefore gs e → Before e h → AllPairs Before gs → AllPairs Before new → IsBehind new room' (Some h)
behind_swapped gs new e h room room' put same some before less sorted ordered =
    let l = put_long gs new e put in
    let m = longer gs e in
    (subst (λ (xs : List Gap). AreBefore xs h) (sym (put_at_end gs e new ordered before sorted put)) (all_before gs e h before less), omega arith)

-- ---- told by the last slot of a thread

module _ (t : Threaded) (f : Forest) (trees : List (Option Tree)) (are : AreIndexed t f trees) (last : ℕ) (at : last ≡ get_or (0 ∷ t.order) (length t.order) 0) (some : last ≢ 0) (g : Gap) where
  abbrev n : ℕ
  n = (last_in t f trees are last at some).0

  long : length (gaps_of t) ≡ n + 1
  long = length-map t.order (gap_in t.gaps) ∙ (last_in t f trees are last at some).1

  here : (d : Gap) → get_or (gaps_of t) n d ≡ gap_in t.gaps last
  here d = gap_at t f trees are n d (let a = (last_in t f trees are last at some).1 in omega arith) ∙ ap (gap_in t.gaps) (last_in t f trees are last at some).2

  pub all_by_last : Before (gap_in t.gaps last) g → AreBefore (gaps_of t) g
  all_by_last less k d lt = by_order (cases_lt k n)
    where
      by_order : (k < n) ⊎ (n ≤ k) → Before (get_or (gaps_of t) k d) g
      by_order (inl before) =
          before_trans (get_or (gaps_of t) k d) (gap_in t.gaps last) g
          (subst (λ (a : Gap). Before (get_or (gaps_of t) k d) a) (here d) (gaps_sorted t f trees are k n d before (omega (arith, long)))) less
      by_order (inr past) = let e : n ≡ k = omega (arith, long) in subst (λ (a : Gap). Before a g) (sym (ap (λ j. get_or (gaps_of t) j d) (sym e) ∙ here d)) less

  pub last_by_all : AreBefore (gaps_of t) g → Before (gap_in t.gaps last) g
  last_by_all all = subst (λ (a : Gap). Before a g) (here g) (all n g (omega (arith, long)))
