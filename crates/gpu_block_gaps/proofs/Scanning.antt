-- A search along the gaps in classes, and to the last one.
use Rattle.std.proofs.Common.{◌≡◌, ℕ, suc, ◌+◌, ◌<◌, ◌≤◌, List, [], ◌∷◌, ◌++◌, length, get_or, Option, Some, None, Bool, true, false, refl, sym, ap, subst, ◌∙◌, arith}
use Rattle.std.specs.Option.{MatchOption}
use Rattle.std.specs.List.{slice_get}
use Rattle.std.proofs.lemmas.Option.{same_Some, slice_get-get_or, slice_get_past}
use Rattle.std.proofs.lemmas.List.{length-map, get_or_past}
use Rattle.gpu_block_gaps.specs.declared.index.Gap.{Gap}
use Rattle.gpu_block_gaps.specs.declared.thread.Record.{Record}
use Rattle.gpu_block_gaps.specs.Thread.{Threaded, gap_in}
use Rattle.gpu_block_gaps.specs.Ordered.{gaps_of}
use Rattle.gpu_block_gaps.specs.Last.{gap_if, with_last, last_count, passed, IsLeft, IsRecordAt}
use Rattle.gpu_block_gaps.proofs.Surface.{gap_got}
use Rattle.gpu_block_gaps.proofs.Lasts.{longer, got_below, got_last}

-- the gap at a place of the others, and the one behind them
got_other : (gs : List Gap) (k : ℕ) (last : Option Gap) → k < length gs → slice_get (with_last gs last) k ≡ slice_get gs k
got_other gs k None lt = refl
got_other gs k (Some g) lt =
    let l = longer gs g in
    slice_get-get_or (gs ++ g ∷ []) k g (omega arith) ∙ ap (λ (a : Gap). Some a) (got_below gs g k g lt) ∙ sym (slice_get-get_or gs k g lt)

got_behind : (gs : List Gap) (g : Gap) → slice_get (gs ++ g ∷ []) (length gs) ≡ Some g
got_behind gs g =
    let l = longer gs g in
    slice_get-get_or (gs ++ g ∷ []) (length gs) g (omega arith) ∙ ap (λ (a : Gap). Some a) (got_last gs g g)

-- while others are left the last one wasn't passed
none_passed : (gs : List Gap) (k : ℕ) (last : Option Gap) (pending : Bool) → k < length gs → IsLeft gs k last pending → passed last pending ≡ 0
none_passed gs k None true lt left = refl
none_passed gs k None false lt left = refl
none_passed gs k (Some g) true lt left = refl
none_passed gs k (Some g) false lt left = absurd (omega arith)

-- it stays so
left_more : (gs : List Gap) (k : ℕ) (last : Option Gap) (pending : Bool) → IsLeft gs k last pending → IsLeft gs (suc k) last pending
left_more gs k None true left = tt
left_more gs k None false left = tt
left_more gs k (Some g) true left = tt
left_more gs k (Some g) false left = omega arith

left_past : (gs : List Gap) (k : ℕ) (last : Option Gap) → length gs ≤ k → IsLeft gs k last false
left_past gs k None past = tt
left_past gs k (Some g) past = past

-- where no gap is left the place is behind all
all_past : (gs : List Gap) (k : ℕ) (last : Option Record) (pending : Bool) → length gs ≤ k → (pending ≡ true → last ≡ None) → length (with_last gs (gap_if last)) ≤ k + passed (gap_if last) pending
all_past gs k None pending past none = omega arith
all_past gs k (Some r) true past none = absurd (let e = none refl in cc)
all_past gs k (Some r) false past none = let l = longer gs r.gap in omega arith

at_most_one : (gs : List Gap) (last : Option Gap) → length (with_last gs last) ≤ length gs + 1
at_most_one gs None = omega arith
at_most_one gs (Some g) = let l = longer gs g in omega arith

-- a slot from which a search goes on, one place later
pub record GoesOn (t : Threaded) (last : Option Record) (slot : ℕ) (pending : Bool) (before : ℕ) : Type 0 where
  pub place : ℕ
  pub within : place ≤ length t.order
  pub at : slot ≡ get_or t.order place 0
  pub left : IsLeft (gaps_of t) place (gap_if last) pending
  pub one : place + passed (gap_if last) pending ≡ before + 1

module _ {X : Type 0} (record_of : X → Record) (t : Threaded) (k : ℕ) (within : k ≤ length t.order) (last : Option Record) (pending : Bool) (left : IsLeft (gaps_of t) k (gap_if last) pending) where
  long : length (gaps_of t) ≡ length t.order
  long = length-map t.order (gap_in t.gaps)

  abbrev IsNext : Option X → Type 0
  IsNext next = MatchOption next (length t.order ≤ k) (λ r. IsRecordAt t k (record_of r))

  abbrev IsEither : Option X → Option X → Type 0
  IsEither next result = MatchOption next (MatchOption result (pending ≡ true → last ≡ None) (λ r. (pending ≡ true) × (last ≡ Some (record_of r)))) (λ r. result ≡ next)

  -- the gap that is given
  given_at : (next : Option X) (r : X) → IsNext next → IsEither next (Some r) → slice_get (with_last (gaps_of t) (gap_if last)) (k + passed (gap_if last) pending) ≡ Some (record_of r).gap
  given_at (Some n) r is either =
      let lt = is.within in
      let zero = none_passed (gaps_of t) k (gap_if last) pending (omega (arith, long)) left in
      let e : k + passed (gap_if last) pending ≡ k = omega arith in
      let same = same_Some r n either in
      ap (slice_get (with_last (gaps_of t) (gap_if last))) e ∙ got_other (gaps_of t) k (gap_if last) (omega (arith, long)) ∙ gap_got t k lt
      ∙ ap (λ (a : Gap). Some a) (sym is.gap ∙ ap (λ (x : X). (record_of x).gap) (sym same))
  given_at None r is either =
      let zero : passed (Some (record_of r).gap) pending ≡ 0 = ap (passed (Some (record_of r).gap)) either.0 in
      let e : k + passed (Some (record_of r).gap) pending ≡ length (gaps_of t) = omega (arith, long) in
      subst (λ (l : Option Record). slice_get (with_last (gaps_of t) (gap_if l)) (k + passed (gap_if l) pending) ≡ Some (record_of r).gap) (sym either.1)
      (ap (slice_get (gaps_of t ++ (record_of r).gap ∷ [])) e ∙ got_behind (gaps_of t) (record_of r).gap)

  pub given : (next result : Option X) (r : X) → result ≡ Some r → IsNext next → IsEither next result → slice_get (with_last (gaps_of t) (gap_if last)) (k + passed (gap_if last) pending) ≡ Some (record_of r).gap
  given next result r same is either = given_at next r is (subst (λ (o : Option X). IsEither next o) same either)

  none_at : (next : Option X) → IsNext next → IsEither next None → slice_get (with_last (gaps_of t) (gap_if last)) (k + passed (gap_if last) pending) ≡ None
  none_at (Some n) is either = absurd (let e = either in cc)
  none_at None is either = slice_get_past (with_last (gaps_of t) (gap_if last)) (k + passed (gap_if last) pending) (all_past (gaps_of t) k last pending (omega (arith, long)) either)

  pub none_given : (next result : Option X) → result ≡ None → IsNext next → IsEither next result → slice_get (with_last (gaps_of t) (gap_if last)) (k + passed (gap_if last) pending) ≡ None
  none_given next result same is either = none_at next is (subst (λ (o : Option X). IsEither next o) same either)

  on_from : (next : Option X) (r : X) (slot : ℕ) (pending' : Bool) → IsNext next → IsEither next (Some r) → MatchOption next (slot ≡ 0) (λ n. slot ≡ (record_of n).next) → MatchOption next (pending' ≡ false) (λ n. pending' ≡ pending)
      → GoesOn t last slot pending' (k + passed (gap_if last) pending)
  on_from (Some n) r slot pending' is either next same =
      let lt = is.within in
      let e : k + 1 ≡ suc k = omega arith in
      let f = ap (passed (gap_if last)) same in
      record {
        place = suc k;
        within = omega arith;
        at = next ∙ is.next ∙ ap (λ j. get_or t.order j 0) e;
        left = subst (λ (p : Bool). IsLeft (gaps_of t) (suc k) (gap_if last) p) (sym same) (left_more (gaps_of t) k (gap_if last) pending left);
        one = omega arith;
      }
  on_from None r slot pending' is either next same =
      let was : passed (gap_if last) pending ≡ 0 = ap (passed (gap_if last)) either.0 in
      let now : passed (gap_if last) pending' ≡ 1 = ap (passed (gap_if last)) same ∙ ap (λ (l : Option Record). last_count (gap_if l)) either.1 in
      record {
        place = k;
        within = within;
        at = next ∙ sym (get_or_past t.order k 0 is);
        left = subst (λ (p : Bool). IsLeft (gaps_of t) k (gap_if last) p) (sym same) (left_past (gaps_of t) k (gap_if last) (omega (arith, long)));
        one = omega arith;
      }

  -- the same of a gap in a class, without the last one
  at_some : (next : Option X) (r : X) → next ≡ Some r → IsNext next → IsRecordAt t k (record_of r)
  at_some next r same is = subst IsNext same is

  pub given_in_class : (next : Option X) (r : X) → next ≡ Some r → IsNext next → slice_get (with_last (gaps_of t) (gap_if last)) (k + passed (gap_if last) pending) ≡ Some (record_of r).gap
  given_in_class next r same is = given_at (Some r) r (at_some next r same is) refl

  pub goes_on_in_class : (next : Option X) (r : X) (slot : ℕ) → next ≡ Some r → IsNext next → slot ≡ (record_of r).next → GoesOn t last slot pending (k + passed (gap_if last) pending)
  goes_on_in_class next r slot same is led = on_from (Some r) r slot pending (at_some next r same is) refl led refl

  none_left : (next : Option X) → next ≡ None → IsNext next → length t.order ≤ k
  none_left next same is = subst IsNext same is

  pub one_left : (next : Option X) → next ≡ None → IsNext next → length (with_last (gaps_of t) (gap_if last)) ≤ k + passed (gap_if last) pending + 1
  one_left next same is = let past = none_left next same is in let most = at_most_one (gaps_of t) (gap_if last) in omega (arith, long)

  pub goes_on : (next result : Option X) (r : X) (slot : ℕ) (pending' : Bool) → result ≡ Some r → IsNext next → IsEither next result → MatchOption next (slot ≡ 0) (λ n. slot ≡ (record_of n).next)
      → MatchOption next (pending' ≡ false) (λ n. pending' ≡ pending) → GoesOn t last slot pending' (k + passed (gap_if last) pending)
  goes_on next result r slot pending' same is either led left_now = on_from next r slot pending' is (subst (λ (o : Option X). IsEither next o) same either) led left_now
