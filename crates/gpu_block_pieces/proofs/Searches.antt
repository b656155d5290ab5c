-- What a walk over the index needs.
use Rattle.std.proofs.Common.{◌≡◌, ℕ, ◌+◌, ◌-◌, ◌<◌, ◌≤◌, List, zero, suc, length, get_or, take, Option, Some, None, true, false, refl, sym, ap, ◌∙◌, subst, ⊎_elim, arith, count_by, slice_get, add-one}
use Rattle.std.proofs.lemmas.List.Sums.{count_by_more_yes, count_by_more_no}
use Rattle.std.proofs.lemmas.Option.{slice_get_within, get_or_from_slice_get}
use Rattle.std.specs.Option.{MatchOption}
use Rattle.std.proofs.lemmas.List.{take_all}
use Rattle.std.proofs.lemmas.Bool.{cases_lt}
use Rattle.std.proofs.lemmas.Bool.Decides.{nat_tests}
use Rattle.gpu_values.specs.declared.allocation_type.AllocationType.TheVariants.{Free}
use Rattle.gpu_block_gaps.specs.declared.index.Gap.{Gap}
use Rattle.gpu_block_pieces.specs.declared.place.Wanted.{Wanted}
use Rattle.gpu_block_pieces.specs.declared.search.Found.{Found}
use Rattle.gpu_block_pieces.specs.Indexed.{FitsGap, NoGapFits, IsFirstFit, NoneFitsAt, IsFoundAt, is_long}

pub counts_long : (gs : List Gap) (n i : ℕ) (g : Gap) → Some g ≡ slice_get gs i → ((k : ℕ) (d : Gap) → i ≤ k → k < length gs → n ≤ (get_or gs k d).length)
    → count_by (is_long n) (take (i + 1) gs) ≡ count_by (is_long n) (take i gs) + 1
counts_long gs n i g at long =
    let within = slice_get_within gs i g (sym at) in
    let le = long i g (omega arith) within in
    let long_one : is_long n (get_or gs i g) ≡ true = grind (arith, nat_tests) in
    count_by_more_yes (is_long n) gs i g within long_one

pub short_fails : (w : Wanted) (g : Gap) (o : ℕ) → g.length < w.size → FitsGap w g o → ⊥
short_fails w g o lt f =
    let a = f.begins.begins.after in
    let b = f.inside in
    absurd (omega arith)

pub one_more_past : (gs : List Gap) (w : Wanted) (i : ℕ) (g : Gap) → Some g ≡ slice_get gs i → ((o : ℕ) → FitsGap w g o → ⊥) → ((k o : ℕ) (d : Gap) → k < i → FitsGap w (get_or gs k d) o → ⊥)
    → (k o : ℕ) (d : Gap) → k < i + 1 → FitsGap w (get_or gs k d) o → ⊥
one_more_past gs w i g at fails before k o d lt fits = ⊎_elim
    (λ (l : k < i). before k o d l fits)
    (λ (ge : i ≤ k).
    let e : k ≡ i = omega arith in
    let same : get_or gs k d ≡ g = ap (λ (m : ℕ). get_or gs m d) e ∙ get_or_from_slice_get gs i g d (sym at) in
    fails o (subst (λ (x : Gap). FitsGap w x o) same fits))
    (cases_lt k i)

pub counts_short : (gs : List Gap) (n i : ℕ) → i ≤ length gs → ((k : ℕ) (d : Gap) → k < i → (get_or gs k d).length < n) → count_by (is_long n) (take i gs) ≡ 0
counts_short gs n zero le short = refl
counts_short gs n (suc i) le short =
    let d : Gap = record { length = 0; start = 0; chunk_id = 0; before = Free; after = Free } in
    let here = short i d (omega arith) in
    let off : is_long n (get_or gs i d) ≡ false = grind (arith, nat_tests) in
    let e = count_by_more_no (is_long n) gs i d (omega arith) off in
    let r = counts_short gs n i (omega arith) (λ k g lt. short k g (omega arith)) in
    subst (λ (m : ℕ). count_by (is_long n) (take m gs) ≡ 0) (add-one i) (e ∙ r)

-- ---- the one gap that may be left

module _ (gs : List Gap) (w : Wanted) (p : ℕ) (within : p ≤ length gs) (few : length gs ≤ p + 1) (past : (k o : ℕ) (d : Gap) → k < p → FitsGap w (get_or gs k d) o → ⊥)
    (long : (k : ℕ) (d : Gap) → p ≤ k → k < length gs → w.size ≤ (get_or gs k d).length) where
  at_end : (k : ℕ) → p ≤ k → k < length gs → k ≡ p
  at_end k le lt = omega arith

  -- it is among those that are long enough
  pub counts_rest : count_by (is_long w.size) gs ≡ count_by (is_long w.size) (take p gs) + (length gs - p)
  counts_rest = ⊎_elim
      (λ (lt : p < length gs).
      let d : Gap = record { length = 0; start = 0; chunk_id = 0; before = Free; after = Free } in
      let le = long p d (omega arith) lt in
      let long_one : is_long w.size (get_or gs p d) ≡ true = grind (arith, nat_tests) in
      let more = count_by_more_yes (is_long w.size) gs p d lt long_one in
      let all = ap (count_by (is_long w.size)) (take_all (p + 1) gs few) in
      omega arith)
      (λ (ge : length gs ≤ p).
      let all = ap (count_by (is_long w.size)) (take_all p gs ge) in
      omega arith)
      (cases_lt p (length gs))

  pub none_of_all : NoneFitsAt gs w p → NoGapFits gs w
  none_of_all none k o d lt fits = ⊎_elim
      (λ (l : k < p). past k o d l fits)
      (λ (ge : p ≤ k).
      let e = at_end k ge lt in
      none o d (omega arith) (subst (λ j. FitsGap w (get_or gs j d) o) e fits))
      (cases_lt k p)

  pub first_of_all : (f : Found) → IsFoundAt gs w p f → IsFirstFit gs w f p
  first_of_all f at = record { within = at.within; is = at.is; fits = at.fits; earlier = past }

  -- what a search has found, and how many gaps it has tested
  pub ends : (result : Option Found) (before mid after : ℕ) → mid ≡ before + count_by (is_long w.size) (take p gs) → after ≡ mid + (length gs - p) → MatchOption result (NoneFitsAt gs w p) (IsFoundAt gs w p)
      → MatchOption result (NoGapFits gs w × (after ≡ before + count_by (is_long w.size) gs))
      (λ f. (place : ℕ) × IsFirstFit gs w f place × (after ≡ before + count_by (is_long w.size) (take (place + 1) gs)))
  ends None before mid after first rest found = (none_of_all found, (let all = counts_rest in omega arith))
  ends (Some f) before mid after first rest found =
      let here = found.within in
      let all = counts_rest in
      let whole = ap (count_by (is_long w.size)) (take_all (p + 1) gs few) in
      (p, first_of_all f found, omega arith)
