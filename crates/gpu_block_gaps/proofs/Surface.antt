-- What is seen of an index.
use Rattle.std.proofs.Common.{◌≡◌, ◌≢◌, ℕ, zero, suc, ◌+◌, ◌*◌, ◌^◌, ◌<◌, ◌≤◌, ◌==◌, min, List, [], ◌∷◌, length, get_or, Option, Some, None, true, false, ◌⊎◌, inl, inr, refl, sym, ap, subst, ◌∙◌, arith}
use Rattle.std.specs.List.{AllPairs, slice_get}
use Rattle.std.proofs.lemmas.Bool.{cases_lt}
use Rattle.std.proofs.lemmas.Bool.Decides.{nat_tests}
use Rattle.std.proofs.lemmas.Option.{slice_get-get_or, slice_get_past}
use Rattle.std.proofs.lemmas.List.{length-map, get_or-map, get_or_past}
use Rattle.std.proofs.lemmas.List.Sums.{position_or_len_is}
use Rattle.gpu_block_gaps.specs.Tree.{Tree}
use Rattle.gpu_block_gaps.specs.declared.forest.Forest.{Forest}
use Rattle.gpu_block_gaps.specs.Forest.{IsForest, IsWide, KeepsTrees, class_in}
use Rattle.gpu_block_gaps.specs.Order.{IsIn, AreInOrder, IsPlaceIn}
use Rattle.gpu_block_gaps.proofs.Ordered.{trees_rekeyed, order_kept}
use Rattle.gpu_block_gaps.specs.declared.index.Gap.{Gap}
use Rattle.gpu_block_gaps.specs.declared.order.Nearby.{Nearby}
use Rattle.gpu_block_gaps.specs.declared.order.Nearby.TheVariants.{Nothing, Same, Apart}
use Rattle.gpu_block_gaps.specs.Index.{Before, HasLength}
use Rattle.gpu_block_gaps.specs.Scan.{place_in}
use Rattle.gpu_block_gaps.specs.Thread.{Threaded, gap_in, blank}
use Rattle.gpu_block_gaps.specs.Ordered.{code, key_in, gaps_of, IsShort, AreIndexed, IsIndexed, IsNearby, keys_beside}
use Rattle.gpu_block_gaps.proofs.Indexing.{near_in}

other_slot : (a b : ℕ) → a ≢ b → (a == b) ≡ false
other_slot a b other = grind (arith, nat_tests)

before_by_code : (a b : Gap) → IsShort a → IsShort b → code a < code b → Before a b
before_by_code a b short_a short_b less = by_length (cases_lt a.length b.length)
  where
    by_length : (a.length < b.length) ⊎ (b.length ≤ a.length) → Before a b
    by_length (inl lt) = inl lt
    by_length (inr ge) = let x = short_a.1 in let y = short_b.1 in inr (omega arith, omega arith)

-- an index without gaps
pub none_indexed : (t : Threaded) (f : Forest) → t.order ≡ [] → t.gaps ≡ [] → IsForest (key_in []) f [] → IsIndexed t f
none_indexed t f order gaps forest = (
  [],
  subst (λ (xs : List ℕ). AreIndexed (record { order = xs; gaps = t.gaps; vacant = t.vacant }) f []) (sym order) (subst (λ (gs : List Gap). AreIndexed (record { order = []; gaps = gs; vacant = t.vacant }) f []) (sym gaps) base),
)
  where
    base : AreIndexed (record { order = []; gaps = []; vacant = t.vacant }) f []
    base = record {
      forest = forest;
      ordered = record {
        sorted = λ i j d lt within. absurd (omega arith);
        held = λ c l has. absurd (let is = has.is in let none = get_or_past {X = Option Tree} [] c None (omega arith) in cc);
        holds = λ l is. absurd (let a = is.1 in omega arith);
        counted = refl;
        fits = λ l is. absurd (let a = is.1 in omega arith);
      };
      slots = omega arith;
      wide = λ some. absurd (omega arith);
      short = λ l is. absurd (let a = is.1 in omega arith);
    }

module _ (t : Threaded) (f : Forest) (trees : List (Option Tree)) (are : AreIndexed t f trees) where
  pub gap_at : (k : ℕ) (d : Gap) → k < length t.order → get_or (gaps_of t) k d ≡ gap_in t.gaps (get_or t.order k 0)
  gap_at k d lt = get_or-map (gap_in t.gaps) t.order k 0 d lt

  pub gaps_sorted : AllPairs Before (gaps_of t)
  gaps_sorted i j d lt within =
      let long = length-map t.order (gap_in t.gaps) in
      let in_j : j < length t.order = omega arith in
      let in_i : i < length t.order = omega arith in
      subst (λ (a : Gap). Before a (get_or (gaps_of t) j d)) (sym (gap_at i d in_i))
      (subst (λ (b : Gap). Before (gap_in t.gaps (get_or t.order i 0)) b) (sym (gap_at j d in_j))
      (before_by_code (gap_in t.gaps (get_or t.order i 0)) (gap_in t.gaps (get_or t.order j 0)) (are.short (get_or t.order i 0) (i, in_i, refl)) (are.short (get_or t.order j 0) (j, in_j, refl))
      (are.ordered.sorted i j 0 lt in_j)))

  -- more room for forks
  pub forest_reserved : (f' : Forest) (same : List (Option Tree)) → IsForest (key_in t.gaps) f' same → KeepsTrees trees same → (IsWide f → IsWide f') → length f.forks.items ≤ length f'.forks.items → f'.scale ≡ f.scale
      → AreIndexed t f' same
  forest_reserved f' same forest keeps wide more scaled = record {
    forest = forest;
    ordered = subst (λ d. AreInOrder (key_in t.gaps) d same t.order) (sym scaled) (order_kept (key_in t.gaps) (key_in t.gaps) f.scale trees same t.order keeps (λ l is. refl) are.ordered);
    slots = (let a = are.slots in omega arith);
    wide = λ some. wide (are.wide some);
    short = are.short;
  }

  -- more room for gaps
  pub thread_reserved : (t' : Threaded) → t'.order ≡ t.order → ((k : ℕ) → gap_in t'.gaps k ≡ gap_in t.gaps k) → length t'.gaps ≤ length f.forks.items + 1 → IsWide f → AreIndexed t' f trees
  thread_reserved t' order gaps few wide =
      subst (λ (xs : List ℕ). AreIndexed (record { order = xs; gaps = t'.gaps; vacant = t'.vacant }) f trees) (sym order) (record {
        forest = trees_rekeyed (key_in t.gaps) (key_in t'.gaps) f.scale f.forks.items f.spare.items f.spare.capacity f.roots.items f.classes trees (λ c l has. ap code (gaps l)) are.forest;
        ordered = order_kept (key_in t.gaps) (key_in t'.gaps) f.scale trees trees t.order ((λ c. refl), refl) (λ l is. ap code (gaps l)) are.ordered;
        slots = few;
        wide = λ some. wide;
        short = λ l is. subst (λ (a : Gap). IsShort a) (sym (gaps l)) (are.short l is);
      })

  -- ---- a search

  module _ (size p : ℕ) (place : IsPlaceIn (key_in t.gaps) t.order (size * 2 ^ 64 + 0) p) where
    pub shorter_below : (k : ℕ) (d : Gap) → k < p → (get_or (gaps_of t) k d).length < size
    shorter_below k d lt =
        let within = place.within in
        let below = place.below k lt in
        let e : (get_or (gaps_of t) k d).length ≡ (gap_in t.gaps (get_or t.order k 0)).length = ap (λ (a : Gap). a.length) (gap_at k d (omega arith)) in
        omega arith

    pub longer_from : (k : ℕ) (d : Gap) → p ≤ k → k < length (gaps_of t) → size ≤ (get_or (gaps_of t) k d).length
    longer_from k d le lt =
        let long = length-map t.order (gap_in t.gaps) in
        let within : k < length t.order = omega arith in
        let from = place.from k le within in
        let short = are.short (get_or t.order k 0) (k, within, refl) in
        let below = short.1 in
        let e : (get_or (gaps_of t) k d).length ≡ (gap_in t.gaps (get_or t.order k 0)).length = ap (λ (a : Gap). a.length) (gap_at k d within) in
        omega arith

  -- the key that is compared is a gap's
  pub few_keys : (n : ℕ) (near_by : Nearby) → IsNearby (key_in t.gaps) f.scale trees n near_by → keys_beside near_by ≤ min 1 (length (gaps_of t))
  few_keys n Nothing at = omega arith
  few_keys n (Same slot) at = (let is = near_in t f trees are n (class_in f.scale n) at.0 at.1 in let a = is.1 in let b = length-map t.order (gap_in t.gaps) in omega arith)
  few_keys n (Apart bit slot) at = (let is = near_in t f trees are n (class_in f.scale n) at.0 at.1 in let a = is.1 in let b = length-map t.order (gap_in t.gaps) in omega arith)

  -- ---- the longest gap, in the last slot

  module _ (last : ℕ) (at : last ≡ get_or (0 ∷ t.order) (length t.order) 0) where
    pub no_gap : ((slot : ℕ) → IsIn slot t.order → 0 < slot) → last ≡ 0 → length (gaps_of t) ≡ 0
    no_gap above none = by_length (length t.order) refl
      where
        by_length : (n : ℕ) → length t.order ≡ n → length (gaps_of t) ≡ 0
        by_length zero e = length-map t.order (gap_in t.gaps) ∙ e
        by_length (suc n) e = absurd (
            let is : get_or t.order n 0 ≡ 0 = sym (at ∙ ap (λ k. get_or (0 ∷ t.order) k 0) e) ∙ none in
            let some = above 0 (n, omega arith, is) in
            omega arith)

    pub last_in : last ≢ 0 → (n : ℕ) × (length t.order ≡ n + 1) × (get_or t.order n 0 ≡ last)
    last_in some = by_length (length t.order) refl
      where
        by_length : (n : ℕ) → length t.order ≡ n → (n : ℕ) × (length t.order ≡ n + 1) × (get_or t.order n 0 ≡ last)
        by_length zero e = absurd (some (at ∙ ap (λ k. get_or (0 ∷ t.order) k 0) e))
        by_length (suc n) e = (n, omega arith, sym (at ∙ ap (λ k. get_or (0 ∷ t.order) k 0) e))

    pub longest_bound : last ≢ 0 → (k : ℕ) (d : Gap) → k < length (gaps_of t) → (get_or (gaps_of t) k d).length ≤ (gap_in t.gaps last).length
    longest_bound some k d lt = by_order (cases_lt k n)
      where
        n : ℕ
        n = (last_in some).0

        long : length (gaps_of t) ≡ n + 1
        long = length-map t.order (gap_in t.gaps) ∙ (last_in some).1

        here : get_or (gaps_of t) n d ≡ gap_in t.gaps last
        here = gap_at n d (let a = (last_in some).1 in omega arith) ∙ ap (gap_in t.gaps) (last_in some).2

        shorter : (a b : Gap) → Before a b → a.length ≤ b.length
        shorter a b (inl less) = omega arith
        shorter a b (inr same) = let e = same.0 in omega arith

        by_order : (k < n) ⊎ (n ≤ k) → (get_or (gaps_of t) k d).length ≤ (gap_in t.gaps last).length
        by_order (inl before) = subst (λ (a : Gap). (get_or (gaps_of t) k d).length ≤ a.length) here (shorter (get_or (gaps_of t) k d) (get_or (gaps_of t) n d) (gaps_sorted k n d before (omega (arith, long))))
        by_order (inr past) = let e : k ≡ n = omega (arith, long) in let same : (get_or (gaps_of t) k d).length ≡ (gap_in t.gaps last).length = ap (λ (a : Gap). a.length) (ap (λ j. get_or (gaps_of t) j d) e ∙ here) in omega arith

    pub longest_there : last ≢ 0 → HasLength (gaps_of t) (gap_in t.gaps last).length
    longest_there some =
        let at_last = last_in some in
        let long = length-map t.order (gap_in t.gaps) in
        let a = at_last.1 in
        record {
          at = at_last.0;
          within = omega arith;
          is = λ d. ap (λ (b : Gap). b.length) (gap_at at_last.0 d (omega arith) ∙ ap (gap_in t.gaps) at_last.2);
        }

-- ---- a scan

same_slot : (a b : ℕ) → a ≡ b → (a == b) ≡ true
same_slot a b same = grind (arith, nat_tests)

pub place_is : (order : List ℕ) (slot k : ℕ) → AllPairs (λ a b. a ≢ b) order → ((s : ℕ) → IsIn s order → 0 < s) → k ≤ length order → slot ≡ get_or order k 0 → place_in slot order ≡ k
place_is order slot k distinct above le at =
    position_or_len_is (λ x. x == slot) order k 0 le (λ j lt. other_slot (get_or order j 0) slot (before j lt (cases_lt k (length order)))) (λ lt. same_slot (get_or order k 0) slot (sym at))
  where
    before : (j : ℕ) → j < k → (k < length order) ⊎ (length order ≤ k) → get_or order j 0 ≢ slot
    before j lt (inl within) same = distinct j k 0 lt within (same ∙ at)
    before j lt (inr past) same = let some = above (get_or order j 0) (j, omega arith, refl) in let none = get_or_past order k 0 past in omega arith

pub gap_got : (t : Threaded) (k : ℕ) → k < length t.order → slice_get (gaps_of t) k ≡ Some (gap_in t.gaps (get_or t.order k 0))
gap_got t k lt =
    slice_get-get_or (gaps_of t) k blank (let a = length-map t.order (gap_in t.gaps) in omega arith) ∙ ap (λ (g : Gap). Some g) (get_or-map (gap_in t.gaps) t.order k 0 blank lt)

pub none_got : (t : Threaded) (k : ℕ) → length t.order ≤ k → slice_get (gaps_of t) k ≡ None
none_got t k past = slice_get_past (gaps_of t) k (let a = length-map t.order (gap_in t.gaps) in omega arith)

pub slot_within : (order : List ℕ) (slot k : ℕ) → slot ≡ get_or order k 0 → slot ≢ 0 → k < length order
slot_within order slot k at some = by_order (cases_lt k (length order))
  where
    by_order : (k < length order) ⊎ (length order ≤ k) → k < length order
    by_order (inl lt) = lt
    by_order (inr past) = absurd (some (at ∙ get_or_past order k 0 past))

pub slot_past : (order : List ℕ) (slot k : ℕ) → ((s : ℕ) → IsIn s order → 0 < s) → slot ≡ get_or order k 0 → slot ≡ 0 → length order ≤ k
slot_past order slot k above at none = by_order (cases_lt k (length order))
  where
    by_order : (k < length order) ⊎ (length order ≤ k) → length order ≤ k
    by_order (inr past) = past
    by_order (inl lt) = absurd (let some = above (get_or order k 0) (k, lt, refl) in omega arith)
