-- A gap that is alone in its class, and gets a length and start of a class that has no gap.
use Rattle.std.proofs.Common.{◌≡◌, ◌≢◌, ℕ, zero, suc, ◌+◌, ◌-◌, ◌*◌, ◌^◌, ◌<◌, ◌≤◌, IsTrue, ◌↔◌, nat_lt, nat_eq, List, ◌∷◌, length, get_or, set, map, Option, Some, None, false, true, ◌⊎◌, inl, inr, refl, sym, ap, subst, ◌∙◌, arith}
use Rattle.std.specs.List.{AllPairs, insert, remove, slice_get}
use Rattle.std.proofs.lemmas.Bool.{cases_eq, cases_lt, lt-ltb}
use Rattle.std.proofs.lemmas.Bool.Decides.{nat_tests}
use Rattle.std.proofs.lemmas.Option.{same_Some}
use Rattle.std.proofs.lemmas.List.{get_or-set_same, get_or-set_other, get_or_default, get_or_past, get_or-map, length-map, length-set}
use Rattle.std.proofs.lemmas.List.Edits.{length-remove, get_or-remove_below, get_or-remove_above}
use Rattle.gpu_block_gaps.specs.declared.class.Scale.{Scale}
use Rattle.gpu_block_gaps.specs.declared.tree.Node.{Node}
use Rattle.gpu_block_gaps.specs.declared.tree.Node.TheVariants.{Leaf}
use Rattle.gpu_block_gaps.specs.declared.tree.Fork.{Fork}
use Rattle.gpu_block_gaps.specs.declared.forest.Forest.{Forest}
use Rattle.gpu_block_gaps.specs.declared.index.Gap.{Gap}
use Rattle.gpu_block_gaps.specs.ClassSet.{ChangesOne}
use Rattle.gpu_block_gaps.specs.Tree.{Tree, tip, Lays}
use Rattle.gpu_block_gaps.specs.Forest.{class_in, tree_at, AreTrees, IsForest, KeepsRoom}
use Rattle.gpu_block_gaps.specs.Order.{IsIn, HasIn, AreInOrder, IsPlaceIn}
use Rattle.gpu_block_gaps.specs.Index.{Before, HasKeyAt, IsReplaced}
use Rattle.gpu_block_gaps.specs.Thread.{Threaded, gap_in, blank}
use Rattle.gpu_block_gaps.specs.Ordered.{code, key_in, gaps_of, IsShort, AreIndexed, IsIndexed, IsLonger, IsShorter}
use Rattle.gpu_block_gaps.proofs.Forests.{root_there, root_within}
use Rattle.gpu_block_gaps.proofs.Planting.{first_planted}
use Rattle.gpu_block_gaps.proofs.Uprooting.{last_gone}
use Rattle.gpu_block_gaps.proofs.Positions.{in_removed}
use Rattle.gpu_block_gaps.proofs.Ordered.{trees_rekeyed, class_kept, gains_first, order_gains, order_loses}
use Rattle.gpu_block_gaps.proofs.Indexing.{code_fits, kept, class_inside, at_within, slot_key}
use Rattle.gpu_block_gaps.proofs.Rekeyed.{put_back, others, replaced}

-- ---- the leaf in its new class

module _ (key new : ℕ → ℕ) (scale : Scale) (forks : List Fork) (spare : List ℕ) (room : ℕ) (roots : List (Option Node)) (classes : List ℕ) (trees : List (Option Tree))
    (are : AreTrees key scale forks spare room roots classes trees) (from to leaf : ℕ) (alone : tree_at trees from ≡ Some (tip leaf)) (empty : tree_at trees to ≡ None) where
  -- a leaf of another class is another one
  other_leaf : (c l : ℕ) → HasIn (set trees from None) c l → l ≢ leaf
  other_leaf c l has same = by_class (cases_eq c from)
    where
      by_class : (c ≡ from) ⊎ (c ≢ from) → ⊥
      by_class (inl e) =
          let within : from < length trees = (let a = root_there key scale forks spare room roots classes trees are from (tip leaf) alone in let b = root_within roots from a.0 a.1 in let d = are.rooted in omega arith) in
          let none : tree_at (set trees from None) c ≡ None = ap (tree_at (set trees from None)) e ∙ get_or-set_same trees from None None within in
          let is = has.is in
          cc
      by_class (inr apart) =
          let was : HasIn trees c l = record { tree = has.tree; is = sym (get_or-set_other trees from c None None apart) ∙ has.is; has = has.has } in
          let here : HasIn trees from leaf = record { tree = tip leaf; is = alone; has = refl } in
          let kept = class_kept key scale forks spare room roots classes trees are in
          apart (sym (kept c l was) ∙ ap (λ m. class_in scale (key m)) same ∙ kept from leaf here)

  apart : to ≢ from
  apart e = let a = ap (tree_at trees) e in cc

  pub leaf_moved : (root : Option Node) (classes1 classes2 : List ℕ) (n : ℕ) → root ≡ get_or roots from root → to ≡ class_in scale n → to ≤ scale.last → ((l : ℕ) → l ≢ leaf → new l ≡ key l) → new leaf ≡ n
      → ChangesOne classes classes1 from false → ChangesOne classes1 classes2 to true
      → AreTrees new scale forks spare room (set (set roots from None) to root) classes2 (set (set trees from None) to (Some (tip leaf)))
  leaf_moved root classes1 classes2 n read is last same leaf_new cleared told =
      let there = root_there key scale forks spare room roots classes trees are from (tip leaf) alone in
      let within = root_within roots from there.0 there.1 in
      let tree : there.2.tree ≡ tip leaf = same_Some _ _ (sym there.2.is ∙ alone) in
      let node : there.0 ≡ Leaf leaf = subst (λ (u : Tree). Lays (slice_get forks) 128 there.0 u) tree there.2.laid in
      let led : Some (Leaf leaf) ≡ root = sym (read ∙ get_or_default roots from root None within ∙ there.1 ∙ ap (λ (m : Node). Some m) node) in
      let gone = last_gone key scale forks spare room roots classes trees are classes1 from leaf alone within cleared in
      let rekeyed = trees_rekeyed key new scale forks spare room (set roots from None) classes1 (set trees from None) (λ c l has. same l (other_leaf c l has)) gone in
      let wide = are.wide (omega arith) in
      let planted = first_planted new scale forks spare room (set roots from None) classes1 (set trees from None) rekeyed classes2 to leaf n is
      (let a = length-set roots from None in omega arith) leaf_new (get_or-set_other trees from to None None apart ∙ empty) told in
      subst (λ (r : Option Node). AreTrees new scale forks spare room (set (set roots from None) to r) classes2 (set (set trees from None) to (Some (tip leaf)))) led planted

-- ---- the gaps beside it

pub before_in : (order : List ℕ) (place prev : ℕ) → place < length order → prev ≡ get_or (0 ∷ order) place 0 → prev ≢ 0 → IsIn prev order
before_in order zero prev within is other = absurd (other is)
before_in order (suc k) prev within is other = (k, omega arith, sym is)

pub none_before : (order : List ℕ) (place prev : ℕ) → ((l : ℕ) → IsIn l order → 0 < l) → place < length order → prev ≡ get_or (0 ∷ order) place 0 → prev ≡ 0 → (k : ℕ) → k + 1 ≡ place → ⊥
none_before order zero prev inside within is none k next = absurd (omega arith)
none_before order (suc j) prev inside within is none k next = let some = inside (get_or order j 0) (j, omega arith, refl) in absurd (omega arith)

pub one_before : (order : List ℕ) (place prev k : ℕ) → prev ≡ get_or (0 ∷ order) place 0 → k + 1 ≡ place → prev ≡ get_or order k 0
one_before order place prev k is next = is ∙ ap (λ j. get_or (0 ∷ order) j 0) (let e : place ≡ suc k = omega arith in e)

pub behind_within : (order : List ℕ) (place next : ℕ) → next ≡ get_or order (suc place) 0 → next ≢ 0 → suc place < length order
behind_within order place next is other = by_order (cases_lt (suc place) (length order))
  where
    by_order : (suc place < length order) ⊎ (length order ≤ suc place) → suc place < length order
    by_order (inl lt) = lt
    by_order (inr past) = absurd (other (is ∙ get_or_past order (suc place) 0 past))

pub none_behind : (order : List ℕ) (place next : ℕ) → ((l : ℕ) → IsIn l order → 0 < l) → next ≡ get_or order (suc place) 0 → next ≡ 0 → place + 1 < length order → ⊥
none_behind order place next inside is none lt = let some = inside (get_or order (suc place) 0) (suc place, omega arith, refl) in absurd (omega arith)

pub less_tested : (m n : ℕ) → IsTrue (nat_lt m n) ↔ (m < n)
less_tested m n = ((λ is. grind (arith, nat_tests)), lt-ltb m n)

pub none_tested : (m : ℕ) → m ≡ 0 → IsTrue (nat_eq m 0)
none_tested m is = subst (λ k. IsTrue (nat_eq k 0)) (sym is) refl

-- ---- lengths in order

no_longer : (a b : Gap) → Before a b → a.length ≤ b.length
no_longer a b (inl less) = omega arith
no_longer a b (inr same) = let e = same.0 in omega arith

module _ (t : Threaded) (sorted : AllPairs Before (gaps_of t)) where
  lengths_rise : (i j : ℕ) → i < j → j < length t.order → (gap_in t.gaps (get_or t.order i 0)).length ≤ (gap_in t.gaps (get_or t.order j 0)).length
  lengths_rise i j lt within =
      let long = length-map t.order (gap_in t.gaps) in
      let a = ap (λ (g : Gap). g.length) (get_or-map (gap_in t.gaps) t.order i 0 blank (omega arith)) in
      let b = ap (λ (g : Gap). g.length) (get_or-map (gap_in t.gaps) t.order j 0 blank within) in
      let le = no_longer (get_or (gaps_of t) i blank) (get_or (gaps_of t) j blank) (sorted i j blank lt (omega arith)) in
      omega arith

  -- a length that is greater than that of the gap at a place is greater than that of the gap before it
  pub longer_here : (place size other : ℕ) → place < length t.order → size ≡ (gap_in t.gaps (get_or t.order place 0)).length → size < other → IsLonger t place other
  longer_here place size other within is more k next = let le = lengths_rise k place (omega arith) within in omega arith

  -- and one that is less is less than that of the gap behind it
  pub shorter_here : (place size other : ℕ) → size ≡ (gap_in t.gaps (get_or t.order place 0)).length → other < size → IsShorter t place other
  shorter_here place size other is less lt = let le = lengths_rise place (place + 1) (omega arith) lt in omega arith

-- ---- the gap in its place

code_below : (a b : Gap) → IsShort a → a.length < b.length → code a < code b
code_below a b short less = let x = short.1 in omega arith

module _ (t : Threaded) (f : Forest) (trees : List (Option Tree)) (are : AreIndexed t f trees) (size start : ℕ) (has : HasKeyAt (gaps_of t) size start) (s : ℕ) (slot : get_or t.order has.at 0 ≡ s)
    (inside : s < length t.gaps) (g : Gap) (short : IsShort g) (alone : tree_at trees (class_in f.scale (size * 2 ^ 64 + start)) ≡ Some (tip s))
    (empty : tree_at trees (class_in f.scale (code g)) ≡ None) (longer : IsLonger t has.at g.length) (shorter : IsShorter t has.at g.length) where
  at : has.at < length t.order
  at = at_within t f trees are size start has

  before : (k : ℕ) → k < has.at → key_in t.gaps (get_or t.order k 0) < code g
  before k lt = by_place (cases_eq k (has.at - 1))
    where
      last : key_in t.gaps (get_or t.order (has.at - 1) 0) < code g
      last =
          code_below (gap_in t.gaps (get_or t.order (has.at - 1) 0)) g (are.short (get_or t.order (has.at - 1) 0) (has.at - 1, (let a = at in omega arith), refl))
          (longer (has.at - 1) (omega arith))

      by_place : (k ≡ has.at - 1) ⊎ (k ≢ has.at - 1) → key_in t.gaps (get_or t.order k 0) < code g
      by_place (inl e) = subst (λ j. key_in t.gaps (get_or t.order j 0) < code g) (sym e) last
      by_place (inr other) = let less = are.ordered.sorted k (has.at - 1) 0 (omega arith) (let a = at in omega arith) in let b = last in omega arith

  behind : (k : ℕ) → has.at < k → k < length t.order → code g < key_in t.gaps (get_or t.order k 0)
  behind k gt lt = by_place (cases_eq k (has.at + 1))
    where
      first : code g < key_in t.gaps (get_or t.order (has.at + 1) 0)
      first = code_below g (gap_in t.gaps (get_or t.order (has.at + 1) 0)) short (shorter (omega arith))

      by_place : (k ≡ has.at + 1) ⊎ (k ≢ has.at + 1) → code g < key_in t.gaps (get_or t.order k 0)
      by_place (inl e) = subst (λ j. code g < key_in t.gaps (get_or t.order j 0)) (sym e) first
      by_place (inr other) = let less = are.ordered.sorted (has.at + 1) k 0 (omega arith) lt in let b = first in omega arith

  place : IsPlaceIn (key_in t.gaps) (remove t.order has.at) (code g) has.at
  place = record {
    within = (let a = at in let b = length-remove t.order has.at at in omega arith);
    below = λ k lt. subst (λ l. key_in t.gaps l < code g) (sym (get_or-remove_below t.order has.at 0 k lt at)) (before k lt);
    from = λ k le lt.
        subst (λ l. code g ≤ key_in t.gaps l) (sym (get_or-remove_above t.order has.at 0 k le at))
        (let less = behind (k + 1) (omega arith) (let b = length-remove t.order has.at at in omega arith) in omega arith);
  }

  fits : code g < 2 ^ 128
  fits = code_fits g.length g.start short.0 short.1

  other_gap : (l : ℕ) → IsIn l (remove t.order has.at) → gap_in (set t.gaps s g) l ≡ gap_in t.gaps l
  other_gap l is = subst (λ m. gap_in (set t.gaps m g) l ≡ gap_in t.gaps l) slot (others t f trees are size start has g (subst (λ m. m < length t.gaps) (sym slot) inside) l is)

  other_key : (l : ℕ) → IsIn l (remove t.order has.at) → key_in t.gaps l ≢ code g
  other_key l is same =
      let old = in_removed t.order has.at at l is in
      let there = (are.ordered.holds l (old.0, old.1, old.2)).is in
      let none = ap (λ n. tree_at trees (class_in f.scale n)) same ∙ empty in
      cc

  now_at : gap_in (set t.gaps s g) s ≡ g
  now_at = get_or-set_same t.gaps s g blank inside

  -- the trees without that of the gap's class
  abbrev pub without : List (Option Tree)
  without = set trees (class_in f.scale (size * 2 ^ 64 + start)) None

  none_there : tree_at without (class_in f.scale (code g)) ≡ None
  none_there =
      get_or-set_other trees (class_in f.scale (size * 2 ^ 64 + start)) (class_in f.scale (code g)) None None (λ e. let a = ap (tree_at trees) e in cc) ∙ empty

  from_inside : class_in f.scale (size * 2 ^ 64 + start) < length trees
  from_inside =
      let there = root_there (key_in t.gaps) f.scale f.forks.items f.spare.items f.spare.capacity f.roots.items f.classes trees are.forest (class_in f.scale (size * 2 ^ 64 + start)) (tip s) alone in
      let a = root_within f.roots.items (class_in f.scale (size * 2 ^ 64 + start)) there.0 there.1 in
      let b = are.forest.rooted in
      omega arith

  to_inside : class_in f.scale (code g) < length without
  to_inside = let a = class_inside t f trees are (code g) fits (omega arith) in let b = length-set trees (class_in f.scale (size * 2 ^ 64 + start)) None in omega arith

  ordered : AreInOrder (key_in (set t.gaps s g)) f.scale (set without (class_in f.scale (code g)) (Some (tip s))) t.order
  ordered =
      let lost = order_loses (key_in t.gaps) f.scale trees t.order are.ordered (kept t f trees are) (size * 2 ^ 64 + start) has.at (tip s) None at (slot_key t f trees are size start has) alone
      (ap tip (sym slot)) from_inside in
      let gained = order_gains (key_in t.gaps) (key_in (set t.gaps s g)) f.scale without (remove t.order has.at) lost (code g) has.at s (tip s) place other_key (λ l is. ap code (other_gap l is))
      (ap code now_at) fits (gains_first without (class_in f.scale (code g)) s none_there) to_inside in
      subst (λ (xs : List ℕ). AreInOrder (key_in (set t.gaps s g)) f.scale (set without (class_in f.scale (code g)) (Some (tip s))) xs)
      (subst (λ l. insert (remove t.order has.at) has.at l ≡ t.order) slot (put_back t.order has.at at)) gained

  pub gap_moved : (t' : Threaded) (f' : Forest) → KeepsRoom f f' → t'.order ≡ t.order → t'.gaps ≡ set t.gaps s g
      → IsForest (key_in (set t.gaps s g)) f' (set without (class_in f.scale (code g)) (Some (tip s))) → IsIndexed t' f' × IsReplaced (gaps_of t) size start g (gaps_of t')
  gap_moved t' f' room order' gaps' forest' = (
    (
      set without (class_in f.scale (code g)) (Some (tip s)),
      subst (λ (xs : List ℕ). AreIndexed (record { order = xs; gaps = t'.gaps; vacant = t'.vacant }) f' (set without (class_in f.scale (code g)) (Some (tip s)))) (sym order')
          (subst (λ (gs : List Gap). AreIndexed (record { order = t.order; gaps = gs; vacant = t'.vacant }) f' (set without (class_in f.scale (code g)) (Some (tip s)))) (sym gaps') new),
    ),
    subst (λ (gs : List Gap). IsReplaced (gaps_of t) size start g gs) (sym (ap (λ (gs : List Gap). map (gap_in gs) t'.order) gaps' ∙ ap (map (gap_in (set t.gaps s g))) order'))
        (subst (λ m. IsReplaced (gaps_of t) size start g (map (gap_in (set t.gaps m g)) t.order)) slot (replaced t f trees are size start has g (subst (λ m. m < length t.gaps) (sym slot) inside))),
  )
    where
      short_now : (l : ℕ) → IsIn l t.order → (l ≡ s) ⊎ (l ≢ s) → IsShort (gap_in (set t.gaps s g) l)
      short_now l is (inl e) = subst (λ (a : Gap). IsShort a) (sym (ap (gap_in (set t.gaps s g)) e ∙ now_at)) short
      short_now l is (inr other) = subst (λ (a : Gap). IsShort a) (sym (get_or-set_other t.gaps s l g blank other)) (are.short l is)

      new : AreIndexed (record { order = t.order; gaps = set t.gaps s g; vacant = t'.vacant }) f' (set without (class_in f.scale (code g)) (Some (tip s)))
      new = record {
        forest = forest';
        ordered = subst (λ d. AreInOrder (key_in (set t.gaps s g)) d (set without (class_in f.scale (code g)) (Some (tip s))) t.order) (sym room.0) ordered;
        slots = (let a = are.slots in let b = room.1 in let e = length-set t.gaps s g in omega arith);
        wide = λ some. subst (λ (d : Scale). d.last < length f'.roots.items) (sym room.0) (let a = are.wide (let e = length-set t.gaps s g in omega arith) in let b = room.2 in omega arith);
        short = λ l is. short_now l is (cases_eq l s);
      }
