-- A gap that is alone in its class, and gets another length and start of that class.
use Rattle.std.proofs.Common.{◌≡◌, ◌≢◌, ℕ, zero, suc, ◌+◌, ◌*◌, ◌^◌, ◌<◌, List, [], ◌∷◌, length, get_or, set, map, Option, Some, ◌⊎◌, inl, inr, refl, sym, ap, subst, ◌∙◌, arith}
use Rattle.std.specs.List.{insert, remove, slice_get}
use Rattle.std.proofs.lemmas.Bool.{cases_eq}
use Rattle.std.proofs.lemmas.Option.{same_Some}
use Rattle.std.proofs.lemmas.List.{get_or-set_same, get_or-set_other, get_or_default, get_or-map, length-set}
use Rattle.std.proofs.lemmas.List.Edits.{length-remove}
use Rattle.gpu_block_gaps.specs.Tree.{Tree, tip, HasLeaf, Lays}
use Rattle.gpu_block_gaps.specs.declared.forest.Forest.{Forest}
use Rattle.gpu_block_gaps.specs.declared.tree.Node.{Node}
use Rattle.gpu_block_gaps.specs.Forest.{IsForest, Roots, class_in, tree_at, root_at}
use Rattle.gpu_block_gaps.specs.Order.{IsIn, HasIn}
use Rattle.gpu_block_gaps.proofs.Forests.{root_there}
use Rattle.gpu_block_gaps.proofs.Finding.{class_falls, less_by_class}
use Rattle.gpu_block_gaps.proofs.Positions.{in_removed, one_place}
use Rattle.gpu_block_gaps.proofs.Ordered.{roots_rekeyed}
use Rattle.gpu_block_gaps.proofs.Indexing.{code_fits, map_insert, map_remove, map_same, kept, at_within, slot_in, slot_key, slot_tree}
use Rattle.gpu_block_gaps.specs.declared.index.Gap.{Gap}
use Rattle.gpu_block_gaps.specs.Index.{HasKeyAt, IsReplaced}
use Rattle.gpu_block_gaps.specs.Thread.{Threaded, gap_in, blank}
use Rattle.gpu_block_gaps.specs.Ordered.{code, key_in, gaps_of, IsShort, AreIndexed, IsIndexed}

module _ (t : Threaded) (f : Forest) (trees : List (Option Tree)) (are : AreIndexed t f trees) (s : ℕ) (at : IsIn s t.order) (inside : s < length t.gaps) (g : Gap) (short : IsShort g)
    (class : class_in f.scale (code g) ≡ class_in f.scale (key_in t.gaps s)) (alone : tree_at trees (class_in f.scale (key_in t.gaps s)) ≡ Some (tip s)) where
  now_at : gap_in (set t.gaps s g) s ≡ g
  now_at = get_or-set_same t.gaps s g blank inside

  stays : (l : ℕ) → l ≢ s → gap_in (set t.gaps s g) l ≡ gap_in t.gaps l
  stays l other = get_or-set_other t.gaps s l g blank other

  -- the class has no other leaf
  only : (l : ℕ) → HasIn trees (class_in f.scale (key_in t.gaps s)) l → l ≡ s
  only l has = subst (λ (u : Tree). HasLeaf l u) (same_Some _ _ (sym has.is ∙ alone)) has.has

  -- and the leaf is of no other class
  here : (c : ℕ) → HasIn trees c s → c ≡ class_in f.scale (key_in t.gaps s)
  here c has = sym (kept t f trees are c s has)

  class_stays : (l : ℕ) → class_in f.scale (key_in (set t.gaps s g) l) ≡ class_in f.scale (key_in t.gaps l)
  class_stays l = by_slot (cases_eq l s)
    where
      by_slot : (l ≡ s) ⊎ (l ≡ s → ⊥) → class_in f.scale (key_in (set t.gaps s g) l) ≡ class_in f.scale (key_in t.gaps l)
      by_slot (inl e) = subst (λ m. class_in f.scale (key_in (set t.gaps s g) m) ≡ class_in f.scale (key_in t.gaps m)) (sym e) (ap (λ (a : Gap). class_in f.scale (code a)) now_at ∙ class)
      by_slot (inr other) = ap (λ (a : Gap). class_in f.scale (code a)) (stays l other)

  forest' : IsForest (key_in (set t.gaps s g)) f trees
  forest' = record {
    few = are.forest.few;
    wide = are.forest.wide;
    rooted = are.forest.rooted;
    told_all = are.forest.told_all;
    lead = λ d. lead d (cases_eq d (class_in f.scale (key_in t.gaps s)));
    told = are.forest.told;
    counted = are.forest.counted;
    fits = are.forest.fits;
    short = are.forest.short;
    distinct = are.forest.distinct;
    vacant = are.forest.vacant;
  }
    where
      lead_here : Roots (key_in (set t.gaps s g)) (slice_get f.forks.items) f.scale (class_in f.scale (key_in t.gaps s)) (root_at f.roots.items (class_in f.scale (key_in t.gaps s))) (tree_at trees (class_in f.scale (key_in t.gaps s)))
      lead_here =
          let there = root_there (key_in t.gaps) f.scale f.forks.items f.spare.items f.spare.capacity f.roots.items f.classes trees are.forest (class_in f.scale (key_in t.gaps s)) (tip s) alone in
          let same : there.2.tree ≡ tip s = same_Some _ _ (sym there.2.is ∙ alone) in
          let laid : Lays (slice_get f.forks.items) 128 there.0 (tip s) = subst (λ (u : Tree). Lays (slice_get f.forks.items) 128 there.0 u) same there.2.laid in
          let planted : Roots (key_in (set t.gaps s g)) (slice_get f.forks.items) f.scale (class_in f.scale (key_in t.gaps s)) (Some there.0) (Some (tip s)) = (laid, tt, λ leaf e. class_stays leaf ∙ ap (λ m. class_in f.scale (key_in t.gaps m)) e) in
          subst (λ (r : Option Node). Roots (key_in (set t.gaps s g)) (slice_get f.forks.items) f.scale (class_in f.scale (key_in t.gaps s)) r (tree_at trees (class_in f.scale (key_in t.gaps s)))) (sym there.1)
          (subst (λ (o : Option Tree). Roots (key_in (set t.gaps s g)) (slice_get f.forks.items) f.scale (class_in f.scale (key_in t.gaps s)) (Some there.0) o) (sym alone) planted)

      lead : (d : ℕ) → (d ≡ class_in f.scale (key_in t.gaps s)) ⊎ (d ≡ class_in f.scale (key_in t.gaps s) → ⊥) → Roots (key_in (set t.gaps s g)) (slice_get f.forks.items) f.scale d (root_at f.roots.items d) (tree_at trees d)
      lead d (inl e) = subst (λ m. Roots (key_in (set t.gaps s g)) (slice_get f.forks.items) f.scale m (root_at f.roots.items m) (tree_at trees m)) (sym e) lead_here
      lead d (inr other) =
          roots_rekeyed (key_in t.gaps) (key_in (set t.gaps s g)) (slice_get f.forks.items) f.scale d (root_at f.roots.items d) (tree_at trees d)
          (λ u is l has. ap code (stays l (λ e. other (here d (subst (λ m. HasIn trees d m) e (record { tree = u; is = is; has = has })))))) (are.forest.lead d)

  fits : code g < 2 ^ 128
  fits = code_fits g.length g.start short.0 short.1

  -- a slot of the order whose key is before or behind that of s is before or behind the new one
  apart : (l : ℕ) → IsIn l t.order → l ≢ s → class_in f.scale (key_in t.gaps l) ≢ class_in f.scale (key_in t.gaps s)
  apart l is other same = other (only l (subst (λ c. HasIn trees c l) same (are.ordered.holds l is)))

  below : (l : ℕ) → IsIn l t.order → l ≢ s → key_in t.gaps l < key_in t.gaps s → key_in t.gaps l < code g
  below l is other less =
      let fits_l = are.ordered.fits l is in
      let fits_s = are.ordered.fits s at in
      let no_more = class_falls f.scale (key_in t.gaps l) (key_in t.gaps s) are.forest.few fits_l fits_s (omega arith) in
      let differ = apart l is other in
      less_by_class f.scale (key_in t.gaps l) (code g) are.forest.few fits_l fits (let e = class in omega arith)

  above : (l : ℕ) → IsIn l t.order → l ≢ s → key_in t.gaps s < key_in t.gaps l → code g < key_in t.gaps l
  above l is other less =
      let fits_l = are.ordered.fits l is in
      let fits_s = are.ordered.fits s at in
      let no_more = class_falls f.scale (key_in t.gaps s) (key_in t.gaps l) are.forest.few fits_s fits_l (omega arith) in
      let differ = apart l is other in
      less_by_class f.scale (code g) (key_in t.gaps l) are.forest.few fits fits_l (let e = class in omega arith)

  -- what a key has become
  became : (l : ℕ) → ((l ≡ s) × (key_in (set t.gaps s g) l ≡ code g)) ⊎ ((l ≢ s) × (key_in (set t.gaps s g) l ≡ key_in t.gaps l))
  became l = by_slot (cases_eq l s)
    where
      by_slot : (l ≡ s) ⊎ (l ≡ s → ⊥) → ((l ≡ s) × (key_in (set t.gaps s g) l ≡ code g)) ⊎ ((l ≢ s) × (key_in (set t.gaps s g) l ≡ key_in t.gaps l))
      by_slot (inl e) = inl (e, ap (λ m. key_in (set t.gaps s g) m) e ∙ ap code now_at)
      by_slot (inr other) = inr (other, ap code (stays l other))

  still_less : (a b : ℕ) → IsIn a t.order → IsIn b t.order → key_in t.gaps a < key_in t.gaps b → key_in (set t.gaps s g) a < key_in (set t.gaps s g) b
  still_less a b in_a in_b less = by_cases (became a) (became b)
    where
      by_cases : ((a ≡ s) × (key_in (set t.gaps s g) a ≡ code g)) ⊎ ((a ≢ s) × (key_in (set t.gaps s g) a ≡ key_in t.gaps a)) → ((b ≡ s) × (key_in (set t.gaps s g) b ≡ code g)) ⊎ ((b ≢ s) × (key_in (set t.gaps s g) b ≡ key_in t.gaps b))
          → key_in (set t.gaps s g) a < key_in (set t.gaps s g) b
      by_cases (inl x) (inl y) = absurd (let e = ap (λ m. key_in t.gaps m) (x.0 ∙ sym y.0) in omega arith)
      by_cases (inl x) (inr y) = let more = above b in_b y.0 (subst (λ m. key_in t.gaps m < key_in t.gaps b) x.0 less) in let e = x.1 in let h = y.1 in omega arith
      by_cases (inr x) (inl y) = let more = below a in_a x.0 (subst (λ m. key_in t.gaps a < key_in t.gaps m) y.0 less) in let e = x.1 in let h = y.1 in omega arith
      by_cases (inr x) (inr y) = let e = x.1 in let h = y.1 in omega arith

  pub rekeyed : (vacant : ℕ) → AreIndexed (record { order = t.order; gaps = set t.gaps s g; vacant = vacant }) f trees
  rekeyed vacant = record {
    forest = forest';
    ordered = record {
      sorted = λ i j d lt within. still_less (get_or t.order i d) (get_or t.order j d) (i, omega arith, get_or_default t.order i 0 d (omega arith)) (j, within, get_or_default t.order j 0 d within) (are.ordered.sorted i j d lt within);
      held = are.ordered.held;
      holds = λ l is. subst (λ c. HasIn trees c l) (sym (class_stays l)) (are.ordered.holds l is);
      counted = are.ordered.counted;
      fits = λ l is. fits_now l is (became l);
    };
    slots = (let a = are.slots in let e = length-set t.gaps s g in omega arith);
    wide = λ some. are.wide (let e = length-set t.gaps s g in omega arith);
    short = λ l is. short_now l is (cases_eq l s);
  }
    where
      fits_now : (l : ℕ) → IsIn l t.order → ((l ≡ s) × (key_in (set t.gaps s g) l ≡ code g)) ⊎ ((l ≢ s) × (key_in (set t.gaps s g) l ≡ key_in t.gaps l)) → key_in (set t.gaps s g) l < 2 ^ 128
      fits_now l is (inl x) = let e = x.1 in let h = fits in omega arith
      fits_now l is (inr x) = let e = x.1 in let h = are.ordered.fits l is in omega arith

      short_now : (l : ℕ) → IsIn l t.order → (l ≡ s) ⊎ (l ≡ s → ⊥) → IsShort (gap_in (set t.gaps s g) l)
      short_now l is (inl e) = subst (λ (a : Gap). IsShort a) (sym (ap (gap_in (set t.gaps s g)) e ∙ now_at)) short
      short_now l is (inr other) = subst (λ (a : Gap). IsShort a) (sym (stays l other)) (are.short l is)

-- a list is what it was once an element of it is put back
pub put_back : (xs : List ℕ) (p : ℕ) → p < length xs → insert (remove xs p) p (get_or xs p 0) ≡ xs
put_back [] p lt = absurd (omega arith)
put_back (x ∷ xs) zero lt = refl
put_back (x ∷ xs) (suc p) lt = ap (λ (ys : List ℕ). x ∷ ys) (put_back xs p (omega arith))

module _ (t : Threaded) (f : Forest) (trees : List (Option Tree)) (are : AreIndexed t f trees) (size start : ℕ) (has : HasKeyAt (gaps_of t) size start) (g : Gap) (inside : get_or t.order has.at 0 < length t.gaps) where
  -- the gaps of the other slots stay
  pub others : (l : ℕ) → IsIn l (remove t.order has.at) → gap_in (set t.gaps (get_or t.order has.at 0) g) l ≡ gap_in t.gaps l
  others l is =
      let within = at_within t f trees are size start has in
      let old = in_removed t.order has.at within l is in
      get_or-set_other t.gaps (get_or t.order has.at 0) l g blank
      (λ e. old.3 (one_place (key_in t.gaps) t.order are.ordered.sorted old.0 has.at old.1 within (ap (λ m. key_in t.gaps m) (old.2 ∙ e))))

  pub replaced : IsReplaced (gaps_of t) size start g (map (gap_in (set t.gaps (get_or t.order has.at 0) g)) t.order)
  replaced = record {
    rest = remove (gaps_of t) has.at;
    gone = record { place = has.at; within = has.at_within; key = has.at_key; is = refl };
    put = record {
      place = has.at;
      within = (let a = has.at_within in let b = length-remove (gaps_of t) has.at has.at_within in omega arith);
      is =
          ap (λ (xs : List ℕ). map (gap_in (set t.gaps (get_or t.order has.at 0) g)) xs) (sym (put_back t.order has.at (at_within t f trees are size start has)))
          ∙ map_insert (gap_in (set t.gaps (get_or t.order has.at 0) g)) (remove t.order has.at) has.at (get_or t.order has.at 0)
          ∙ ap (λ (a : Gap). insert (map (gap_in (set t.gaps (get_or t.order has.at 0) g)) (remove t.order has.at)) has.at a) (get_or-set_same t.gaps (get_or t.order has.at 0) g blank inside)
          ∙ ap (λ (gs : List Gap). insert gs has.at g) (map_same (gap_in t.gaps) (gap_in (set t.gaps (get_or t.order has.at 0) g)) (remove t.order has.at) others ∙ map_remove (gap_in t.gaps) t.order has.at);
    };
  }

module _ (t : Threaded) (f : Forest) (trees : List (Option Tree)) (are : AreIndexed t f trees) (size start : ℕ) (has : HasKeyAt (gaps_of t) size start) (slot : ℕ)
    (alone : tree_at trees (class_in f.scale (size * 2 ^ 64 + start)) ≡ Some (tip slot)) where
  -- the only leaf of the gap's class is the gap's slot
  pub the_slot : get_or t.order has.at 0 ≡ slot
  the_slot =
      let there = slot_tree t f trees are size start has in
      subst (λ (u : Tree). HasLeaf (get_or t.order has.at 0) u) (same_Some _ _ (sym there.is ∙ alone)) there.has

  pub slot_here : IsIn slot t.order
  slot_here = (has.at, at_within t f trees are size start has, the_slot)

  pub slot_length : size ≡ (gap_in t.gaps slot).length
  slot_length =
      sym (ap (λ (a : Gap). a.length) (ap (gap_in t.gaps) (sym the_slot) ∙ sym (get_or-map (gap_in t.gaps) t.order has.at 0 blank (at_within t f trees are size start has))) ∙ (has.at_key blank).0)

  pub exchanged : (g : Gap) → IsShort g → class_in f.scale (code g) ≡ class_in f.scale (size * 2 ^ 64 + start) → ((l : ℕ) → IsIn l t.order → l < length t.gaps)
      → (t' : Threaded) → t'.order ≡ t.order → t'.gaps ≡ set t.gaps slot g → IsIndexed t' f × IsReplaced (gaps_of t) size start g (gaps_of t')
  exchanged g short class inside t' order' gaps' =
      let s = get_or t.order has.at 0 in
      let in_order = slot_in t f trees are size start has in
      let key = slot_key t f trees are size start has in
      let within = inside s in_order in
      let alone' : tree_at trees (class_in f.scale (key_in t.gaps s)) ≡ Some (tip s) = ap (λ n. tree_at trees (class_in f.scale n)) key ∙ alone ∙ ap (λ l. Some (tip l)) (sym the_slot) in
      let gaps'' : t'.gaps ≡ set t.gaps s g = gaps' ∙ ap (λ l. set t.gaps l g) (sym the_slot) in
      let new = rekeyed t f trees are s in_order within g short (class ∙ ap (class_in f.scale) (sym key)) alone' t'.vacant in (
        (trees, subst (λ (xs : List ℕ). AreIndexed (record { order = xs; gaps = t'.gaps; vacant = t'.vacant }) f trees) (sym order') (subst (λ (gs : List Gap). AreIndexed (record { order = t.order; gaps = gs; vacant = t'.vacant }) f trees) (sym gaps'') new)),
        subst (λ (gs : List Gap). IsReplaced (gaps_of t) size start g gs)
            (sym (ap (λ (gs : List Gap). map (gap_in gs) t'.order) gaps'' ∙ ap (map (gap_in (set t.gaps s g))) order')) (replaced t f trees are size start has g within),
      )
