-- Gaps in order, in a thread and in trees.
use Rattle.std.proofs.Common.{◌≡◌, ◌≢◌, ℕ, suc, ◌+◌, ◌*◌, ◌/◌, ◌^◌, ◌<◌, List, [], ◌∷◌, ◌++◌, length, get_or, set, map, take, drop, Option, Some, None, ◌⊎◌, inl, inr, refl, sym, ap, subst, ◌∙◌, arith}
use Rattle.std.specs.List.{insert, remove}
use Rattle.std.proofs.lemmas.Option.{same_Some}
use Rattle.std.proofs.lemmas.List.{map-append, take-map, drop-map, length-map, length-set, get_or-map, get_or-set_same, get_or-set_other}
use Rattle.gpu_block_gaps.specs.declared.class.Scale.{Scale}
use Rattle.gpu_block_gaps.specs.Class.{class_number}
use Rattle.gpu_block_gaps.specs.Tree.{Tree, HasLeaf, Sorted, IsBefore, IsAfter, leaves_of, near}
use Rattle.gpu_block_gaps.specs.declared.forest.Forest.{Forest}
use Rattle.gpu_block_gaps.specs.Forest.{IsForest, KeepsRoom, class_in, tree_at, IsFirstLater, LosesLeaf}
use Rattle.gpu_block_gaps.specs.Order.{IsIn, HasIn, AreInOrder, IsPlaceIn, IsFirstUp, Gains}
use Rattle.std.proofs.Math.Nat.{min-le_right}
use Rattle.gpu_block_gaps.proofs.Shapes.{near_has}
use Rattle.gpu_block_gaps.proofs.Pruning.{near_finds}
use Rattle.gpu_block_gaps.proofs.Positions.{in_insert_cases, in_removed, first_up_at, none_up_at, last_down_at}
use Rattle.gpu_block_gaps.proofs.Finding.{up_here, down_here, same_here, up_later, none_later}
use Rattle.gpu_block_gaps.proofs.Ordered.{trees_rekeyed, class_kept, tree_sorted, spare_slot, order_gains, order_loses}
use Rattle.gpu_block_gaps.specs.declared.index.Gap.{Gap}
use Rattle.gpu_block_gaps.specs.declared.order.Nearby.{Nearby}
use Rattle.gpu_block_gaps.specs.declared.order.Nearby.TheVariants.{Nothing, Same, Apart}
use Rattle.gpu_block_gaps.specs.Index.{HasKey, HasNoKey, HasKeyAt, IsInserted, IsRemoved}
use Rattle.gpu_block_gaps.specs.Thread.{Threaded, gap_in, blank}
use Rattle.gpu_block_gaps.specs.Ordered.{code, key_in, gaps_of, IsShort, AreIndexed, IsIndexed, IsNearby}

-- ---- numbers for lengths and starts

pub code_fits : (l s : ℕ) → l < 2 ^ 64 → s < 2 ^ 64 → l * 2 ^ 64 + s < 2 ^ 128
code_fits l s below_l below_s = omega arith

pub code_one : (a : Gap) (l s : ℕ) → IsShort a → l < 2 ^ 64 → s < 2 ^ 64 → code a ≡ l * 2 ^ 64 + s → HasKey a l s
code_one a l s short below_l below_s same = (let x = short.0 in let y = short.1 in (omega arith, omega arith))

-- ---- maps

pub map_insert : {X Y : Type 0} (f : X → Y) (xs : List X) (p : ℕ) (x : X) → map f (insert xs p x) ≡ insert (map f xs) p (f x)
map_insert {X} {Y} f xs p x =
    map-append f (take p xs) (x ∷ drop p xs) ∙ ap (λ (ys : List Y). ys ++ f x ∷ map f (drop p xs)) (sym (take-map f p xs)) ∙ ap (λ (ys : List Y). take p (map f xs) ++ f x ∷ ys) (sym (drop-map f p xs))

pub map_remove : {X Y : Type 0} (f : X → Y) (xs : List X) (p : ℕ) → map f (remove xs p) ≡ remove (map f xs) p
map_remove {X} {Y} f xs p =
    map-append f (take p xs) (drop (suc p) xs) ∙ ap (λ (ys : List Y). ys ++ map f (drop (suc p) xs)) (sym (take-map f p xs)) ∙ ap (λ (ys : List Y). take p (map f xs) ++ ys) (sym (drop-map f (suc p) xs))

pub map_same : {Y : Type 0} (f g : ℕ → Y) (xs : List ℕ) → ((l : ℕ) → IsIn l xs → g l ≡ f l) → map g xs ≡ map f xs
map_same {Y} f g [] same = refl
map_same {Y} f g (x ∷ xs) same =
    ap (λ (y : Y). y ∷ map g xs) (same x (0, omega arith, refl)) ∙ ap (λ (ys : List Y). f x ∷ ys) (map_same f g xs (λ l is. same l (suc is.0, (let a = is.1 in omega arith), is.2)))

module _ (t : Threaded) (f : Forest) (trees : List (Option Tree)) (are : AreIndexed t f trees) where
  key : ℕ → ℕ
  key = key_in t.gaps

  pub kept : (c l : ℕ) → HasIn trees c l → class_in f.scale (key_in t.gaps l) ≡ c
  kept = class_kept (key_in t.gaps) f.scale f.forks.items f.spare.items f.spare.capacity f.roots.items f.classes trees are.forest

  pub sorted_in : (c : ℕ) (u : Tree) → tree_at trees c ≡ Some u → Sorted (key_in t.gaps) u
  sorted_in = tree_sorted (key_in t.gaps) f.scale f.forks.items f.spare.items f.spare.capacity f.roots.items f.classes trees are.forest

  -- the leaf to which a number's bits lead is one of the order
  pub near_in : (n c : ℕ) (u : Tree) → tree_at trees c ≡ Some u → IsIn (near n u) t.order
  near_in n c u is = are.ordered.held c (near n u) (record { tree = u; is = is; has = near_has n u })

  pub class_inside : (n : ℕ) → n < 2 ^ 128 → 0 < length t.gaps → class_in f.scale n < length trees
  class_inside n fits some =
      let a = min-le_right (class_number f.scale.digits (n / 2 ^ 64)) f.scale.last in
      let b = are.wide some in
      let e = are.forest.rooted in
      omega arith

  pub spare_left : length t.order + 1 < length t.gaps → 0 < length f.spare.items
  spare_left room =
      spare_slot (key_in t.gaps) f.scale f.forks.items f.spare.items f.spare.capacity f.roots.items f.classes trees are.forest t.order are.ordered
      (let a = are.slots in omega arith)

  -- ---- the slot of the first gap from a number on

  module _ (n : ℕ) (fits : n < 2 ^ 128) (place : ℕ) (is_place : IsPlaceIn (key_in t.gaps) t.order n place) where
    first_is : (slot : ℕ) → IsFirstUp (key_in t.gaps) t.order n slot → slot ≡ get_or t.order place 0
    first_is slot first = sym (first_up_at (key_in t.gaps) t.order are.ordered.sorted n place is_place slot first).1

    pub next_later : (slot : ℕ) → tree_at trees (class_in f.scale n) ≡ None → IsFirstLater trees (class_in f.scale n) slot → slot ≡ get_or t.order place 0
    next_later slot none later = first_is slot (up_later (key_in t.gaps) f.scale trees t.order are.forest.few are.ordered n fits kept sorted_in slot none later)

    pub next_none : tree_at trees (class_in f.scale n) ≡ None → ((c : ℕ) → class_in f.scale n < c → tree_at trees c ≡ None) → 0 ≡ get_or t.order place 0
    next_none none behind =
        sym (none_up_at (key_in t.gaps) t.order are.ordered.sorted n place is_place (none_later (key_in t.gaps) f.scale trees t.order are.forest.few are.ordered n fits kept sorted_in none behind)).1

    pub next_same : (u : Tree) (slot : ℕ) → tree_at trees (class_in f.scale n) ≡ Some u → slot ≡ near n u → key_in t.gaps slot ≡ n → slot ≡ get_or t.order place 0
    next_same u slot is at same =
        first_is slot (same_here (key_in t.gaps) f.scale trees t.order are.forest.few are.ordered n fits kept sorted_in u slot is (subst (λ l. HasLeaf l u) (sym at) (near_has n u)) same)

    pub next_before : (u : Tree) (slot : ℕ) → tree_at trees (class_in f.scale n) ≡ Some u → IsBefore (key_in t.gaps) n (leaves_of u) slot → slot ≡ get_or t.order place 0
    next_before u slot is before = first_is slot (up_here (key_in t.gaps) f.scale trees t.order are.forest.few are.ordered n fits kept sorted_in u slot is before)

    pub next_after : (u : Tree) (slot : ℕ) → tree_at trees (class_in f.scale n) ≡ Some u → IsAfter (key_in t.gaps) n (leaves_of u) slot → slot ≡ get_or (0 ∷ t.order) place 0
    next_after u slot is after =
        let last = down_here (key_in t.gaps) f.scale trees t.order are.forest.few are.ordered n fits kept sorted_in u slot is after in
        let p = last_down_at (key_in t.gaps) t.order are.ordered.sorted n place is_place slot last in
        let e : place ≡ suc last.here.0 = omega arith in
        sym last.here.2 ∙ ap (λ j. get_or (0 ∷ t.order) j 0) (sym e)

  -- ---- a gap more

  module _ (g : Gap) (short : IsShort g) (fresh : HasNoKey (gaps_of t) g.length g.start) where
    -- no slot of the order has the gap's key
    pub other_key : (l : ℕ) → IsIn l t.order → key_in t.gaps l ≢ code g
    other_key l is same =
        fresh is.0 blank (let a = is.1 in let b = length-map t.order (gap_in t.gaps) in omega arith) (
        subst (λ (a : Gap). HasKey a g.length g.start) (sym (get_or-map (gap_in t.gaps) t.order is.0 0 blank is.1 ∙ ap (gap_in t.gaps) is.2))
        (code_one (gap_in t.gaps l) g.length g.start (are.short l is) short.0 short.1 same))

    pub not_same : (slot : ℕ) → IsNearby (key_in t.gaps) f.scale trees (code g) (Same slot) → ⊥
    not_same slot at = other_key slot (subst (λ l. IsIn l t.order) (sym at.2) (near_in (code g) (class_in f.scale (code g)) at.0 at.1)) at.3

    module _ (s : ℕ) (inside : s < length t.gaps) (apart : IsIn s t.order → ⊥) where
      -- the other gaps stay where they are
      pub stays : (l : ℕ) → IsIn l t.order → gap_in (set t.gaps s g) l ≡ gap_in t.gaps l
      stays l is = get_or-set_other t.gaps s l g blank (λ e. apart (subst (λ m. IsIn m t.order) e is))

      pub stays_key : (l : ℕ) → IsIn l t.order → key_in (set t.gaps s g) l ≡ key_in t.gaps l
      stays_key l is = ap code (stays l is)

      pub put_gap : gap_in (set t.gaps s g) s ≡ g
      put_gap = get_or-set_same t.gaps s g blank inside

      pub forest_rekeyed : IsForest (key_in (set t.gaps s g)) f trees
      forest_rekeyed =
          trees_rekeyed (key_in t.gaps) (key_in (set t.gaps s g)) f.scale f.forks.items f.spare.items f.spare.capacity f.roots.items f.classes trees
          (λ c l has. stays_key l (are.ordered.held c l has)) are.forest

      pub nearby_rekeyed : (n : ℕ) (near_by : Nearby) → IsNearby (key_in t.gaps) f.scale trees n near_by → IsNearby (key_in (set t.gaps s g)) f.scale trees n near_by
      nearby_rekeyed n Nothing at = at
      nearby_rekeyed n (Same slot) at = (at.0, at.1, at.2, stays_key slot (subst (λ l. IsIn l t.order) (sym at.2) (near_in n (class_in f.scale n) at.0 at.1)) ∙ at.3)
      nearby_rekeyed n (Apart bit slot) at =
          let e = stays_key (near n at.0) (near_in n (class_in f.scale n) at.0 at.1) in (
            at.0,
            at.1,
            record {
              sorted = tree_sorted (key_in (set t.gaps s g)) f.scale f.forks.items f.spare.items f.spare.capacity f.roots.items f.classes trees forest_rekeyed (class_in f.scale n) at.0 at.1;
              above = at.2.above ∙ sym (ap (λ m. m / 2 ^ (bit + 1)) e);
              differs = λ same. at.2.differs (same ∙ ap (λ m. m / 2 ^ bit) e);
            },
            at.3,
            at.4,
          )

      module _ (t' : Threaded) (f' : Forest) (new : Tree) (p : ℕ) (place : IsPlaceIn (key_in t.gaps) t.order (code g) p) (room : KeepsRoom f f')
          (order' : t'.order ≡ insert t.order p s) (gaps' : t'.gaps ≡ set t.gaps s g)
          (forest' : IsForest (key_in (set t.gaps s g)) f' (set trees (class_in f.scale (code g)) (Some new))) (gains : Gains trees (class_in f.scale (code g)) s new) where
        fits_all : code g < 2 ^ 128
        fits_all = code_fits g.length g.start short.0 short.1

        made : AreIndexed (record { order = insert t.order p s; gaps = set t.gaps s g; vacant = t'.vacant }) f' (set trees (class_in f.scale (code g)) (Some new))
        made = record {
          forest = forest';
          ordered = subst (λ d. AreInOrder (key_in (set t.gaps s g)) d (set trees (class_in f.scale (code g)) (Some new)) (insert t.order p s)) (sym room.0)
              (order_gains (key_in t.gaps) (key_in (set t.gaps s g)) f.scale trees t.order are.ordered (code g) p s new place other_key stays_key (ap code put_gap) fits_all gains (class_inside (code g) fits_all (omega arith)));
          slots = (let a = are.slots in let b = room.1 in let e = length-set t.gaps s g in omega arith);
          wide = λ some. subst (λ (d : Scale). d.last < length f'.roots.items) (sym room.0) (let a = are.wide (omega arith) in let b = room.2 in omega arith);
          short = λ l is. by_cases l (in_insert_cases t.order p s place.within l is);
        }
          where
            by_cases : (l : ℕ) → IsIn l t.order ⊎ (l ≡ s) → IsShort (gap_in (set t.gaps s g) l)
            by_cases l (inl is) = subst (λ (a : Gap). IsShort a) (sym (stays l is)) (are.short l is)
            by_cases l (inr e) = subst (λ (a : Gap). IsShort a) (sym (ap (gap_in (set t.gaps s g)) e ∙ put_gap)) short

        pub put_indexed : IsIndexed t' f'
        put_indexed = (
          set trees (class_in f.scale (code g)) (Some new),
          subst (λ (xs : List ℕ). AreIndexed (record { order = xs; gaps = t'.gaps; vacant = t'.vacant }) f' (set trees (class_in f.scale (code g)) (Some new))) (sym order')
              (subst (λ (gs : List Gap). AreIndexed (record { order = insert t.order p s; gaps = gs; vacant = t'.vacant }) f' (set trees (class_in f.scale (code g)) (Some new))) (sym gaps') made),
        )

        pub put_inserted : IsInserted (gaps_of t) g (gaps_of t')
        put_inserted = record {
          place = p;
          within = (let a = place.within in let b = length-map t.order (gap_in t.gaps) in omega arith);
          is =
              ap (λ (gs : List Gap). map (gap_in gs) t'.order) gaps' ∙ ap (map (gap_in (set t.gaps s g))) order' ∙ map_insert (gap_in (set t.gaps s g)) t.order p s
              ∙ ap (λ (a : Gap). insert (map (gap_in (set t.gaps s g)) t.order) p a) put_gap
              ∙ ap (λ (gs : List Gap). insert gs p g) (map_same (gap_in t.gaps) (gap_in (set t.gaps s g)) t.order stays);
        }

  -- ---- a gap less

  module _ (size start : ℕ) (has : HasKeyAt (gaps_of t) size start) where
    pub at_within : has.at < length t.order
    at_within = let a = has.at_within in let b = length-map t.order (gap_in t.gaps) in omega arith

    pub slot_in : IsIn (get_or t.order has.at 0) t.order
    slot_in = (has.at, at_within, refl)

    pub slot_key : key_in t.gaps (get_or t.order has.at 0) ≡ size * 2 ^ 64 + start
    slot_key =
        let h = has.at_key blank in
        let e = get_or-map (gap_in t.gaps) t.order has.at 0 blank at_within in
        let same : HasKey (gap_in t.gaps (get_or t.order has.at 0)) size start = subst (λ (a : Gap). HasKey a size start) e h in
        let x = same.0 in
        let y = same.1 in
        omega arith

    pub slot_tree : HasIn trees (class_in f.scale (size * 2 ^ 64 + start)) (get_or t.order has.at 0)
    slot_tree = subst (λ m. HasIn trees (class_in f.scale m) (get_or t.order has.at 0)) slot_key (are.ordered.holds (get_or t.order has.at 0) slot_in)

    -- the number's bits lead to the slot
    pub slot_near : (u : Tree) → tree_at trees (class_in f.scale (size * 2 ^ 64 + start)) ≡ Some u → near (size * 2 ^ 64 + start) u ≡ get_or t.order has.at 0
    slot_near u is =
        let in_u : HasLeaf (get_or t.order has.at 0) u = subst (λ (v : Tree). HasLeaf (get_or t.order has.at 0) v) (same_Some _ _ (sym slot_tree.is ∙ is)) slot_tree.has in
        ap (λ m. near m u) (sym slot_key) ∙ near_finds (key_in t.gaps) u (get_or t.order has.at 0) (sorted_in (class_in f.scale (size * 2 ^ 64 + start)) u is) in_u

    module _ (t' : Threaded) (f' : Forest) (u : Tree) (rest : Option Tree) (is : tree_at trees (class_in f.scale (size * 2 ^ 64 + start)) ≡ Some u) (room : KeepsRoom f f')
        (order' : t'.order ≡ remove t.order has.at) (gaps' : t'.gaps ≡ t.gaps) (fits_size : size < 2 ^ 64) (fits_start : start < 2 ^ 64) (some : 0 < length t.gaps)
        (forest' : IsForest (key_in t.gaps) f' (set trees (class_in f.scale (size * 2 ^ 64 + start)) rest)) (loses : LosesLeaf (near (size * 2 ^ 64 + start) u) u rest) where
      left : AreIndexed (record { order = remove t.order has.at; gaps = t.gaps; vacant = t'.vacant }) f' (set trees (class_in f.scale (size * 2 ^ 64 + start)) rest)
      left = record {
        forest = forest';
        ordered = subst (λ d. AreInOrder (key_in t.gaps) d (set trees (class_in f.scale (size * 2 ^ 64 + start)) rest) (remove t.order has.at)) (sym room.0)
            (order_loses (key_in t.gaps) f.scale trees t.order are.ordered kept (size * 2 ^ 64 + start) has.at u rest at_within slot_key is
            (subst (λ m. LosesLeaf m u rest) (slot_near u is) loses) (class_inside (size * 2 ^ 64 + start) (code_fits size start fits_size fits_start) some));
        slots = (let a = are.slots in let b = room.1 in omega arith);
        wide = λ any. subst (λ (d : Scale). d.last < length f'.roots.items) (sym room.0) (let a = are.wide any in let b = room.2 in omega arith);
        short = λ l in_l. (let old = in_removed t.order has.at at_within l in_l in are.short l (old.0, old.1, old.2));
      }

      pub take_indexed : IsIndexed t' f'
      take_indexed = (
        set trees (class_in f.scale (size * 2 ^ 64 + start)) rest,
        subst (λ (xs : List ℕ). AreIndexed (record { order = xs; gaps = t'.gaps; vacant = t'.vacant }) f' (set trees (class_in f.scale (size * 2 ^ 64 + start)) rest)) (sym order')
            (subst (λ (gs : List Gap). AreIndexed (record { order = remove t.order has.at; gaps = gs; vacant = t'.vacant }) f' (set trees (class_in f.scale (size * 2 ^ 64 + start)) rest)) (sym gaps') left),
      )

      pub take_removed : IsRemoved (gaps_of t) size start (gaps_of t')
      take_removed = record {
        place = has.at;
        within = has.at_within;
        key = has.at_key;
        is = ap (λ (gs : List Gap). map (gap_in gs) t'.order) gaps' ∙ ap (map (gap_in t.gaps)) order' ∙ map_remove (gap_in t.gaps) t.order has.at;
      }
