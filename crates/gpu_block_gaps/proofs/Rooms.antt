-- More room for the trees of the classes.
use Rattle.std.proofs.Common.{◌≡◌, ◌≢◌, ℕ, ◌+◌, ◌*◌, ◌^◌, ◌<◌, ◌≤◌, List, [], ◌∷◌, ◌++◌, length, get_or, replicate, Option, Some, None, is_some, refl, sym, ap, subst, ◌∙◌, arith, inl, inr, ◌⊎◌}
use Rattle.std.specs.List.{slice_get, sum_by}
use Rattle.std.proofs.lemmas.Bool.{cases_lt}
use Rattle.std.proofs.lemmas.Option.{same_Some, slice_get-get_or}
use Rattle.std.proofs.lemmas.List.{length-append, get_or_append_left, get_or_past, get_or-replicate, length-replicate}
use Rattle.std.proofs.lemmas.List.Folds.{sum_by-replicate}
use Rattle.std.proofs.lemmas.List.Quantifiers.{all_pairs_push}
use Rattle.std.proofs.lemmas.List.Elements.{All-push, All-weaker, All-get_or}
use Rattle.gpu_block_gaps.specs.declared.class.Scale.{Scale}
use Rattle.gpu_block_gaps.specs.declared.tree.Node.{Node}
use Rattle.gpu_block_gaps.specs.declared.tree.Fork.{Fork}
use Rattle.gpu_block_gaps.specs.ClassSet.{is_in, NoneFrom}
use Rattle.gpu_block_gaps.specs.Tree.{Tree, Slots, Lays, HasFork}
use Rattle.gpu_block_gaps.specs.Forest.{tree_at, root_at, Roots, AreTrees, IsVacant, KeepsTrees, used, leaf_count}
use Rattle.gpu_block_gaps.proofs.Forests.{roots_kept, root_there}
use Rattle.gpu_block_gaps.proofs.Uprooting.{fork_within}

-- the slots that there were have what they had
kept_slot : (forks : List Fork) (f : Fork) (k : ℕ) → k < length forks → slice_get (forks ++ f ∷ []) k ≡ slice_get forks k
kept_slot forks f k within =
    slice_get-get_or (forks ++ f ∷ []) k f (let longer = length-append forks (f ∷ []) in omega arith)
    ∙ ap (λ (x : Fork). Some x) (get_or_append_left forks (f ∷ []) f k within) ∙ sym (slice_get-get_or forks k f within)

pub fork_added : (key : ℕ → ℕ) (scale : Scale) (forks : List Fork) (spare : List ℕ) (room : ℕ) (roots : List (Option Node)) (classes : List ℕ) (trees : List (Option Tree)) (f : Fork)
    → AreTrees key scale forks spare room roots classes trees → length forks < room → length forks < 2 ^ 31 → AreTrees key scale (forks ++ f ∷ []) (spare ++ length forks ∷ []) room roots classes trees
fork_added key scale forks spare room roots classes trees f are fits few = record {
  few = are.few;
  wide = are.wide;
  rooted = are.rooted;
  told_all = are.told_all;
  lead = λ c. roots_kept key (slice_get forks) (slice_get (forks ++ f ∷ [])) scale c (root_at roots c) (tree_at trees c) (λ t is k has. kept_slot forks f k (inside c t is k has)) (are.lead c);
  told = are.told;
  counted = (let a = length-append forks (f ∷ []) in let b = length-append spare (length forks ∷ []) in let e = are.counted in omega arith);
  fits = (let a = length-append forks (f ∷ []) in omega arith);
  short = (let a = length-append forks (f ∷ []) in omega arith);
  distinct = all_pairs_push (λ a b. a ≢ b) spare (length forks) are.distinct
      (λ i d within same. let old = (All-get_or (IsVacant forks trees) spare i d within are.vacant).0 in omega arith);
  vacant = All-push (IsVacant (forks ++ f ∷ []) trees) spare (length forks)
      (All-weaker (IsVacant forks trees) (IsVacant (forks ++ f ∷ []) trees) (λ k old. ((let a = old.0 in let b = length-append forks (f ∷ []) in omega arith), old.1)) spare are.vacant)
      ((let b = length-append forks (f ∷ []) in omega arith), λ c t is has. absurd (let old = inside c t is (length forks) has in omega arith));
}
  where
    inside : (c : ℕ) (t : Tree) → tree_at trees c ≡ Some t → (k : ℕ) → HasFork k t → k < length forks
    inside c t is k has =
        let there = root_there key scale forks spare room roots classes trees are c t is in
        fork_within forks 128 there.0 t k (subst (Lays (slice_get forks) 128 there.0) (same_Some _ _ (sym there.2.is ∙ is)) there.2.laid) has

pub room_more : (key : ℕ → ℕ) (scale : Scale) (forks : List Fork) (spare : List ℕ) (room room' : ℕ) (roots : List (Option Node)) (classes : List ℕ) (trees : List (Option Tree))
    → AreTrees key scale forks spare room roots classes trees → room ≤ room' → AreTrees key scale forks spare room' roots classes trees
room_more key scale forks spare room room' roots classes trees are more = record {
  few = are.few;
  wide = are.wide;
  rooted = are.rooted;
  told_all = are.told_all;
  lead = are.lead;
  told = are.told;
  counted = are.counted;
  fits = (let a = are.fits in omega arith);
  short = are.short;
  distinct = are.distinct;
  vacant = are.vacant;
}

-- a place beyond the list, or one of nothing but `None`
none_at : {A : Type 0} (n c : ℕ) → ◌≡◌ {A = Option A} (get_or (replicate n None) c None) None
none_at {A} n c = by_order (cases_lt c n)
  where
    by_order : (c < n) ⊎ (n ≤ c) → ◌≡◌ {A = Option A} (get_or (replicate n None) c None) None
    by_order (inl lt) = get_or-replicate n c None None lt
    by_order (inr le) = get_or_past (replicate n None) c None (let a = length-replicate {A = Option A} n None in omega arith)

none_rooted : (key : ℕ → ℕ) (slots : Slots) (scale : Scale) (c : ℕ) (r : Option Node) (o : Option Tree) → r ≡ None → o ≡ None → Roots key slots scale c r o
none_rooted key slots scale c None None is_r is_o = tt
none_rooted key slots scale c None (Some t) is_r is_o = absurd (cc)
none_rooted key slots scale c (Some m) o is_r is_o = absurd (cc)

-- a place for each class, where there was none
pub widened : (key : ℕ → ℕ) (scale : Scale) (forks : List Fork) (spare : List ℕ) (room : ℕ) (roots : List (Option Node)) (classes : List ℕ) (trees : List (Option Tree)) (classes' : List ℕ) (n : ℕ)
    → AreTrees key scale forks spare room roots classes trees → length roots ≡ 0 → n ≡ scale.last + 1 → n ≤ length classes' * 64 → NoneFrom (is_in classes') 0
    → AreTrees key scale forks spare room (replicate n None) classes' (replicate n None) × KeepsTrees trees (replicate n None)
widened key scale forks spare room roots classes trees classes' n are empty count enough none = (
  record {
    few = are.few;
    wide = λ some. (let a = length-replicate {A = Option Node} n None in omega arith);
    rooted = length-replicate {A = Option Tree} n None ∙ sym (length-replicate {A = Option Node} n None);
    told_all = (let a = length-replicate {A = Option Node} n None in omega arith);
    lead = λ c. none_rooted key (slice_get forks) scale c _ _ (none_at n c) (none_at n c);
    told = λ c. none c (omega arith) ∙ sym (ap (λ (r : Option Node). is_some r) (none_at n c));
    counted = (let a = are.counted in let b = sum_by-replicate used n None in let e = ap (sum_by used) gone in omega arith);
    fits = are.fits;
    short = are.short;
    distinct = are.distinct;
    vacant = All-weaker (IsVacant forks trees) (IsVacant forks (replicate n None)) (λ k old. (old.0, λ c t is has. absurd (let no = none_at {A = Tree} n c in cc))) spare are.vacant;
  },
  (
    λ c. none_at n c ∙ sym (get_or_past trees c None (let a = are.rooted in omega arith)),
    (let b = sum_by-replicate leaf_count n None in let e = ap (sum_by leaf_count) gone in omega arith),
  ),
)
  where
    gone : trees ≡ []
    gone = by_list trees (are.rooted ∙ empty)
      where
        by_list : (ts : List (Option Tree)) → length ts ≡ 0 → ts ≡ []
        by_list [] is = refl
        by_list (t ∷ ts) is = absurd (omega arith)

-- the same slots, in other memory
pub reserved : (key : ℕ → ℕ) (scale : Scale) (forks forks' : List Fork) (spare spare' : List ℕ) (room room' : ℕ) (roots : List (Option Node)) (classes : List ℕ) (trees : List (Option Tree))
    → forks' ≡ forks → spare' ≡ spare → room ≤ room' → AreTrees key scale forks spare room roots classes trees → AreTrees key scale forks' spare' room' roots classes trees
reserved key scale forks forks' spare spare' room room' roots classes trees same_forks same_spare more are =
    subst (λ (fs : List Fork). AreTrees key scale fs spare' room' roots classes trees) (sym same_forks)
    (subst (λ (ss : List ℕ). AreTrees key scale forks ss room' roots classes trees) (sym same_spare) (room_more key scale forks spare room room' roots classes trees are more))
