-- What forks and leaves a tree has, and how its keys differ along its branches.
use Rattle.std.proofs.Common.{◌≡◌, ◌≢◌, ℕ, ◌+◌, ◌*◌, ◌/◌, ◌%◌, ◌^◌, ◌⊎◌, inl, inr, Bool, true, false, cond, refl, sym, ap, subst, ◌∙◌, arith}
use Rattle.std.proofs.lemmas.Bool.Decides.{eqb_tells}
use Rattle.std.proofs.lemmas.Option.{same_Some}
use Rattle.gpu_block_gaps.specs.declared.tree.Node.{Node}
use Rattle.gpu_block_gaps.specs.declared.tree.Node.TheVariants.{Leaf, Branch}
use Rattle.gpu_block_gaps.specs.declared.tree.Fork.{Fork}
use Rattle.gpu_block_gaps.specs.Key.{bit_of}
use Rattle.gpu_block_gaps.specs.Tree.{Tree, tip, fork, Slots, Lays, HasLeaf, HasFork, Agree, Sorted, first_leaf, near}

-- a bit that is set or not
pub bit_cases : (n bit : ℕ) → ((bit_of n bit ≡ true) × (n / 2 ^ bit % 2 ≡ 1)) ⊎ ((bit_of n bit ≡ false) × (n / 2 ^ bit % 2 ≡ 0))
bit_cases n bit = by_test (eqb_tells (n / 2 ^ bit % 2) 1)
  where
    by_test : ((bit_of n bit ≡ true) × (n / 2 ^ bit % 2 ≡ 1)) ⊎ ((bit_of n bit ≡ false) × (n / 2 ^ bit % 2 ≢ 1)) → ((bit_of n bit ≡ true) × (n / 2 ^ bit % 2 ≡ 1)) ⊎ ((bit_of n bit ≡ false) × (n / 2 ^ bit % 2 ≡ 0))
    by_test (inl set) = inl set
    by_test (inr unset) = inr (unset.0, (let not_one = unset.1 in omega arith))

pub first_has : (t : Tree) → HasLeaf (first_leaf t) t
first_has (tip leaf) = refl
first_has (fork slot bit x y) = inl (first_has x)

pub near_has : (n : ℕ) (t : Tree) → HasLeaf (near n t) t
near_has n (tip leaf) = refl
near_has n (fork slot bit x y) = by_bit (bit_of n bit) (near_has n x) (near_has n y)
  where
    by_bit : (b : Bool) → HasLeaf (near n x) x → HasLeaf (near n y) y → HasLeaf (cond b (near n y) (near n x)) x ⊎ HasLeaf (cond b (near n y) (near n x)) y
    by_bit true left right = inr right
    by_bit false left right = inl left

pub agree_at : (key : ℕ → ℕ) (bit q : ℕ) (t : Tree) (leaf : ℕ) → Agree key bit q t → HasLeaf leaf t → key leaf / 2 ^ bit ≡ q
agree_at key bit q (tip other) leaf agree has = let same : leaf ≡ other = has in ap (λ l. key l / 2 ^ bit) same ∙ agree
agree_at key bit q (fork slot b x y) leaf agree (inl has) = agree_at key bit q x leaf agree.0 has
agree_at key bit q (fork slot b x y) leaf agree (inr has) = agree_at key bit q y leaf agree.1 has

pub agree_all : (key : ℕ → ℕ) (bit q : ℕ) (t : Tree) → ((leaf : ℕ) → HasLeaf leaf t → key leaf / 2 ^ bit ≡ q) → Agree key bit q t
agree_all key bit q (tip leaf) each = each leaf refl
agree_all key bit q (fork slot b x y) each = (agree_all key bit q x (λ leaf has. each leaf (inl has)), agree_all key bit q y (λ leaf has. each leaf (inr has)))

abbrev pub fork_of : Node → Node → ℕ → Fork
fork_of zero one bit = record { zero = zero; one = one; bit = bit }

-- one node has one tree
pub lays_one : (slots : Slots) (a b : ℕ) (node : Node) (t u : Tree) → Lays slots a node t → Lays slots b node u → t ≡ u
lays_one slots a b node (tip l) (tip m) p q = let x : node ≡ Leaf l = p in let y : node ≡ Leaf m = q in let same : l ≡ m = cc in ap tip same
lays_one slots a b node (tip l) (fork k c x y) p q = absurd (let p' : node ≡ Leaf l = p in let q' = q.0 in cc)
lays_one slots a b node (fork k c x y) (tip m) p q = absurd (let q' : node ≡ Leaf m = q in let p' = p.0 in cc)
lays_one slots a b node (fork k c x y) (fork j d v w) p q =
    let p0 = p.0 in
    let q0 = q.0 in
    let slot : k ≡ j = cc in
    let read = p.4 in
    let same : fork_of p.2 p.3 c ≡ fork_of q.2 q.3 d = same_Some _ _ (sym p.4 ∙ ap slots slot ∙ q.4) in
    let bits : c ≡ d = ap (λ (f : Fork). f.bit) same in
    let left : x ≡ v = lays_one slots c d q.2 x v (subst (λ (n : Node). Lays slots c n x) (ap (λ (f : Fork). f.zero) same) p.5) q.5 in
    let right : y ≡ w = lays_one slots c d q.3 y w (subst (λ (n : Node). Lays slots c n y) (ap (λ (f : Fork). f.one) same) p.6) q.6 in
    cc

-- the tree at a fork of a tree
pub record Below (slots : Slots) (at : ℕ) (t : Tree) : Type 0 where
  pub tree : Tree
  pub top : ℕ
  pub laid : Lays slots top (Branch at) tree
  pub inside : (leaf : ℕ) → HasLeaf leaf tree → HasLeaf leaf t

pub below : (slots : Slots) (top : ℕ) (node : Node) (t : Tree) (at : ℕ) → Lays slots top node t → HasFork at t → Below slots at t
below slots top node (tip leaf) at laid has = absurd has
below slots top node (fork slot bit x y) at laid (inl same) = record {
  tree = fork slot bit x y;
  top = top;
  laid = (ap (λ k. Branch k) same, laid.1, laid.2, laid.3, laid.4, laid.5, laid.6);
  inside = λ leaf has. has;
}
below slots top node (fork slot bit x y) at laid (inr (inl has)) =
    let part = below slots bit laid.2 x at laid.5 has in
    record { tree = part.tree; top = part.top; laid = part.laid; inside = λ leaf h. inl (part.inside leaf h) }
below slots top node (fork slot bit x y) at laid (inr (inr has)) =
    let part = below slots bit laid.3 y at laid.6 has in
    record { tree = part.tree; top = part.top; laid = part.laid; inside = λ leaf h. inr (part.inside leaf h) }

-- two trees that have one fork have a leaf in common
pub common_leaf : (slots : Slots) (a b : ℕ) (m n : Node) (t u : Tree) (at : ℕ) → Lays slots a m t → Lays slots b n u → HasFork at t → HasFork at u
    → (leaf : ℕ) × HasLeaf leaf t × HasLeaf leaf u
common_leaf slots a b m n t u at laid_t laid_u in_t in_u =
    let v = below slots a m t at laid_t in_t in
    let w = below slots b n u at laid_u in_u in
    let same = lays_one slots v.top w.top (Branch at) v.tree w.tree v.laid w.laid in
    (first_leaf v.tree, v.inside _ (first_has v.tree), w.inside _ (subst (λ (z : Tree). HasLeaf (first_leaf v.tree) z) same (first_has v.tree)))

-- the branches of a fork have no fork in common
pub apart : (key : ℕ → ℕ) (slots : Slots) (bit q : ℕ) (m n : Node) (x y : Tree) (at : ℕ) → Lays slots bit m x → Lays slots bit n y → Agree key bit (2 * q) x → Agree key bit (2 * q + 1) y
    → HasFork at x → HasFork at y → ⊥
apart key slots bit q m n x y at laid_x laid_y zero one in_x in_y =
    let leaf = common_leaf slots bit bit m n x y at laid_x laid_y in_x in_y in
    let even = agree_at key bit (2 * q) x leaf.0 zero leaf.1 in
    let odd = agree_at key bit (2 * q + 1) y leaf.0 one leaf.2 in
    absurd (omega arith)

-- a fork is not below itself
pub own_left : (key : ℕ → ℕ) (slots : Slots) (top : ℕ) (node : Node) (slot bit : ℕ) (x y : Tree) → Lays slots top node (fork slot bit x y) → Sorted key (fork slot bit x y) → HasFork slot x → ⊥
own_left key slots top node slot bit x y laid sorted has =
    let part = below slots bit laid.2 x slot laid.5 has in
    let whole : Lays slots top (Branch slot) (fork slot bit x y) = (refl, laid.1, laid.2, laid.3, laid.4, laid.5, laid.6) in
    let same = lays_one slots top part.top (Branch slot) (fork slot bit x y) part.tree whole part.laid in
    let inside : HasLeaf (first_leaf y) part.tree = subst (HasLeaf (first_leaf y)) same (inr (first_has y)) in
    let even = agree_at key bit (2 * sorted.0) x (first_leaf y) sorted.1 (part.inside _ inside) in
    let odd = agree_at key bit (2 * sorted.0 + 1) y (first_leaf y) sorted.2 (first_has y) in
    absurd (omega arith)

pub own_right : (key : ℕ → ℕ) (slots : Slots) (top : ℕ) (node : Node) (slot bit : ℕ) (x y : Tree) → Lays slots top node (fork slot bit x y) → Sorted key (fork slot bit x y) → HasFork slot y → ⊥
own_right key slots top node slot bit x y laid sorted has =
    let part = below slots bit laid.3 y slot laid.6 has in
    let whole : Lays slots top (Branch slot) (fork slot bit x y) = (refl, laid.1, laid.2, laid.3, laid.4, laid.5, laid.6) in
    let same = lays_one slots top part.top (Branch slot) (fork slot bit x y) part.tree whole part.laid in
    let inside : HasLeaf (first_leaf x) part.tree = subst (HasLeaf (first_leaf x)) same (inl (first_has x)) in
    let odd = agree_at key bit (2 * sorted.0 + 1) y (first_leaf x) sorted.2 (part.inside _ inside) in
    let even = agree_at key bit (2 * sorted.0) x (first_leaf x) sorted.1 (first_has x) in
    absurd (omega arith)

-- a change of other slots keeps a tree
pub lays_kept : (old new : Slots) (top : ℕ) (node : Node) (t : Tree) → ((k : ℕ) → HasFork k t → new k ≡ old k) → Lays old top node t → Lays new top node t
lays_kept old new top node (tip leaf) same laid = laid
lays_kept old new top node (fork slot bit x y) same laid = (
  laid.0,
  laid.1,
  laid.2,
  laid.3,
  same slot (inl refl) ∙ laid.4,
  lays_kept old new bit laid.2 x (λ k has. same k (inr (inl has))) laid.5,
  lays_kept old new bit laid.3 y (λ k has. same k (inr (inr has))) laid.6,
)
