-- Trees in slots.
use Rattle.std.proofs.Common.{◌≡◌, ℕ, ◌+◌, ◌<◌, ◌≤◌, Option, Some, None, Bool, true, false, cond, refl, sym, ap, subst, ◌∙◌, arith}
use Rattle.std.proofs.lemmas.Option.{same_Some}
use Rattle.gpu_block_gaps.specs.declared.tree.Node.{Node}
use Rattle.gpu_block_gaps.specs.declared.tree.Node.TheVariants.{Leaf, Branch}
use Rattle.gpu_block_gaps.specs.declared.tree.Fork.{Fork}
use Rattle.gpu_block_gaps.specs.Tree.{Tree, tip, fork, Slots, Lays, near}

-- the bit of the fork in a slot, plus one
abbrev pub fork_rank : Option Fork → ℕ
fork_rank None = 0
fork_rank (Some f) = f.bit + 1

-- a bound on the forks below a node
abbrev pub rank : Slots → Node → ℕ
rank slots (Leaf leaf) = 0
rank slots (Branch slot) = fork_rank (slots slot)

pub rank_within : (slots : Slots) (top : ℕ) (node : Node) (t : Tree) → Lays slots top node t → rank slots node ≤ top
rank_within slots top node (tip leaf) laid = subst (λ (n : Node). rank slots n ≤ top) (sym laid) (omega arith)
rank_within slots top node (fork slot bit x y) laid =
    subst (λ (n : Node). rank slots n ≤ top) (sym laid.0) (subst (λ (o : Option Fork). fork_rank o ≤ top) (sym laid.4) (let below = laid.1 in omega arith))

pub lays_under : (slots : Slots) (low top : ℕ) (node : Node) (t : Tree) → Lays slots low node t → low ≤ top → Lays slots top node t
lays_under slots low top node (tip leaf) laid le = laid
lays_under slots low top node (fork slot bit x y) laid le =
    (laid.0, (let below = laid.1 in omega arith), laid.2, laid.3, laid.4, laid.5, laid.6)

-- what stands at a node that leads to a fork
pub record ForkAt (slots : Slots) (top slot : ℕ) (t : Tree) : Type 0 where
  pub bit : ℕ
  pub x : Tree
  pub y : Tree
  pub is : t ≡ fork slot bit x y
  pub below : bit < top
  pub zero : Node
  pub one : Node
  pub read : slots slot ≡ Some (record { zero = zero; one = one; bit = bit })
  pub left : Lays slots bit zero x
  pub right : Lays slots bit one y

pub fork_at : (slots : Slots) (top : ℕ) (node : Node) (t : Tree) (slot : ℕ) → Lays slots top node t → node ≡ Branch slot → ForkAt slots top slot t
fork_at slots top node (tip leaf) slot laid is = absurd (let l : node ≡ Leaf leaf = laid in cc)
fork_at slots top node (fork at bit x y) slot laid is =
    let there = laid.0 in
    let same : at ≡ slot = cc in
    record {
      bit = bit;
      x = x;
      y = y;
      is = ap (λ k. fork k bit x y) same;
      below = laid.1;
      zero = laid.2;
      one = laid.3;
      read = subst (λ k. slots k ≡ Some (record { zero = laid.2; one = laid.3; bit = bit })) same laid.4;
      left = laid.5;
      right = laid.6;
    }

-- what stands at a node that leads to a leaf
pub tip_at : (slots : Slots) (top : ℕ) (node : Node) (t : Tree) (leaf : ℕ) → Lays slots top node t → node ≡ Leaf leaf → t ≡ tip leaf
tip_at slots top node (tip other) leaf laid is = let l : node ≡ Leaf other = laid in let same : other ≡ leaf = cc in ap tip same
tip_at slots top node (fork at bit x y) leaf laid is = absurd (let l = laid.0 in cc)

-- a fork that was read from the slot is that one
pub record ForkRead (slots : Slots) (top slot : ℕ) (t : Tree) (f : Fork) : Type 0 where
  pub x : Tree
  pub y : Tree
  pub is : t ≡ fork slot f.bit x y
  pub below : f.bit < top
  pub left : Lays slots f.bit f.zero x
  pub right : Lays slots f.bit f.one y

pub fork_read : (slots : Slots) (top : ℕ) (node : Node) (t : Tree) (slot : ℕ) (f : Fork) → Lays slots top node t → node ≡ Branch slot → slots slot ≡ Some f
    → ForkRead slots top slot t f
fork_read slots top node t slot f laid is read =
    let there = fork_at slots top node t slot laid is in
    let same : record { zero = there.zero; one = there.one; bit = there.bit } ≡ f = same_Some _ _ (sym there.read ∙ read) in
    let bit = ap (λ (g : Fork). g.bit) same in
    record {
      x = there.x;
      y = there.y;
      is = there.is ∙ ap (λ b. fork slot b there.x there.y) bit;
      below = subst (λ b. b < top) bit there.below;
      left = subst (λ (g : Fork). Lays slots g.bit g.zero there.x) same there.left;
      right = subst (λ (g : Fork). Lays slots g.bit g.one there.y) same there.right;
    }

-- a node below the fork that was read is less in rank
pub falls : (slots : Slots) (slot : ℕ) (node : Node) (f : Fork) (below : Node) (t : Tree) → node ≡ Branch slot → slots slot ≡ Some f → Lays slots f.bit below t → rank slots below < rank slots node
falls slots slot node f below t is read laid =
    let within = rank_within slots f.bit below t laid in
    let here : rank slots node ≡ f.bit + 1 = ap (rank slots) is ∙ ap fork_rank read in
    omega arith

-- the branch that a bit chooses
pub lays_branch : (b : Bool) (slots : Slots) (bit : ℕ) (zero one : Node) (x y : Tree) → Lays slots bit zero x → Lays slots bit one y → Lays slots bit (cond b one zero) (cond b y x)
lays_branch true slots bit zero one x y left right = right
lays_branch false slots bit zero one x y left right = left

pub near_branch : (b : Bool) (n : ℕ) (x y : Tree) → near n (cond b y x) ≡ cond b (near n y) (near n x)
near_branch true n x y = refl
near_branch false n x y = refl
