-- How a leaf is laid into the slots of a tree.
use Rattle.std.proofs.Common.{◌≡◌, ◌≢◌, ℕ, ◌+◌, ◌/◌, ◌^◌, ◌<◌, ◌≤◌, Some, inl, inr, Bool, true, false, cond, refl, sym, ap, subst, ◌∙◌}
use Rattle.gpu_block_gaps.specs.declared.tree.Node.{Node}
use Rattle.gpu_block_gaps.specs.declared.tree.Node.TheVariants.{Leaf, Branch}
use Rattle.gpu_block_gaps.specs.Key.{bit_of}
use Rattle.gpu_block_gaps.specs.Tree.{Tree, tip, fork, Slots, Lays, HasFork, near, joined, grown, CanGrow, HasGrown}
use Rattle.gpu_block_gaps.proofs.Shapes.{apart, own_left, own_right, lays_kept, fork_of}
use Rattle.gpu_block_gaps.proofs.Growing.{falls_short, grown_one, grown_zero, grown_stop, fork_grown}

-- the branch along which the leaf goes can take it
pub can_branch : (key : ℕ → ℕ) (slots : Slots) (top : ℕ) (node : Node) (at b : ℕ) (zero one : Node) (x y : Tree) (n bit slot : ℕ) → CanGrow key slots top node (fork at b x y) n bit slot
    → Lays slots b zero x → Lays slots b one y → bit < b → CanGrow key slots b (cond (bit_of n b) one zero) (cond (bit_of n b) y x) n bit slot
can_branch key slots top node at b zero one x y n bit slot can left right lt = by_bit (bit_of n b) refl
  where
    by_bit : (c : Bool) → bit_of n b ≡ c → CanGrow key slots b (cond c one zero) (cond c y x) n bit slot
    by_bit true set =
        let way = ap (λ z. cond z (near n y) (near n x)) set in
        record {
          laid = right;
          sorted = (can.sorted).4;
          above = can.above ∙ ap (λ l. key l / 2 ^ (bit + 1)) way;
          differs = λ same. can.differs (same ∙ sym (ap (λ l. key l / 2 ^ bit) way));
          below = lt;
          vacant = λ has. can.vacant (inr (inr has));
        }
    by_bit false unset =
        let way = ap (λ z. cond z (near n y) (near n x)) unset in
        record {
          laid = left;
          sorted = (can.sorted).3;
          above = can.above ∙ ap (λ l. key l / 2 ^ (bit + 1)) way;
          differs = λ same. can.differs (same ∙ sym (ap (λ l. key l / 2 ^ bit) way));
          below = lt;
          vacant = λ has. can.vacant (inr (inl has));
        }

-- the fork leads to the branch with the leaf
pub grew_branch : (key : ℕ → ℕ) (old mid new : Slots) (top : ℕ) (node : Node) (at b : ℕ) (zero one branch : Node) (x y : Tree) (n bit leaf slot : ℕ)
    → CanGrow key old top node (fork at b x y) n bit slot → Lays old b zero x → Lays old b one y → bit < b
    → HasGrown old mid b branch (cond (bit_of n b) y x) (grown n bit leaf slot (cond (bit_of n b) y x)) slot
    → new at ≡ Some (cond (bit_of n b) (fork_of zero branch b) (fork_of branch one b)) → ((k : ℕ) → k ≢ at → new k ≡ mid k)
    → HasGrown old new top node (fork at b x y) (grown n bit leaf slot (fork at b x y)) slot
grew_branch key old mid new top node at b zero one branch x y n bit leaf slot can left right lt grew put others = by_bit (bit_of n b) refl grew put
  where
    is_branch : node ≡ Branch at
    is_branch = let laid = can.laid in laid.0

    below : b < top
    below = let laid = can.laid in laid.1

    own_x : HasFork at x → ⊥
    own_x = own_left key old top node at b x y can.laid can.sorted

    own_y : HasFork at y → ⊥
    own_y = own_right key old top node at b x y can.laid can.sorted

    divided : (k : ℕ) → HasFork k x → HasFork k y → ⊥
    divided k in_x in_y = apart key old b ((can.sorted).0) zero one x y k left right (can.sorted).1 (can.sorted).2 in_x in_y

    by_bit : (c : Bool) → bit_of n b ≡ c → HasGrown old mid b branch (cond c y x) (grown n bit leaf slot (cond c y x)) slot
        → new at ≡ Some (cond c (fork_of zero branch b) (fork_of branch one b)) → HasGrown old new top node (fork at b x y) (grown n bit leaf slot (fork at b x y)) slot
    by_bit true set grew' put' =
        let kept = lays_kept old new b zero x (λ k has. others k (λ same. own_x (subst (λ j. HasFork j x) same has))
        ∙ grew'.others k (λ in_y. divided k has in_y) (λ same. can.vacant (inr (inl (subst (λ j. HasFork j x) same has))))) left in
        let moved = lays_kept mid new b branch (grown n bit leaf slot y)
        (λ k has. others k (λ same. elim (fork_grown n bit leaf slot y k has) as (λ _. ⊥) [ inl h ↦ own_y (subst (λ j. HasFork j y) same h) | inr e ↦ can.vacant (inl (sym e ∙ same)) ])) grew'.laid in
        let whole : Lays new top node (fork at b x (grown n bit leaf slot y)) = (is_branch, below, zero, branch, put', kept, moved) in
        record {
          laid = subst (Lays new top node) (sym (grown_one n bit leaf slot at b x y lt set)) whole;
          others = λ k out apart_slot. others k (λ same. out (inl same)) ∙ grew'.others k (λ has. out (inr (inr has))) apart_slot;
        }
    by_bit false unset grew' put' =
        let kept = lays_kept old new b one y (λ k has. others k (λ same. own_y (subst (λ j. HasFork j y) same has))
        ∙ grew'.others k (λ in_x. divided k in_x has) (λ same. can.vacant (inr (inr (subst (λ j. HasFork j y) same has))))) right in
        let moved = lays_kept mid new b branch (grown n bit leaf slot x)
        (λ k has. others k (λ same. elim (fork_grown n bit leaf slot x k has) as (λ _. ⊥) [ inl h ↦ own_x (subst (λ j. HasFork j x) same h) | inr e ↦ can.vacant (inl (sym e ∙ same)) ])) grew'.laid in
        let whole : Lays new top node (fork at b (grown n bit leaf slot x) y) = (is_branch, below, branch, one, put', moved, kept) in
        record {
          laid = subst (Lays new top node) (sym (grown_zero n bit leaf slot at b x y lt unset)) whole;
          others = λ k out apart_slot. others k (λ same. out (inl same)) ∙ grew'.others k (λ has. out (inr (inl has))) apart_slot;
        }

-- the new fork leads to the leaf and to what stood there
joined_laid : (old new : Slots) (top : ℕ) (node : Node) (t : Tree) (n bit leaf slot : ℕ) → Lays old bit node t → bit < top → (HasFork slot t → ⊥)
    → new slot ≡ Some (cond (bit_of n bit) (fork_of node (Leaf leaf) bit) (fork_of (Leaf leaf) node bit)) → ((k : ℕ) → k ≢ slot → new k ≡ old k)
    → HasGrown old new top (Branch slot) t (joined n bit leaf slot t) slot
joined_laid old new top node t n bit leaf slot laid below vacant put others = record {
  laid = by_bit (bit_of n bit) put;
  others = λ k out apart_slot. others k apart_slot;
}
  where
    kept : Lays new bit node t
    kept = lays_kept old new bit node t (λ k has. others k (λ same. vacant (subst (λ j. HasFork j t) same has))) laid

    by_bit : (c : Bool) → new slot ≡ Some (cond c (fork_of node (Leaf leaf) bit) (fork_of (Leaf leaf) node bit))
        → Lays new top (Branch slot) (cond c (fork slot bit t (tip leaf)) (fork slot bit (tip leaf) t))
    by_bit true put' = (refl, below, node, Leaf leaf, put', kept, refl)
    by_bit false put' = (refl, below, Leaf leaf, node, put', refl, kept)

pub grew_tip : (key : ℕ → ℕ) (old new : Slots) (top : ℕ) (node : Node) (other n bit leaf slot : ℕ) → CanGrow key old top node (tip other) n bit slot
    → new slot ≡ Some (cond (bit_of n bit) (fork_of node (Leaf leaf) bit) (fork_of (Leaf leaf) node bit)) → ((k : ℕ) → k ≢ slot → new k ≡ old k)
    → HasGrown old new top (Branch slot) (tip other) (grown n bit leaf slot (tip other)) slot
grew_tip key old new top node other n bit leaf slot can put others = joined_laid old new top node (tip other) n bit leaf slot can.laid can.below can.vacant put others

pub grew_stop : (key : ℕ → ℕ) (old new : Slots) (top : ℕ) (node : Node) (at b : ℕ) (x y : Tree) (n bit leaf slot : ℕ) → CanGrow key old top node (fork at b x y) n bit slot → b ≤ bit
    → new slot ≡ Some (cond (bit_of n bit) (fork_of node (Leaf leaf) bit) (fork_of (Leaf leaf) node bit)) → ((k : ℕ) → k ≢ slot → new k ≡ old k)
    → HasGrown old new top (Branch slot) (fork at b x y) (grown n bit leaf slot (fork at b x y)) slot
grew_stop key old new top node at b x y n bit leaf slot can le put others =
    let laid = can.laid in
    let lower : Lays old bit node (fork at b x y) = (laid.0, falls_short key at b x y n bit can.sorted can.above can.differs le, laid.2, laid.3, laid.4, laid.5, laid.6) in
    subst (λ z. HasGrown old new top (Branch slot) (fork at b x y) z slot) (sym (grown_stop n bit leaf slot at b x y le))
    (joined_laid old new top node (fork at b x y) n bit leaf slot lower can.below can.vacant put others)
