use Rattle.std.proofs.Common.{◌≡◌, ◌<◌, ℕ, List, [], ◌∷◌, ◌++◌, Option, None, false, sym, ap, subst, ◌∙◌, refl, length, set, Some, rules}
use Rattle.std.specs.List.{slice_get}
use Rattle.std.proofs.lemmas.Option.{same_Some}
use Rattle.gpu_block_gaps.specs.declared.tree.Node.{Node}
use Rattle.gpu_block_gaps.specs.declared.tree.Node.TheVariants.{Leaf, Branch}
use Rattle.gpu_block_gaps.specs.Key.{code_of}
use Rattle.gpu_block_gaps.specs.Tree.{Tree, tip, Slots, Lays, Sorted, near, is_tip, pruned, HasPruned}
use Rattle.gpu_block_gaps.specs.Forest.{class_in, tree_at, root_at, AreTrees}
use Rattle.gpu_block_gaps.proofs.Trees.{fork_at, tip_at}
use Rattle.gpu_block_gaps.proofs.Forests.{tree_there, root_within}
use Rattle.gpu_block_gaps.proofs.Uprooting.{spare_room, pruned_planted, last_gone, without_leaf}
use Rattle.gpu_block_gaps.proofs.forest.Forest.remove.Goals as goal

-- a node that leads to a fork
fork_there : (slots : Slots) (u : Tree) (at : ℕ) → Lays slots 128 (Branch at) u → is_tip u ≡ false
fork_there slots u at laid = let there = fork_at slots 128 (Branch at) u at laid refl in ap is_tip there.is

pub remove-cut-requires-clause-laid : goal.remove-cut-requires-clause-laid
remove-cut-requires-clause-laid c =
    let known = c.requires.there in
    let read = c.root_of.ensures.is in
    let rooted : root_at c.args.self.now.roots.items c.args.class ≡ Some (Branch c.in-Branch.slot) = cc in
    let there = tree_there known.0 _ _ _ _ _ _ known.1 known.2 c.args.class (Branch c.in-Branch.slot) rooted in
    (there.tree, there.laid)

pub push_reserved-requires : goal.push_reserved-requires
push_reserved-requires c =
    let known = c.requires.there in
    let read = c.root_of.ensures.is in
    let rooted : root_at c.args.self.now.roots.items c.args.class ≡ Some (Branch c.in-Branch.slot) = cc in
    let there = tree_there known.0 _ _ _ _ _ _ known.1 known.2 c.args.class (Branch c.in-Branch.slot) rooted in
    let room : length c.args.self.now.spare.items < c.args.self.now.spare.capacity =
    spare_room known.0 _ _ _ _ _ _ known.1 known.2 c.args.class there.tree there.is (fork_there _ there.tree c.in-Branch.slot there.laid) in
    search rules

pub returns-in-Branch-clause-trees : goal.returns-in-Branch-clause-trees
returns-in-Branch-clause-trees c = λ key trees t are is.
    let self = c.args.self.now in
    let class = c.requires.class in
    let at = c.args.class in
    let node = Branch c.in-Branch.slot in
    let read = c.root_of.ensures.is in
    let rooted : root_at c.args.self.now.roots.items c.args.class ≡ Some (Branch c.in-Branch.slot) = cc in
    let within : at < length self.roots.items = root_within self.roots.items at node rooted in
    let found : tree_at trees at ≡ Some t = ap (tree_at trees) class ∙ is in
    let there = tree_there key _ _ _ _ _ _ trees are at node rooted in
    let same : there.tree ≡ t = same_Some _ _ (sym there.is ∙ found) in
    let laid : Lays (slice_get self.forks.items) 128 node t = subst (Lays (slice_get self.forks.items) 128 node) same there.laid in
    let sorted : Sorted key t = subst (Sorted key) same there.sorted in
    let more = fork_there (slice_get self.forks.items) t c.in-Branch.slot laid in
    let n = code_of c.args.key in
    let forks' = c.remove-cut.new.forks.items in
    let cut = c.remove-cut.result in
    let laid' : Lays (slice_get c.args.self.now.forks.items) 128 node t = laid in
    let gone : HasPruned (slice_get self.forks.items) (slice_get forks') 128 cut.node t n cut.slot = c.remove-cut.ensures.tree key 128 t laid' sorted in
    let long : length forks' ≡ length self.forks.items = c.remove-cut.ensures.count in
    let planted = pruned_planted key _ _ _ _ _ _ trees are forks' cut.slot at node cut.node t n rooted found more within long gone in
    let rooted' = subst (λ (r : Option Node). AreTrees key self.scale forks' (self.spare.items ++ cut.slot ∷ []) self.spare.capacity (set self.roots.items at r) self.classes
    (set trees at (Some (pruned n t)))) (sym c.at.ensures) planted in
    let spare' = c.push_reserved.new.self in (
      Some (pruned n t),
      subst (λ (ss : List ℕ). AreTrees key self.scale forks' ss spare'.capacity (set self.roots.items at c.at.result) self.classes
          (set trees (class_in self.scale n) (Some (pruned n t)))) (sym c.push_reserved.ensures.items)
          (subst (λ r. AreTrees key self.scale forks' (self.spare.items ++ cut.slot ∷ []) r (set self.roots.items at c.at.result) self.classes
          (set trees (class_in self.scale n) (Some (pruned n t)))) (sym c.push_reserved.ensures.capacity)
          (subst (λ k. AreTrees key self.scale forks' (self.spare.items ++ cut.slot ∷ []) self.spare.capacity (set self.roots.items at c.at.result) self.classes
          (set trees k (Some (pruned n t)))) class rooted')),
      without_leaf key n t sorted more,
    )

pub returns-in-Leaf-clause-trees : goal.returns-in-Leaf-clause-trees
returns-in-Leaf-clause-trees c = λ key trees t are is.
    let self = c.args.self.now in
    let class = c.requires.class in
    let at = c.args.class in
    let leaf = c.in-Leaf.leaf in
    let read = c.root_of.ensures.is in
    let rooted : root_at c.args.self.now.roots.items c.args.class ≡ Some (Leaf c.in-Leaf.leaf) = cc in
    let within : at < length self.roots.items = root_within self.roots.items at (Leaf leaf) rooted in
    let there = tree_there key _ _ _ _ _ _ trees are at (Leaf leaf) rooted in
    let same : there.tree ≡ t = same_Some _ _ (sym there.is ∙ ap (tree_at trees) class ∙ is) in
    let alone : there.tree ≡ tip leaf = tip_at (slice_get self.forks.items) 128 (Leaf leaf) there.tree leaf there.laid refl in
    let whole : t ≡ tip leaf = sym same ∙ alone in
    let n = code_of c.args.key in
    let planted = last_gone key _ _ _ _ _ _ trees are c.remove.new.self at leaf (there.is ∙ ap (λ (u : Tree). Some u) alone) within c.remove.ensures in
    let emptied = subst (λ (r : Option Node). AreTrees key self.scale self.forks.items self.spare.items self.spare.capacity (set self.roots.items at r) c.remove.new.self (set trees at None))
    (sym c.empty.ensures) planted in (
      None,
      subst (λ k. AreTrees key self.scale self.forks.items self.spare.items self.spare.capacity (set self.roots.items at c.empty.result) c.remove.new.self (set trees k None)) class emptied,
      subst (λ (u : Tree). u ≡ tip (near n u)) (sym whole) refl,
    )

pub returns-in-Branch-clause-leaf : goal.returns-in-Branch-clause-leaf
returns-in-Branch-clause-leaf c = λ key trees t are is.
    let class = c.requires.class in
    let at = c.args.class in
    let node = Branch c.in-Branch.slot in
    let read = c.root_of.ensures.is in
    let rooted : root_at c.args.self.now.roots.items c.args.class ≡ Some (Branch c.in-Branch.slot) = cc in
    let there = tree_there key _ _ _ _ _ _ trees are at node rooted in
    let same : there.tree ≡ t = same_Some _ _ (sym there.is ∙ ap (tree_at trees) class ∙ is) in
    let laid : Lays (slice_get c.args.self.now.forks.items) 128 node t = subst (Lays (slice_get c.args.self.now.forks.items) 128 node) same there.laid in
    c.remove-cut.ensures.leaf t laid

pub returns-in-Leaf-clause-leaf : goal.returns-in-Leaf-clause-leaf
returns-in-Leaf-clause-leaf c = λ key trees t are is.
    let self = c.args.self.now in
    let class = c.requires.class in
    let at = c.args.class in
    let leaf = c.in-Leaf.leaf in
    let read = c.root_of.ensures.is in
    let rooted : root_at c.args.self.now.roots.items c.args.class ≡ Some (Leaf c.in-Leaf.leaf) = cc in
    let there = tree_there key _ _ _ _ _ _ trees are at (Leaf leaf) rooted in
    let same : there.tree ≡ t = same_Some _ _ (sym there.is ∙ ap (tree_at trees) class ∙ is) in
    let alone : there.tree ≡ tip leaf = tip_at (slice_get self.forks.items) 128 (Leaf leaf) there.tree leaf there.laid refl in
    let whole : t ≡ tip leaf = sym same ∙ alone in
    sym (ap (near (code_of c.args.key)) whole)
