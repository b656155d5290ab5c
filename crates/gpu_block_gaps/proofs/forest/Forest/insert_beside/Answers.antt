use Rattle.std.proofs.Common.{◌≡◌, ◌<◌, Option, sym, ap, subst, ◌∙◌, length, set, Some, arith}
use Rattle.std.specs.List.{slice_get}
use Rattle.std.proofs.lemmas.Option.{same_Some}
use Rattle.gpu_block_gaps.specs.declared.tree.Node.{Node}
use Rattle.gpu_block_gaps.specs.Key.{code_of}
use Rattle.gpu_block_gaps.specs.Tree.{Lays, grown, CanGrow, HasGrown}
use Rattle.gpu_block_gaps.specs.Forest.{class_in, tree_at, AreTrees}
use Rattle.gpu_block_gaps.proofs.Forests.{tree_there, root_within}
use Rattle.gpu_block_gaps.proofs.Planting.{slot_vacant, beside_can, beside_planted, adds_leaf}
use Rattle.gpu_block_gaps.proofs.forest.Forest.insert_beside.Goals as goal

pub insert-grown-requires-clause-laid : goal.insert-grown-requires-clause-laid
insert-grown-requires-clause-laid c =
    let known = c.requires.there in
    let there = tree_there known.0 _ _ _ _ _ _ known.1 known.2 c.args.class c.root_of-node.result c.root_of-node.ensures.is in
    (there.tree, there.laid)

pub insert-grown-requires-clause-slot : goal.insert-grown-requires-clause-slot
insert-grown-requires-clause-slot c =
    let known = c.requires.there in
    let free = slot_vacant known.0 _ _ _ _ _ _ known.1 known.2 c.pop.new.self.items c.in-Some.slot c.in-Some.ensures.items in
    let short = known.2.short in
    let within = free.0 in
    (free.0, omega arith)

pub returns-clause-trees : goal.returns-clause-trees
returns-clause-trees c = λ key trees t are has is split.
    let self = c.args.self.now in
    let class = c.requires.class in
    let slot = c.in-Some.slot in
    let was = c.in-Some.ensures.items in
    let rooted = c.root_of-node.ensures.is in
    let within : c.args.class < length self.roots.items = root_within self.roots.items c.args.class c.root_of-node.result c.root_of-node.ensures.is in
    let there : tree_at trees c.args.class ≡ Some t = ap (tree_at trees) class ∙ is in
    let n = code_of c.args.key in
    let can = beside_can key _ _ _ _ _ _ trees are c.pop.new.self.items slot c.args.class c.root_of-node.result t n c.args.bit was rooted there split c.requires.bit in
    let leaf = c.args.leaf in
    let bit = c.args.bit in
    let node = c.root_of-node.result in
    let node' = c.insert-grown.result.node in
    let forks' = c.insert-grown.new.forks.items in
    let spare' = c.pop.new.self.items in
    let at = c.args.class in
    let new = grown n bit leaf slot t in
    let can' : CanGrow key (slice_get c.args.self.now.forks.items) 128 node t n bit slot = can in
    let grew : HasGrown (slice_get self.forks.items) (slice_get forks') 128 node' t new slot = c.insert-grown.ensures.grown key 128 t can' in
    let long : length forks' ≡ length self.forks.items = c.insert-grown.ensures.count in
    let planted = beside_planted key _ _ _ _ _ _ trees are forks' spare' slot at node node' t n bit leaf was rooted there split class within has long grew in
    let rooted' = subst (λ (r : Option Node). AreTrees key self.scale forks' spare' self.spare.capacity (set self.roots.items at r) self.classes (set trees at (Some new))) (sym c.at.ensures) planted in
    let room = c.in-Some.ensures.capacity in (
      new,
      subst (λ r. AreTrees key self.scale forks' spare' r (set self.roots.items at c.at.result) self.classes (set trees (class_in self.scale n) (Some new))) (sym room)
          (subst (λ k. AreTrees key self.scale forks' spare' self.spare.capacity (set self.roots.items at c.at.result) self.classes (set trees k (Some new))) class rooted'),
      adds_leaf n bit leaf slot t,
    )

pub returns-clause-place : goal.returns-clause-place
returns-clause-place c = λ key trees t are is split.
    let there = tree_there key _ _ _ _ _ _ trees are c.args.class c.root_of-node.result c.root_of-node.ensures.is in
    let same : there.tree ≡ t = same_Some _ _ (sym there.is ∙ ap (tree_at trees) c.requires.class ∙ is) in
    let laid = there.laid in
    c.insert-grown.ensures.place key t (subst (Lays (slice_get c.args.self.now.forks.items) 128 c.root_of-node.result) same laid) split
