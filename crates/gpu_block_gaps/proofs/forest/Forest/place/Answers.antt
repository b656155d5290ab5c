use Rattle.std.proofs.Common.{◌≡◌, sym, ap, subst, ◌∙◌}
use Rattle.std.specs.List.{slice_get}
use Rattle.std.proofs.lemmas.Option.{same_Some}
use Rattle.gpu_block_gaps.specs.Tree.{Lays}
use Rattle.gpu_block_gaps.specs.Forest.{tree_at}
use Rattle.gpu_block_gaps.proofs.Forests.{tree_there}
use Rattle.gpu_block_gaps.proofs.forest.Forest.place.Goals as goal

pub place_of-requires-clause-laid : goal.place_of-requires-clause-laid
place_of-requires-clause-laid c =
    let known = c.requires.there in
    let there = tree_there known.0 _ _ _ _ _ _ known.1 known.2 c.args.class c.root_of-root.result c.root_of-root.ensures.is in
    (there.tree, there.laid)

pub returns : goal.returns
returns c = λ key trees t are is split.
    let there = tree_there key _ _ _ _ _ _ trees are c.args.class c.root_of-root.result c.root_of-root.ensures.is in
    let same : there.tree ≡ t = same_Some _ _ (sym there.is ∙ ap (tree_at trees) c.requires.class ∙ is) in
    let laid = there.laid in
    c.place_of.ensures key t (subst (Lays (slice_get c.args.self.now.forks.items) 128 c.root_of-root.result) same laid) split
