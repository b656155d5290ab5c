use Rattle.std.proofs.Common.{◌≡◌, ◌≤◌, ◌+◌, ◌*◌, ℕ, List, Option, None, refl, sym, ap, ◌∙◌, subst, length, replicate, arith}
use Rattle.std.proofs.lemmas.Bool.Decides.{nat_tests}
use Rattle.gpu_block_gaps.specs.declared.tree.Node.{Node}
use Rattle.gpu_block_gaps.specs.ClassSet.{NoneFrom, is_in}
use Rattle.gpu_block_gaps.specs.Forest.{AreTrees, KeepsTrees}
use Rattle.gpu_block_gaps.proofs.Rooms.{widened}
use Rattle.gpu_block_gaps.proofs.forest.Forest.widen.Goals as goal

pub returns-clause-trees : goal.returns-clause-trees
returns-clause-trees c = λ key trees are.
    let self = c.args.self.now in
    let d = self.scale in
    let empty : length self.roots.items ≡ 0 = grind (arith, nat_tests) in
    let made : (classes' : List ℕ) (n : ℕ) → n ≡ d.last + 1 → n ≤ length classes' * 64 → NoneFrom (is_in classes') 0
    → AreTrees key d self.forks.items self.spare.items self.spare.capacity (replicate n None) classes' (replicate n None) × KeepsTrees trees (replicate n None) =
    λ classes' n is enough none. widened key d self.forks.items self.spare.items self.spare.capacity self.roots.items self.classes trees classes' n are empty is enough none in
    let at = made c.in_ok-classes.classes (d.last + 1) refl c.in_ok-classes.ensures.room c.in_ok-classes.ensures.none in
    let n = d.last + 1 in
    let same : c.in_ok-roots.roots.items ≡ replicate n None = c.in_ok-roots.ensures.items_if_clones_equal (λ y is. is) ∙ ap (λ (r : Option Node). replicate n r) c.empty.ensures in (
      replicate n None,
      subst (λ (rs : List (Option Node)). AreTrees key d self.forks.items self.spare.items self.spare.capacity rs c.in_ok-classes.classes (replicate n None)) (sym same) at.0,
      at.1,
    )
