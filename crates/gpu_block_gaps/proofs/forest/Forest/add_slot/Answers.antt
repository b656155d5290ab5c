use Rattle.std.proofs.Common.{◌≡◌, ◌<◌, ◌∷◌, [], ◌++◌, ℕ, List, sym, ap, ◌∙◌, subst, length, arith}
use Rattle.gpu_block_gaps.specs.declared.tree.Fork.{Fork}
use Rattle.gpu_block_gaps.specs.Forest.{AreTrees}
use Rattle.gpu_block_gaps.proofs.Rooms.{fork_added}
use Rattle.gpu_block_gaps.proofs.forest.Forest.add_slot.Goals as goal

pub returns-clause-trees : goal.returns-clause-trees
returns-clause-trees c = λ key trees fits are.
    let self = c.args.self.now in
    let whole : length self.forks.items ≡ length self.forks.items = omega arith in
    let fits' : length self.forks.items < self.spare.capacity = omega arith in
    let blank : Fork = record { zero = c.new.result; one = c.new-2.result; bit = 0 } in
    let added = fork_added key self.scale self.forks.items self.spare.items self.spare.capacity self.roots.items self.classes trees blank are fits' (omega arith) in
    subst (λ (fs : List Fork). AreTrees key self.scale fs c.push_reserved.new.self.items c.push_reserved.new.self.capacity self.roots.items self.classes trees) (sym c.push_reserved-2.ensures.items)
    (subst (λ (ss : List ℕ). AreTrees key self.scale (self.forks.items ++ blank ∷ []) ss c.push_reserved.new.self.capacity self.roots.items self.classes trees) (sym (c.push_reserved.ensures.items ∙ ap (λ (n : ℕ). self.spare.items ++ n ∷ []) (let said = c.len.ensures in omega arith)))
    (subst (λ r. AreTrees key self.scale (self.forks.items ++ blank ∷ []) (self.spare.items ++ length self.forks.items ∷ []) r self.roots.items self.classes trees) (sym c.push_reserved.ensures.capacity) added))
