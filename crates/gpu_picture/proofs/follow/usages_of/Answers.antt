use Rattle.std.proofs.Common.{◌∙◌, ◌<◌, ◌++◌, ◌∷◌, [], sym, ap, subst, option_map}
use Rattle.gpu_picture.proofs.ShownTypes.{usages_more, not_missing}
use Rattle.gpu_picture.proofs.follow.usages_of.Goals.{in-Some+in_ok-push, in_default}
use Rattle.gpu_picture.proofs.follow.usages_of.Goals as goal

pub loop-index-preserved : goal.loop-index-preserved
loop-index-preserved g c = elim c.match-memory_type.branch [
  | in-Some+in_ok-push w ↦ rw w.usages-is (usages_more c.args.types.now c.loop-index.index w.in-Some.memory_type.now
      c.loop-index.usages.items w.push.new.self.items _
      (ap (option_map (λ t. t.now)) (sym w.in-Some.is) ∙ c.memory_type.ensures)
      (w.in_ok-push.ensures.items ∙ ap (λ u. c.loop-index.usages.items ++ u ∷ []) w.usage_of.ensures) c.loop-index.invariant)
  | in_default w ↦ absurd (not_missing c.args.types.now c.loop-index.index
      (subst (λ n. c.loop-index.index < n) c.count-index-end.ensures c.loop-index-test.true)
      (ap (option_map (λ t. t.now)) (sym w.in_default.is) ∙ c.memory_type.ensures))
]
