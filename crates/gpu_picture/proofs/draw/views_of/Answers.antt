use Rattle.std.proofs.Common.{◌∙◌, ◌<◌, sym, ap, subst, map, option_map}
use Rattle.gpu_report.specs.View.{shown}
use Rattle.gpu_picture.specs.Draw.{shown_types}
use Rattle.gpu_picture.proofs.ShownTypes.{one_more, not_missing}
use Rattle.gpu_picture.proofs.draw.views_of.Goals.{in-Some+in_ok-add_views, in_default}
use Rattle.gpu_picture.proofs.draw.views_of.Goals as goal

-- src/draw.rt:69:5
pub loop-index-preserved : goal.loop-index-preserved
loop-index-preserved g c = elim c.match-memory_type.branch [
  | in-Some+in_ok-add_views w ↦ rw w.views-is (one_more c.args.types.now c.loop-index.index w.in-Some.memory_type.now
      (map shown c.loop-index.views.items) (map shown w.add_views.new.views.items) (shown_types 0 c.args.types.now)
      (ap (option_map (λ t. t.now)) (sym w.in-Some.is) ∙ c.memory_type.ensures) w.in_ok-add_views.ensures.added c.loop-index.invariant)
  | in_default w ↦ absurd (not_missing c.args.types.now c.loop-index.index
      (subst (λ n. c.loop-index.index < n) c.count-index-end.ensures c.loop-index-test.true)
      (ap (option_map (λ t. t.now)) (sym w.in_default.is) ∙ c.memory_type.ensures))
]
