use Rattle.std.proofs.Common.{◌≡◌, ◌<◌, length, ℕ}
use Rattle.std.specs.Prelude.{slice_index_or}
use Rattle.gpu_report.specs.View.{shown_resource}
use Rattle.gpu_report.specs.declared.view.ResourceView.{ResourceView}
use Rattle.gpu_plan_session.specs.PlanSession.{offsets_of}
use Rattle.gpu_picture.specs.DrawPlan.{view_at}
use Rattle.gpu_picture.proofs.draw_plan.views_of.Given as goal

abbrev pub invariant-loop-index : goal.invariant-loop-index
invariant-loop-index l = record {
  count : length l.views.items ≡ l.index;
  views_are : (i : ℕ) (d : ResourceView) → i < length l.views.items → shown_resource (slice_index_or l.views.items i d) ≡ view_at l.listed (offsets_of l.places) i;
}
