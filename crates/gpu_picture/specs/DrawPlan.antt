-- What is written of the plan that a trace leaves.
use Rattle.std.specs.Prelude.{◌≡◌, ℕ, ◌<◌, List, [], Option, length, slice_index_or}
use Rattle.std.specs.Io.KnownBytes.{Appends, Keeps}
use Rattle.gpu_block_session.specs.declared.error_number.ErrorNumber.TheVariants.{E1}
use Rattle.gpu_plan.specs.OrderPlan.{placed_at}
use Rattle.gpu_plan_session.specs.PlanSession.{resources_of, name_at, offsets_of, Solving}
use Rattle.gpu_plan_session.specs.declared.session.Listed.{Listed}
use Rattle.gpu_plan_session.specs.declared.reply.Solved.{Solved}
use Rattle.gpu_plan_session.specs.declared.reply.Reply.TheVariants as replies
use Rattle.gpu_plan_session.specs.declared.plan_stage.PlanStage.{PlanStage}
use Rattle.gpu_plan_session.specs.declared.plan_stage.PlanStage.TheVariants.{Before, Open}
use Rattle.gpu_report.specs.View.{ShownResource, shown_resource}
use Rattle.gpu_report.specs.PlanSvg.{plan_svg}
use Rattle.gpu_report.specs.declared.view.ResourceView.{ResourceView}
use Rattle.gpu_picture.specs.declared.drawn.Drawn.{Drawn}
use Rattle.gpu_picture.specs.declared.drawn.Drawn.TheVariants.{Whole, TooLarge}

-- the resource at an index under its name, at its offset
abbrev pub view_at : List Listed → (offsets : List ℕ) → (index : ℕ) → ShownResource
view_at listed offsets index = record { name = name_at listed index; placed = placed_at (resources_of listed) offsets index }

-- each resource is shown once, in the order in which they were added
pub record AreViews (listed : List Listed) (offsets : List ℕ) (views : List ResourceView) : Type 0 where
  pub each : length views ≡ length listed
  pub views_are : (i : ℕ) (d : ResourceView) → i < length views → shown_resource (slice_index_or views i d) ≡ view_at listed offsets i

abbrev pub DrawsSolved : List Listed → Solved → (old new : Option (List ℕ)) → Type 0
DrawsSolved listed solved old new =
    (views : List ResourceView) × AreViews listed (offsets_of solved.places.items) views × Appends old new (plan_svg views solved.heap solved.peak)

-- what `solve` would place behind the last line; nothing where it would answer E1
abbrev pub DrawsPlan : PlanStage → Drawn → (old new : Option (List ℕ)) → Type 0
DrawsPlan (Open s) Whole old new = (solved : Solved) × Solving s (replies.Solved solved) × DrawsSolved s.listed solved old new
DrawsPlan (Open s) TooLarge old new = Solving s (replies.Refused E1) × Keeps old new
DrawsPlan Before Whole old new = Appends old new (plan_svg [] 0 0)
DrawsPlan _ _ old new = ⊥
