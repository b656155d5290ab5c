-- A trace that can be drawn: of any sort, also of a plan. The first line that isn't blank tells which it is.
use Rattle.std.specs.Prelude.{◌≡◌, ◌⊎◌, ℕ, List, ◌++◌, codes}
use Rattle.gpu_block_session.specs.Line.{IsBlank}
use Rattle.gpu_block_session.specs.declared.outcome.Outcome.{Outcome}
use Rattle.gpu_block_session.specs.declared.outcome.Outcome.TheVariants.{Nothing, Replied, Bad}
use Rattle.gpu_plan_session.specs.PlanTrace as plan
use Rattle.gpu_plan_session.specs.declared.plan_stage.PlanStage.{PlanStage}
use Rattle.gpu_plan_session.specs.declared.plan_stage.PlanStage.TheVariants as plan_stages
use Rattle.gpu_trace_text.specs.Any as any
use Rattle.gpu_trace_text.specs.declared.any.AnyTrace.{AnyTrace}
use Rattle.gpu_trace_text.specs.declared.any.AnyTrace.TheVariants.{Vulkan}
use Rattle.gpu_trace_text.specs.declared.stage.Stage.TheVariants as stages
use Rattle.gpu_picture.specs.declared.drawable.Drawable.{Drawable}
use Rattle.gpu_picture.specs.declared.drawable.Drawable.TheVariants as drawables
use Rattle.gpu_picture.specs.declared.drawable.DrawableReply.{DrawableReply}
use Rattle.gpu_picture.specs.declared.drawable.DrawableReply.TheVariants as replies

-- a line does in a trace of any sort but a plan's what it does there
abbrev pub DidAny : AnyTrace → List ℕ → Outcome DrawableReply → Drawable → Type 0
DidAny old line Nothing (drawables.Any new) = any.Does old line Nothing new
DidAny old line (Replied (replies.Any r)) (drawables.Any new) = any.Does old line (Replied r) new
DidAny old line Bad (drawables.Any new) = any.Does old line Bad new
DidAny old line _ _ = ⊥

-- a line does in a plan trace what it does there
abbrev pub DidPlan : PlanStage → List ℕ → Outcome DrawableReply → Drawable → Type 0
DidPlan old line Nothing (drawables.Plan new) = plan.StageServes old line Nothing new
DidPlan old line (Replied (replies.Plan r)) (drawables.Plan new) = plan.StageServes old line (Replied r) new
DidPlan old line Bad (drawables.Plan new) = plan.StageServes old line Bad new
DidPlan old line _ _ = ⊥

-- the beginning of a line that begins a plan
abbrev pub BeginsPlan : List ℕ → Type 0
BeginsPlan line = (rest : List ℕ) × (line ≡ codes "plan" ++ rest)

-- the first line that isn't blank begins a plan, or is the first of another sort
abbrev pub SeesFirst : List ℕ → Outcome DrawableReply → Drawable → Type 0
SeesFirst line did new =
    (IsBlank line × (did ≡ Nothing) × (new ≡ drawables.Before))
    ⊎ (BeginsPlan line × DidPlan plan_stages.Before line did new)
    ⊎ ((IsBlank line → ⊥) × (BeginsPlan line → ⊥) × DidAny (Vulkan stages.Before) line did new)

-- what a line does
abbrev pub Sees : Drawable → List ℕ → Outcome DrawableReply → Drawable → Type 0
Sees drawables.Before line did new = SeesFirst line did new
Sees (drawables.Any old) line did new = DidAny old line did new
Sees (drawables.Plan old) line did new = DidPlan old line did new

-- a reply's text and the end of its line, as its sort of traces writes it
abbrev pub reply_line : DrawableReply → List ℕ
reply_line (replies.Any r) = any.reply_line r
reply_line (replies.Plan r) = plan.reply_line r

-- the trace and the outcome that a call answers are what the line does
abbrev pub MatchSeen : (Outcome DrawableReply → Drawable → Type 0) → Drawable × Outcome DrawableReply → Type 0
MatchSeen does r = does r.1 r.0
