-- What a line of a block or device trace does.
use Rattle.std.specs.Prelude.{ℕ, List}
use Rattle.gpu_trace_text.specs.Line.{Line, Means}
use Rattle.gpu_trace_text.specs.declared.reply.Reply.{Reply}
use Rattle.gpu_trace_text.specs.Stage.{Admits, Quietly, Step}
use Rattle.gpu_trace_text.specs.declared.stage.Stage.{Stage}
use Rattle.gpu_block_session.specs.declared.outcome.Outcome.{Outcome}
use Rattle.gpu_block_session.specs.declared.outcome.Outcome.TheVariants.{Nothing, Replied, Bad}

-- a line that may not come next, however it is read
abbrev pub IsBad : Stage → List ℕ → Type 0
IsBad stage line = (l : Line) → Means line l → Admits stage l → ⊥

-- what one line does
abbrev pub AnyStageServes : Stage → List ℕ → Outcome Reply → Stage → Type 0
AnyStageServes old line Nothing new = (l : Line) × Means line l × Quietly old l new
AnyStageServes old line (Replied r) new = (l : Line) × Means line l × Step old l r new
AnyStageServes old line Bad new = IsBad old line
