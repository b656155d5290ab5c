-- What is written of a whole trace.
use Rattle.std.specs.Prelude.{ℕ, List, [], Option}
use Rattle.std.specs.Io.KnownBytes.{Appends, Keeps}
use Rattle.gpu_block_session.specs.Replay.{ReplaysTrace}
use Rattle.gpu_block_session.specs.declared.replay.Replayed.TheVariants as replays
use Rattle.gpu_report.specs.BlocksSvg.{blocks_svg}
use Rattle.gpu_report.specs.Timeline.{timeline_svg}
use Rattle.gpu_trace_text.specs.Any.{Does}
use Rattle.gpu_trace_text.specs.declared.any.AnyTrace.{AnyTrace}
use Rattle.gpu_trace_text.specs.declared.any.AnyTrace.TheVariants.{Vulkan}
use Rattle.gpu_trace_text.specs.declared.stage.Stage.TheVariants.{Before}
use Rattle.gpu_picture.specs.Draw.{Draws}
use Rattle.gpu_picture.specs.Drawable.{Sees}
use Rattle.gpu_picture.specs.DrawPlan.{DrawsPlan}
use Rattle.gpu_picture.specs.Follow.{IsStart, Follows}
use Rattle.gpu_picture.specs.declared.draw.Form.TheVariants.{Svg, Json as JsonForm}
use Rattle.gpu_picture.specs.declared.drawable.Drawable.{Drawable}
use Rattle.gpu_picture.specs.declared.drawable.Drawable.TheVariants as drawables
use Rattle.gpu_picture.specs.declared.drawn.Drawn.{Drawn}
use Rattle.gpu_picture.specs.declared.drawn.Drawn.TheVariants.{Whole, Bad, TooLarge}
use Rattle.gpu_picture.specs.declared.follow.Followed.{Followed}
use Rattle.gpu_picture.specs.declared.whole_trace.DrawError.{DrawError}
use Rattle.gpu_picture.specs.declared.whole_trace.DrawError.TheVariants as errors
use Rattle.gpu_picture.specs.declared.whole_trace.Wanted.{Wanted}
use Rattle.gpu_picture.specs.declared.whole_trace.Wanted.TheVariants.{Picture, Json, OverTime}

-- what is drawn of a trace: its plan, or the blocks that it leaves
abbrev pub DrawsLeft : Drawable → Drawn → (old new : Option (List ℕ)) → Type 0
DrawsLeft (drawables.Plan stage) drawn old new = DrawsPlan stage drawn old new
DrawsLeft (drawables.Any trace) Whole old new = Draws Svg trace old new
DrawsLeft drawables.Before Whole old new = Appends old new (blocks_svg [])
DrawsLeft _ _ old new = ⊥

-- what the lines lead to is drawn; where a line is bad its number is told, and nothing is written
abbrev pub DrawsPicture : (input : List ℕ) → Drawn → (old new : Option (List ℕ)) → Type 0
DrawsPicture input (Bad number) old new = ReplaysTrace Sees drawables.Before input (replays.Bad number) × Keeps old new
DrawsPicture input drawn old new = (left : Drawable) × ReplaysTrace Sees drawables.Before input (replays.Whole left) × DrawsLeft left drawn old new

-- the blocks that the lines lead to are written as JSON, or a chart with a sample for each answered line
abbrev pub DrawsTrace : Wanted → (input : List ℕ) → Drawn → (old new : Option (List ℕ)) → Type 0
DrawsTrace Picture input drawn old new = DrawsPicture input drawn old new
DrawsTrace Json input Whole old new = (trace : AnyTrace) × ReplaysTrace Does (Vulkan Before) input (replays.Whole trace) × Draws JsonForm trace old new
DrawsTrace Json input (Bad number) old new = ReplaysTrace Does (Vulkan Before) input (replays.Bad number) × Keeps old new
DrawsTrace OverTime input Whole old new =
    (first : Followed) × IsStart first × (followed : Followed) × ReplaysTrace Follows first input (replays.Whole followed) × Appends old new (timeline_svg followed.samples.items)
DrawsTrace OverTime input (Bad number) old new = (first : Followed) × IsStart first × ReplaysTrace Follows first input (replays.Bad number) × Keeps old new
DrawsTrace _ input TooLarge old new = ⊥

-- a trace that couldn't be read leaves what was written as it was; a write that failed may have written a part
abbrev pub LeavesWritten : DrawError → (old new : Option (List ℕ)) → Type 0
LeavesWritten (errors.Trace error) old new = Keeps old new
LeavesWritten (errors.Write error) old new = Unit {0}
