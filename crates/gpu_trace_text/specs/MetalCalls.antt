-- What the reader makes of the calls and the device of a Metal allocator's capture.
use Rattle.std.specs.Prelude.{◌≡◌, ◌<◌, ◌^◌, List, [], ◌∷◌, All, Bool}
use Rattle.gpu_capture.specs.declared.device.BlockSizes.{BlockSizes}
use Rattle.gpu_capture.specs.declared.request.Request.TheVariants.{Metal}
use Rattle.gpu_capture.specs.History as calls
use Rattle.gpu_capture.specs.History.{Call, RefusedQuestion}
use Rattle.gpu_run.specs.declared.command.Command.TheVariants.{Free, SetBudget, Other}
use Rattle.gpu_run.specs.declared.metal.command.Other.TheVariants.{Commit}
use Rattle.gpu_trace_text.specs.Command.{FitsBudget}
use Rattle.gpu_trace_text.specs.CapturedTrace.{FitsAnswer}
use Rattle.gpu_trace_text.specs.Captured.{IsAlloc, IsMove}
use Rattle.gpu_trace_text.specs.MetalCaptured.{FitsCaptured, IsRequest}
use Rattle.gpu_trace_text.specs.MetalLine.{Line}
use Rattle.gpu_trace_text.specs.declared.metal.setting.Setting.{Setting}
use Rattle.gpu_trace_text.specs.declared.metal.setting.Setting.TheVariants.{Residency, Shared}
use Rattle.gpu_trace_text.specs.declared.device.setting.Setting.TheVariants.{Sizes, Refuse}
use Rattle.gpu_trace_text.specs.declared.dialect.Line.TheVariants as lines

-- what a call's numbers and answers may be; a Metal trace has no new names
abbrev pub FitsCall : Call → Type 0
FitsCall (calls.Allocated number (Metal r) answers) = (number < 2 ^ 64) × FitsCaptured r × All FitsAnswer answers
FitsCall (calls.Moved from to (Metal r)) = (from < 2 ^ 64) × (to < 2 ^ 64) × FitsCaptured r
FitsCall (calls.Freed number) = number < 2 ^ 64
FitsCall (calls.Bounded memory_type budget) = (memory_type < 2 ^ 64) × FitsBudget budget
FitsCall calls.SetCommitted = Unit {0}
FitsCall c = ⊥

-- the line asks for the same
abbrev pub IsCall : Call → Line → Type 0
IsCall (calls.Allocated number (Metal r) answers) l = IsAlloc number (IsRequest r) l
IsCall (calls.Moved from to (Metal r)) l = IsMove from to (IsRequest r) l
IsCall (calls.Freed number) l = l ≡ lines.Asks (Free number)
IsCall (calls.Bounded memory_type budget) l = l ≡ lines.Asks (SetBudget memory_type budget)
IsCall calls.SetCommitted l = l ≡ lines.Asks (Other Commit)
IsCall c l = ⊥

-- a question that the device refused
abbrev pub refuse_setting : RefusedQuestion → Setting
refuse_setting q = Shared (Refuse q.question q.refusal)

-- whether there is a residency set, and block sizes
abbrev pub device_settings : (has_set : Bool) → BlockSizes → List Setting
device_settings has_set sizes = Residency has_set ∷ Shared (Sizes sizes.device sizes.host sizes.max_device sizes.max_host) ∷ []
