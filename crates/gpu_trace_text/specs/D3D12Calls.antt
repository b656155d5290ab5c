-- What the reader makes of the calls and the device of a DirectX 12 allocator's capture.
use Rattle.std.specs.Prelude.{◌≡◌, ℕ, ◌<◌, ◌^◌, List, [], ◌∷◌, All, Ok, None, string_bytes}
use Rattle.gpu_device.specs.declared.d3d12.types.ResourceDimension.TheVariants as dimensions
use Rattle.gpu_device.specs.declared.d3d12.types.ResourceHeapTier.{ResourceHeapTier}
use Rattle.gpu_d3d12.specs.Heaps.{heap_properties}
use Rattle.gpu_d3d12.specs.declared.question.ResourceStateOrBarrierLayout.TheVariants.{ResourceState}
use Rattle.gpu_capture.specs.declared.device.BlockSizes.{BlockSizes}
use Rattle.gpu_capture.specs.declared.request.D3D12Request.{D3D12Request}
use Rattle.gpu_capture.specs.declared.request.Request.TheVariants.{D3D12}
use Rattle.gpu_capture.specs.D3D12.{whole_units}
use Rattle.gpu_capture.specs.History as calls
use Rattle.gpu_capture.specs.History.{Call, RefusedQuestion}
use Rattle.gpu_capture.specs.Line.{name_word}
use Rattle.gpu_run.specs.declared.command.Command.TheVariants.{Free, SetBudget, Other}
use Rattle.gpu_run.specs.declared.d3d12.command.Other.TheVariants.{Create, Release}
use Rattle.gpu_run.specs.declared.d3d12.command.Memory.TheVariants.{Own}
use Rattle.gpu_run.specs.declared.d3d12.command.WantedResource.{WantedResource}
use Rattle.gpu_trace_text.specs.Command.{FitsBudget}
use Rattle.gpu_trace_text.specs.CapturedTrace.{FitsAnswer}
use Rattle.gpu_trace_text.specs.Captured.{IsAlloc, IsMove}
use Rattle.gpu_trace_text.specs.D3D12Captured.{FitsCaptured, IsRequest, IsRename, category_of}
use Rattle.gpu_trace_text.specs.D3D12Line.{Line}
use Rattle.gpu_trace_text.specs.D3D12Resource.{plain_desc}
use Rattle.gpu_trace_text.specs.declared.d3d12.setting.Setting.{Setting}
use Rattle.gpu_trace_text.specs.declared.d3d12.setting.Setting.TheVariants.{Tier, Shared}
use Rattle.gpu_trace_text.specs.declared.device.setting.Setting.TheVariants.{Sizes, Refuse}
use Rattle.gpu_trace_text.specs.declared.dialect.Line.TheVariants as lines

-- a committed resource is made, as a buffer of whole units of 65,536 bytes, where 64 bits hold them, under a name as a trace has it
pub record IsCommitted (r : D3D12Request) (w : WantedResource) : Type 0 where
  pub memory : w.memory ≡ Own (heap_properties r.location) (record { 0 = 0 })
  pub location : w.location ≡ r.location
  pub category : w.category ≡ category_of r.category
  pub desc : w.desc ≡ plain_desc dimensions.Buffer (whole_units r.size) 1 1 0
  pub initial : w.initial ≡ ResourceState 0
  pub formats : w.castable_formats.items ≡ []
  pub clear : w.clear_value ≡ None
  pub name : string_bytes w.name ≡ name_word r.name.now

-- the line makes that committed resource under its number
abbrev pub IsCreate : (number : ℕ) → D3D12Request → Line → Type 0
IsCreate number r (lines.Asks (Other (Create key w))) = (key ≡ number) × IsCommitted r w
IsCreate number r _ = ⊥

-- what a call's numbers and answers may be
abbrev pub FitsCall : Call → Type 0
FitsCall (calls.Allocated number (D3D12 r) answers) = (number < 2 ^ 64) × FitsCaptured r × All FitsAnswer answers
FitsCall (calls.Moved from to (D3D12 r)) = (from < 2 ^ 64) × (to < 2 ^ 64) × FitsCaptured r
FitsCall (calls.Committed number r answers) = (number < 2 ^ 64) × (r.size < 2 ^ 64) × All FitsAnswer answers
FitsCall (calls.Freed number) = number < 2 ^ 64
FitsCall (calls.Released number) = number < 2 ^ 64
FitsCall (calls.Renamed number name) = number < 2 ^ 64
FitsCall (calls.Bounded memory_type budget) = (memory_type < 2 ^ 64) × FitsBudget budget
FitsCall c = ⊥

-- the line asks for the same
abbrev pub IsCall : Call → Line → Type 0
IsCall (calls.Allocated number (D3D12 r) answers) l = IsAlloc number (IsRequest r) l
IsCall (calls.Moved from to (D3D12 r)) l = IsMove from to (IsRequest r) l
IsCall (calls.Committed number r answers) l = IsCreate number r l
IsCall (calls.Freed number) l = l ≡ lines.Asks (Free number)
IsCall (calls.Released number) l = l ≡ lines.Asks (Other (Release number))
IsCall (calls.Renamed number name) l = IsRename number name l
IsCall (calls.Bounded memory_type budget) l = l ≡ lines.Asks (SetBudget memory_type budget)
IsCall c l = ⊥

-- a question that the device refused
abbrev pub refuse_setting : RefusedQuestion → Setting
refuse_setting q = Shared (Refuse q.question q.refusal)

-- the heap tier, and block sizes
abbrev pub device_settings : ResourceHeapTier → BlockSizes → List Setting
device_settings tier sizes = Tier (Ok tier) ∷ Shared (Sizes sizes.device sizes.host sizes.max_device sizes.max_host) ∷ []
