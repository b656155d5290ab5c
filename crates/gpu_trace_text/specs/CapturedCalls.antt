-- What the reader makes of the calls and the device of a Vulkan allocator's capture.
use Rattle.std.specs.Prelude.{◌≡◌, ◌<◌, ◌^◌, List, [], ◌∷◌, ◌++◌, map, All}
use Rattle.gpu_device.specs.declared.vulkan.types.MemoryTypeInfo.{MemoryTypeInfo}
use Rattle.gpu_capture.specs.declared.device.BlockSizes.{BlockSizes}
use Rattle.gpu_capture.specs.declared.device.VulkanDevice.{VulkanDevice}
use Rattle.gpu_capture.specs.declared.request.Request.TheVariants.{Vulkan}
use Rattle.gpu_capture.specs.History as calls
use Rattle.gpu_capture.specs.History.{Call, RefusedQuestion}
use Rattle.gpu_run.specs.declared.command.Command.TheVariants.{Free, SetBudget}
use Rattle.gpu_trace_text.specs.Command.{FitsBudget}
use Rattle.gpu_trace_text.specs.Captured.{FitsCaptured, IsRequest, IsAlloc, IsMove, IsRename}
use Rattle.gpu_trace_text.specs.CapturedTrace.{FitsAnswer}
use Rattle.gpu_trace_text.specs.Line.{Line}
use Rattle.gpu_trace_text.specs.declared.device.setting.Setting.{Setting}
use Rattle.gpu_trace_text.specs.declared.device.setting.Setting.TheVariants.{Heap, MemoryType, Granularity, Sizes, Refuse}
use Rattle.gpu_trace_text.specs.declared.dialect.Line.TheVariants as lines

-- what a call's numbers and answers may be
abbrev pub FitsCall : Call → Type 0
FitsCall (calls.Allocated number (Vulkan r) answers) = (number < 2 ^ 64) × FitsCaptured r × All FitsAnswer answers
FitsCall (calls.Moved from to (Vulkan r)) = (from < 2 ^ 64) × (to < 2 ^ 64) × FitsCaptured r
FitsCall (calls.Freed number) = number < 2 ^ 64
FitsCall (calls.Renamed number name) = number < 2 ^ 64
FitsCall (calls.Bounded memory_type budget) = (memory_type < 2 ^ 64) × FitsBudget budget
FitsCall c = ⊥

-- the line asks for the same
abbrev pub IsCall : Call → Line → Type 0
IsCall (calls.Allocated number (Vulkan r) answers) l = IsAlloc number (IsRequest r) l
IsCall (calls.Moved from to (Vulkan r)) l = IsMove from to (IsRequest r) l
IsCall (calls.Freed number) l = l ≡ lines.Asks (Free number)
IsCall (calls.Renamed number name) l = IsRename number name l
IsCall (calls.Bounded memory_type budget) l = l ≡ lines.Asks (SetBudget memory_type budget)
IsCall c l = ⊥

-- a question that the driver refused
abbrev pub refuse_setting : RefusedQuestion → Setting
refuse_setting q = Refuse q.question q.refusal

-- a memory type's flags and heap
abbrev pub type_setting : MemoryTypeInfo → Setting
type_setting t = MemoryType t.property_flags.0 t.heap_index

-- heaps and memory types in their order, the size of a page, and block sizes
abbrev pub device_settings : VulkanDevice → BlockSizes → List Setting
device_settings d sizes =
    map Heap d.heaps.now
    ++ (map type_setting d.types.now ++ Granularity d.granularity ∷ Sizes sizes.device sizes.host sizes.max_device sizes.max_host ∷ [])
