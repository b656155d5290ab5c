-- What a configuration line of a device trace says. Each has one spelling: its words, with decimal numbers and no leading zeros.
use Rattle.std.specs.Prelude.{ℕ, ◌<◌, ◌^◌, List, FitsSigned}
use Rattle.std.specs.Int.{w32}
use Rattle.gpu_values.specs.Sizes.{Sizes, only_size, with_largest}
use Rattle.gpu_device.specs.declared.refusal.Refusal.{Refusal}
use Rattle.gpu_device.specs.declared.refusal.Refusal.TheVariants.{Code, Null}
use Rattle.gpu_capture.specs.Words.{refuse_words, sizes_words}
use Rattle.gpu_capture.specs.Vulkan.{heap_words, type_words, granularity_words}
use Rattle.gpu_trace_text.specs.declared.device.setting.Setting.{Setting}
use Rattle.gpu_trace_text.specs.declared.device.setting.Setting.TheVariants.{Heap, MemoryType, Granularity, Sizes as BlockSizes, Refuse}

abbrev pub words : Setting → List (List ℕ)
words (Heap size) = heap_words size
words (MemoryType flags heap) = type_words flags heap
words (Granularity bytes) = granularity_words bytes
words (BlockSizes device host max_device max_host) = sizes_words device host max_device max_host
words (Refuse question refusal) = refuse_words question refusal

abbrev pub FitsRefusal : Refusal → Type 0
FitsRefusal (Code code) = FitsSigned w32 code
FitsRefusal Null = Unit {0}

-- what its numbers may be; questions are counted from 1
abbrev pub SettingFits : Setting → Type 0
SettingFits (Heap size) = size < 2 ^ 64
SettingFits (MemoryType flags heap) = (flags < 2 ^ 32) × (heap < 2 ^ 32)
SettingFits (Granularity bytes) = bytes < 2 ^ 64
SettingFits (BlockSizes device host max_device max_host) = (device < 2 ^ 64) × (host < 2 ^ 64) × (max_device < 2 ^ 64) × (max_host < 2 ^ 64)
SettingFits (Refuse question refusal) = (0 < question) × (question < 2 ^ 64) × FitsRefusal refusal

-- the sizes of blocks that a line stands for: on each side they begin at one size and double up to another
abbrev pub sizes_of : (device host max_device max_host : ℕ) → Sizes
sizes_of device host max_device max_host = record { device = with_largest (only_size device) max_device; host = with_largest (only_size host) max_host }

-- block sizes and refusals are lines of each sort of traces over a device
abbrev pub IsShared : Setting → Type 0
IsShared (Heap size) = ⊥
IsShared (MemoryType flags heap) = ⊥
IsShared (Granularity bytes) = ⊥
IsShared (BlockSizes device host max_device max_host) = Unit {0}
IsShared (Refuse question refusal) = Unit {0}

-- it is one of these, and its numbers are what they may be
abbrev pub FitsShared : Setting → Type 0
FitsShared s = IsShared s × SettingFits s
