-- The sorts of lines, as far as their order in a trace goes.
use Rattle.gpu_block_session.specs.BlockSort.{BlockSort, sort_of_command}
use Rattle.gpu_trace_text.specs.declared.device.setting.Setting as settings
use Rattle.gpu_trace_text.specs.declared.device.setting.Setting.TheVariants.{Heap, MemoryType, Granularity, Sizes, Refuse}
use Rattle.gpu_trace_text.specs.Line.{Line}
use Rattle.gpu_trace_text.specs.declared.dialect.Line.TheVariants as lines

pub data Sort : Type 0 where
  -- empty, or a remark
  skips : Sort
  -- a command of a block trace
  of_block : BlockSort → Sort
  -- a heap, a memory type or a refusal
  describes : Sort
  sets_page : Sort
  sets_sizes : Sort
  makes : Sort
  asks : Sort
  destroys : Sort
  says_nothing : Sort

abbrev pub sort_of_setting : settings.Setting → Sort
sort_of_setting (Heap size) = describes
sort_of_setting (MemoryType flags heap) = describes
sort_of_setting (Granularity bytes) = sets_page
sort_of_setting (Sizes device host max_device max_host) = sets_sizes
sort_of_setting (Refuse question refusal) = describes

abbrev pub sort_of : Line → Sort
sort_of lines.Blank = skips
sort_of (lines.Other c) = of_block (sort_of_command c)
sort_of (lines.Configures s) = sort_of_setting s
sort_of lines.New = makes
sort_of (lines.Asks c) = asks
sort_of lines.Destroy = destroys
sort_of lines.Bad = says_nothing
