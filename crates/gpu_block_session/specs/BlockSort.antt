-- The sorts of lines of a block trace, as far as their order goes.
use Rattle.gpu_block_session.specs.declared.block.command.Command.{Command}
use Rattle.gpu_block_session.specs.declared.block.command.Command.TheVariants.{Block, Allocate, Free, Report}

pub data BlockSort : Type 0 where
  opens_block : BlockSort
  -- a take or a release
  uses_block : BlockSort
  -- `report`, which device traces have too
  reports : BlockSort

abbrev pub sort_of_command : Command → BlockSort
sort_of_command (Block side min max count granularity) = opens_block
sort_of_command (Allocate key size alignment kind name) = uses_block
sort_of_command (Free key) = uses_block
sort_of_command Report = reports
