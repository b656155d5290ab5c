-- What a session of one block is asked for, in the words of the allocator.
use Rattle.std.specs.Prelude.{Bool, true, false}
use Rattle.gpu_values.specs.declared.allocation_type.AllocationType.{AllocationType}
use Rattle.gpu_values.specs.declared.allocation_type.AllocationType.TheVariants as types
use Rattle.gpu_block_session.specs.declared.block.command.Side.{Side}
use Rattle.gpu_block_session.specs.declared.block.command.Side.TheVariants.{Device, Host}
use Rattle.gpu_block_session.specs.declared.block.command.Kind.{Kind}
use Rattle.gpu_block_session.specs.declared.block.command.Kind.TheVariants.{Linear, NonLinear}

-- whether a side is the one that the host can see
abbrev pub is_host : Side → Bool
is_host Device = false
is_host Host = true

-- the kind as the allocator names it
abbrev pub type_of_kind : Kind → AllocationType
type_of_kind Linear = types.Linear
type_of_kind NonLinear = types.NonLinear
