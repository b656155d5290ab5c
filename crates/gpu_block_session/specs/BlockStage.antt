-- A block trace from its first command on: which command may come, its reply, and the stage that it leaves.
use Rattle.std.specs.Prelude.{◌≡◌, ℕ, string_bytes}
use Rattle.gpu_block_pieces.specs.Request.{request}
use Rattle.gpu_values.specs.Sizes.{Sizes, only_size, with_largest, shared_block_size}
use Rattle.gpu_block_session.specs.declared.block.command.Side.{Side}
use Rattle.gpu_block_session.specs.declared.block.command.Side.TheVariants.{Device, Host}
use Rattle.gpu_block_session.specs.declared.block.command.Command.{Command}
use Rattle.gpu_block_session.specs.declared.block.command.Command.TheVariants.{Block, Allocate, Free, Report}
use Rattle.gpu_block_session.specs.declared.error_number.ErrorNumber.TheVariants.{E10}
use Rattle.gpu_block_session.specs.declared.block.reply.Reply.{Reply}
use Rattle.gpu_block_session.specs.declared.block.reply.Reply.TheVariants as replies
use Rattle.gpu_block_session.specs.BlockCommand.{is_host, type_of_kind}
use Rattle.gpu_block_session.specs.BlockSort.{BlockSort, opens_block, uses_block, reports}
use Rattle.gpu_block_session.specs.BlockSession.{unused, Allocating, Freeing, Reporting}
use Rattle.gpu_block_session.specs.declared.block_stage.BlockStage.{BlockStage}
use Rattle.gpu_block_session.specs.declared.block_stage.BlockStage.TheVariants.{Before, Open, Closed}

-- blocks of `min` bytes that double up to `max` on one side
abbrev pub sizes_of : Side → ℕ → ℕ → Sizes
sizes_of Device min max = record { device = with_largest (only_size min) max; host = only_size min }
sizes_of Host min max = record { device = only_size min; host = with_largest (only_size min) max }

-- the size of the block that a trace asks for
abbrev pub block_size : Side → ℕ → ℕ → ℕ → ℕ
block_size side min max count = shared_block_size (sizes_of side min max) (is_host side) count

-- the block comes first and once; where host memory refused it, nothing follows
abbrev pub Admits : BlockStage → BlockSort → Type 0
Admits Before opens_block = Unit {0}
Admits (Open s) uses_block = Unit {0}
Admits (Open s) reports = Unit {0}
Admits _ _ = ⊥

-- the block is made, or host memory is refused
abbrev pub Opening : ℕ → ℕ → Reply → BlockStage → Type 0
Opening size granularity (replies.Block n) new = (n ≡ size) × (new ≡ Open (unused size granularity))
Opening size granularity (replies.Refused number) new = (number ≡ E10) × (new ≡ Closed)
Opening size granularity (replies.Allocated offset chunk) new = ⊥
Opening size granularity replies.Freed new = ⊥
Opening size granularity replies.Busy new = ⊥
Opening size granularity replies.Unbound new = ⊥
Opening size granularity (replies.Report report) new = ⊥

abbrev pub Step : BlockStage → Command → Reply → BlockStage → Type 0
Step Before (Block side min max count granularity) r new = Opening (block_size side min max count) granularity r new
Step (Open s) (Allocate key size alignment kind name) r (Open t) = Allocating s key (request size alignment (type_of_kind kind) (string_bytes name)) r t
Step (Open s) (Free key) r (Open t) = Freeing s key r t
Step (Open s) Report r (Open t) = Reporting s r × (t ≡ s)
Step old c r new = ⊥
