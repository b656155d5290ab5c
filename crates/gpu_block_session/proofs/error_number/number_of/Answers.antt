use Rattle.std.proofs.Common.{rules}
use Rattle.gpu_block_session.proofs.error_number.number_of.Goals as goal

pub returns-in-HostOutOfMemory : goal.returns-in-HostOutOfMemory
returns-in-HostOutOfMemory c = search rules
