use Rattle.std.proofs.Common.{rules}
use Rattle.gpu_c.proofs.virtual_block.VirtualBlock.allocate.Goals as goal

pub returns-clause-allocated : goal.returns-clause-allocated
returns-clause-allocated c = search rules

pub returns-clause-host_out_of_memory : goal.returns-clause-host_out_of_memory
returns-clause-host_out_of_memory c = search rules

pub returns-clause-out_of_memory : goal.returns-clause-out_of_memory
returns-clause-out_of_memory c = search rules
