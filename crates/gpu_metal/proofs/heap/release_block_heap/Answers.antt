use Rattle.std.proofs.Common.{rules}
use Rattle.gpu_metal.proofs.heap.release_block_heap.Goals as goal

pub leave_set-requires-clause-set : goal.leave_set-requires-clause-set
leave_set-requires-clause-set g c = search rules

pub leave_set-requires-clause-heap : goal.leave_set-requires-clause-heap
leave_set-requires-clause-heap g c = search rules

pub returns : goal.returns
returns g c = search rules
