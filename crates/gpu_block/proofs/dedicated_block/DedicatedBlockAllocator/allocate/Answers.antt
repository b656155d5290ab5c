use Rattle.std.proofs.Common.{rules}
use Rattle.gpu_block.proofs.dedicated_block.DedicatedBlockAllocator.allocate.Goals as goal

pub returns-in_err-new-clause-cause : goal.returns-in_err-new-clause-cause
returns-in_err-new-clause-cause c = search rules

pub invariant_of-self : goal.invariant_of-self
invariant_of-self c = search rules

pub returns-clause-took : goal.returns-clause-took
returns-clause-took c = search rules

pub returns-clause-sound : goal.returns-clause-sound
returns-clause-sound c = search rules
