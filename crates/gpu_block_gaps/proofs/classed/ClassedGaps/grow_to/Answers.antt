use Rattle.std.proofs.Common.{rules}
use Rattle.gpu_block_gaps.proofs.classed.ClassedGaps.grow_to.Goals as goal

pub returns-then-digits_for-self-clause-room : goal.returns-then-digits_for-self-clause-room
returns-then-digits_for-self-clause-room c = search rules

pub returns-clause-room : goal.returns-clause-room
returns-clause-room c = search rules
