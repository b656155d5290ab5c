use Rattle.gpu_block_gaps.proofs.Threads.{same_gaps}
use Rattle.std.proofs.Common.{ap, ◌∙◌}
use Rattle.gpu_block_gaps.specs.Records.{gap_of}
use Rattle.gpu_block_gaps.proofs.thread.set_prev.Goals as goal

pub returns-clause-gaps : goal.returns-clause-gaps
returns-clause-gaps c = same_gaps c.args.records.now.items c.args.slot c.index_mut.result.now _ c.requires.slot (ap gap_of c.set_prev.ensures ∙ ap gap_of c.index_mut.ensures.value)
