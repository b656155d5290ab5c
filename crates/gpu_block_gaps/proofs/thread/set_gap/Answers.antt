use Rattle.std.proofs.Common.{set, map, ap, ◌∙◌}
use Rattle.std.proofs.lemmas.List.{map-set}
use Rattle.gpu_block_gaps.specs.declared.thread.Record.{Record}
use Rattle.gpu_block_gaps.specs.Records.{gap_of}
use Rattle.gpu_block_gaps.proofs.thread.set_gap.Goals as goal

pub returns-clause-gaps : goal.returns-clause-gaps
returns-clause-gaps c =
    map-set gap_of c.args.records.now.items c.args.slot _ ∙ ap (λ (r : Record). set (map gap_of c.args.records.now.items) c.args.slot r.gap) c.set_gap.ensures
