use Rattle.std.proofs.Common.{set, map, ap, ◌∙◌}
use Rattle.std.proofs.lemmas.List.{map-set}
use Rattle.gpu_block_gaps.specs.declared.thread.Record.{Record}
use Rattle.gpu_block_gaps.specs.Records.{gap_of}
use Rattle.gpu_block_gaps.proofs.thread.link.Goals as goal

pub returns-clause-gaps : goal.returns-clause-gaps
returns-clause-gaps c =
    c.set_prev.ensures.gaps ∙ c.set_next.ensures.gaps ∙ map-set gap_of c.args.records.now.items c.args.slot c.new.result
    ∙ ap (λ (r : Record). set (map gap_of c.args.records.now.items) c.args.slot r.gap) c.new.ensures
