use Rattle.std.proofs.Common.{rules}
use Rattle.gpu_block_pieces.specs.Indexed.{IsGapBeside}
use Rattle.gpu_block_pieces.proofs.Merges.{forgets_self}
use Rattle.gpu_block_pieces.proofs.update.put_joined.Goals as goal

pub put-requires-else-is_gap-clause-fresh : goal.put-requires-else-is_gap-clause-fresh
put-requires-else-is_gap-clause-fresh c = λ rest h.
    c.requires.fresh rest rest h (forgets_self c.args.around.after rest (λ (g : IsGapBeside c.args.around.after). let t = c.is_gap.ensures.1 g in absurd (search (rules, t))))

pub put-requires-else-is_gap-clause-room : goal.put-requires-else-is_gap-clause-room
put-requires-else-is_gap-clause-room c = λ rest h.
    c.requires.room rest rest h (forgets_self c.args.around.after rest (λ (g : IsGapBeside c.args.around.after). let t = c.is_gap.ensures.1 g in absurd (search (rules, t))))

pub put-requires-clause-there : goal.put-requires-clause-there
put-requires-clause-there c = search rules

pub put-requires-clause-fresh : goal.put-requires-clause-fresh
put-requires-clause-fresh c = search rules

pub put-requires-clause-room : goal.put-requires-clause-room
put-requires-clause-room c = search rules

pub returns-then-is_gap-clause-gaps : goal.returns-then-is_gap-clause-gaps
returns-then-is_gap-clause-gaps c = search rules
