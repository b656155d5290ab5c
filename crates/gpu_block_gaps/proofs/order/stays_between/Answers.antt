use Rattle.std.proofs.Common.{◌≡◌, get_or, ap, ◌∙◌, arith}
use Rattle.gpu_block_gaps.specs.Thread.{gap_in}
use Rattle.gpu_block_gaps.proofs.Moving.{longer_here, shorter_here}
use Rattle.gpu_block_gaps.proofs.order.stays_between.Goals as goal

pub returns-then-size-other : goal.returns-then-size-other
returns-then-size-other c = λ place within is.
    let t = c.args.thread.now in
    let at : c.args.size ≡ (gap_in t.gaps (get_or t.order place 0)).length = c.requires.size ∙ ap (λ s. (gap_in t.gaps s).length) is in
    let tested = c.is_shorter.ensures place within is in
    (λ true. (longer_here t c.requires.ordered place c.args.size c.args.other within at c.if-size-other.true, tested.0 true), λ both. tested.1 both.1)

pub returns-else-size-other : goal.returns-else-size-other
returns-else-size-other c = λ place within is.
    let t = c.args.thread.now in
    let at : c.args.size ≡ (gap_in t.gaps (get_or t.order place 0)).length = c.requires.size ∙ ap (λ s. (gap_in t.gaps s).length) is in
    let tested = c.is_longer.ensures place within is in
    let not_more = c.if-size-other.false in
    let differs = c.requires.other in
    (λ true. (tested.0 true, shorter_here t c.requires.ordered place c.args.size c.args.other at (omega arith)), λ both. tested.1 both.0)
