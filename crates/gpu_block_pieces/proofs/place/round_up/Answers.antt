use Rattle.std.proofs.Common.{◌≡◌, ◌+◌, ◌-◌, ◌%◌, ◌≤◌, ap, ◌∙◌, arith}
use Rattle.std.specs.Int.{next_multiple_of}
use Rattle.gpu_block_pieces.proofs.Pages.{no_multiple_within, up_within}
use Rattle.gpu_block_pieces.proofs.Powers.{positive_from_test}
use Rattle.gpu_block_pieces.proofs.place.round_up.Goals.{After-remainder-over}
use Rattle.gpu_block_pieces.proofs.place.round_up.Goals as goal

pub returns-then-last-place : goal.returns-then-last-place
returns-then-last-place c =
    let a = c.args in
    no_multiple_within a.place a.last a.step c.remainder.result (positive_from_test a.step c.requires.power) c.requires.order c.remainder.ensures c.if-last-place.true

within : (c : After-remainder-over) → next_multiple_of c.args.place c.args.step ≤ c.args.last
within c =
    let a = c.args in
    up_within a.place a.last a.step c.remainder.result (positive_from_test a.step c.requires.power) c.requires.order c.remainder.ensures c.if-last-place.false

next : (c : After-remainder-over) → c.args.place + c.remainder-over.result ≡ next_multiple_of c.args.place c.args.step
next c = ap (λ over. c.args.place + over) (c.remainder-over.ensures ∙ ap (λ r. (c.args.step - r) % c.args.step) c.remainder-2.ensures)

pub overflow_add-result : goal.overflow_add-result
overflow_add-result c =
    let same = next c in
    let low = within c in
    omega arith

pub returns : goal.returns
returns c = (within c, next c)
