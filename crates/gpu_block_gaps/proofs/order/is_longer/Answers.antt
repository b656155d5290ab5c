use Rattle.std.proofs.Common.{sym, arith}
use Rattle.gpu_block_gaps.proofs.Moving.{before_in, none_before, none_tested}
use Rattle.gpu_block_gaps.proofs.order.is_longer.Goals as goal

pub gap-requires : goal.gap-requires
gap-requires c =
    let at = c.requires in
    let order = c.args.thread.now.order in
    (c.sound.ensures.inside c.prev-prev.result (before_in order at.0 c.prev-prev.result at.1 (c.prev-prev.ensures at.0 (let a = at.1 in omega arith) (sym at.2)) c.if-prev-eq0.false)).1

pub returns-then-prev-eq0 : goal.returns-then-prev-eq0
returns-then-prev-eq0 c = λ place within is.
    let order = c.args.thread.now.order in
    let led = c.prev-prev.ensures place (omega arith) is in
    let none = c.if-prev-eq0.true in
    (λ _ k next. absurd (none_before order place c.prev-prev.result (λ l h. (c.sound.ensures.inside l h).0) within led none k next), λ _. none_tested c.prev-prev.result none)
