use Rattle.std.proofs.Common.{◌≡◌, ◌<◌, ◌+◌, suc, get_or, ap, sym, ◌∙◌, subst, arith}
use Rattle.gpu_block_gaps.specs.Thread.{gap_in}
use Rattle.gpu_block_gaps.specs.declared.index.Gap.{Gap}
use Rattle.gpu_block_gaps.proofs.Moving.{behind_within, none_behind, less_tested, none_tested}
use Rattle.gpu_block_gaps.proofs.order.is_shorter.Goals as goal

pub gap-requires : goal.gap-requires
gap-requires c =
    let at = c.requires in
    let order = c.args.thread.now.order in
    let led = c.next-next.ensures (suc at.0) (let a = at.1 in omega arith) (sym at.2) in
    let within = behind_within order at.0 c.next-next.result led c.if-next-eq0.false in
    (c.sound.ensures.inside c.next-next.result (suc at.0, within, sym led)).1

pub returns-then-next-eq0 : goal.returns-then-next-eq0
returns-then-next-eq0 c = λ place within is.
    let order = c.args.thread.now.order in
    let led = c.next-next.ensures (suc place) (omega arith) is in
    let none = c.if-next-eq0.true in
    (λ _ lt. absurd (none_behind order place c.next-next.result (λ l h. (c.sound.ensures.inside l h).0) led none lt), λ _. none_tested c.next-next.result none)

pub returns-else-next-eq0 : goal.returns-else-next-eq0
returns-else-next-eq0 c = λ place within is.
    let order = c.args.thread.now.order in
    let gaps = c.args.thread.now.gaps in
    let led = c.next-next.ensures (suc place) (omega arith) is in
    let lt = behind_within order place c.next-next.result led c.if-next-eq0.false in
    let e : suc place ≡ place + 1 = omega arith in
    let there : c.gap.result.length ≡ (gap_in gaps (get_or order (place + 1) 0)).length = ap (λ (g : Gap). g.length) (c.gap.ensures ∙ ap (gap_in gaps) (led ∙ ap (λ k. get_or order k 0) e)) in (
      λ less _. subst (λ n. c.args.size < n) there ((less_tested c.args.size c.gap.result.length).0 less),
      λ fits. (less_tested c.args.size c.gap.result.length).1 (subst (λ n. c.args.size < n) (sym there) (fits (omega arith))),
    )
