use Rattle.std.proofs.Common.{◌≢◌, ◌∙◌, ap, length}
use Rattle.std.specs.Prelude.{codes}
use Rattle.gpu_block_session.proofs.Canonical.{differ}
use Rattle.gpu_trace_text.proofs.D3D12Meaning.{no_clear, not_five}
use Rattle.gpu_trace_text.proofs.d3d12.resource.clear_of.Goals as goal

pub returns-in_default : goal.returns-in_default
returns-in_default c =
    let other : c.args.word.now ≢ codes "none" = differ c.args.word.now (codes "none") c.eq.result c.eq.ensures c.if-eq.false in
    no_clear c.args.word.now other (rw c.in_default.is at c.in_ok-numbers.ensures)

pub returns : goal.returns
returns c =
    let other : c.args.word.now ≢ codes "none" = differ c.args.word.now (codes "none") c.eq.result c.eq.ensures c.if-eq.false in
    let f = rw c.in-Some.is at c.in_ok-numbers.ensures in
    not_five c.args.word.now c.in-Some.numbers.items other f.0 f.1 (λ five. c.in-None.ensures (ap length c.deref.ensures.value ∙ five))
