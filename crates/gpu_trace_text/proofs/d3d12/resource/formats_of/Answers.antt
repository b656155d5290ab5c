use Rattle.std.proofs.Common.{◌≢◌, ◌∙◌, arith}
use Rattle.std.specs.Prelude.{codes}
use Rattle.gpu_block_session.proofs.Canonical.{differ}
use Rattle.gpu_trace_text.proofs.D3D12Meaning.{no_formats, too_many, formats_spelled}
use Rattle.gpu_trace_text.proofs.d3d12.resource.formats_of.Goals as goal

pub returns-in_default : goal.returns-in_default
returns-in_default c =
    let other : c.args.word.now ≢ codes "none" = differ c.args.word.now (codes "none") c.eq.result c.eq.ensures c.if-eq.false in
    no_formats c.args.word.now other (rw c.in_default.is at c.in_ok-numbers.ensures)

pub returns-then-len-gt16 : goal.returns-then-len-gt16
returns-then-len-gt16 c =
    let other : c.args.word.now ≢ codes "none" = differ c.args.word.now (codes "none") c.eq.result c.eq.ensures c.if-eq.false in
    let f = rw c.in-Some.is at c.in_ok-numbers.ensures in
    too_many c.args.word.now c.in-Some.numbers.items other f.0 f.1 (omega (arith, c.if-len-gt16.true, c.len.ensures))

pub returns : goal.returns
returns c =
    let f = rw c.in-Some.is at c.in_ok-numbers.ensures in
    formats_spelled c.args.word.now c.in-Some.numbers.items c.in_ok-formats.formats.items f.0 f.1 (omega (arith, c.if-len-gt16.false, c.len.ensures)) (c.in_ok-formats.ensures ∙ c.deref.ensures.value)
