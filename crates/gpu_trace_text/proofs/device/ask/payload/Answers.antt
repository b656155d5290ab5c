use Rattle.std.proofs.Common.{◌≡◌, ◌∙◌, ap, sym, subst, IsTrue}
use Rattle.gpu_trace_text.specs.Ask.{IsPayload}
use Rattle.gpu_trace_text.specs.Hex.{hex}
use Rattle.gpu_trace_text.proofs.Hexed.{one_spelling}
use Rattle.gpu_trace_text.proofs.device.ask.payload.Goals as goal

pub returns-else-may_be_written : goal.returns-else-may_be_written
returns-else-may_be_written c = λ bs p is.
    let f = rw c.in-Some.is at c.in_ok-bytes.ensures in
    let word : c.as_bytes.result.now ≡ c.args.word.now = c.as_bytes.ensures.value in
    let same : c.deref.result.now ≡ bs = one_spelling c.deref.result.now bs c.may_be_written.ensures.bytes p.are_bytes (ap hex c.deref.ensures.value ∙ (sym f ∙ (word ∙ is))) in
    let fits : IsTrue c.may_be_written.result = c.may_be_written.ensures.test.1 (subst IsPayload (sym same) p) in
    cc
