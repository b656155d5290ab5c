use Rattle.std.proofs.Common.{rules, ◌≡◌, ◌∙◌, ap, ◌<◌, ◌≤◌, length}
use Rattle.gpu_block_session.specs.Words.{texts}
use Rattle.gpu_block_session.specs.Run.{lines_of, longest_trace}
use Rattle.gpu_block_session.proofs.Input.{too_long, all_read}
use Rattle.gpu_block_session.proofs.trace_run.run.Goals as goal

pub returns-then-len-gt-LIMIT : goal.returns-then-len-gt-LIMIT
returns-then-len-gt-LIMIT g c =
    let long : longest_trace < length c.in-Ok.text.items = search rules in
    too_long g.T.Trace.does g.T.Trace.reply_line c.args.start _ c.in-Ok.text.items _ _ _ c.in-Ok.ensures long c.in_ok-write_bad.ensures c.in_ok-flush.ensures.bytes

pub returns : goal.returns
returns g c =
    let short : length c.in-Ok.text.items ≤ longest_trace = search rules in
    let is : texts c.deref-2.result.now ≡ lines_of c.in-Ok.text.items = ap texts c.deref-2.ensures.value ∙ c.in-Ok-lines_in.ensures ∙ ap lines_of c.deref.ensures.value in
    all_read g.T.Trace.does g.T.Trace.reply_line c.args.start _ c.in-Ok.text.items (texts c.deref-2.result.now) _ _ _ _ c.in-Ok.ensures short is c.in_ok-bad.ensures c.in_ok-flush-2.ensures.bytes
