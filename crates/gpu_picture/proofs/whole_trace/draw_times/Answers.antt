use Rattle.std.proofs.Common.{◌≡◌, subst}
use Rattle.gpu_block_session.specs.declared.replay.Replayed.TheVariants.{Whole, Bad}
use Rattle.gpu_picture.proofs.Started.{FollowsKnown, bad_drawn, whole_drawn}
use Rattle.gpu_picture.proofs.whole_trace.draw_times.Goals as goal

pub returns-in-Ok-Bad-clause-draws : goal.returns-in-Ok-Bad-clause-draws
returns-in-Ok-Bad-clause-draws g c =
    let known = g.R.Read.remaining c.args.reader.now in
    let is : c.in-Ok-Bad.field-0 ≡ Bad c.in-Ok-Bad.number = cc in
    bad_drawn known c.in-Ok-Bad.number (g.W.Write.contents c.args.writer.now) (subst (λ r. FollowsKnown known r) is c.in-Ok-Bad.ensures)

pub returns-in-Ok-clause-draws : goal.returns-in-Ok-clause-draws
returns-in-Ok-clause-draws g c =
    let known = g.R.Read.remaining c.args.reader.now in
    let is : c.in-Ok-Whole.field-0 ≡ Whole c.in-Ok-Whole.followed = cc in
    whole_drawn known c.in-Ok-Whole.followed (g.W.Write.contents c.args.writer.now) (g.W.Write.contents c.draw_over_time-written.new.writer)
    (subst (λ r. FollowsKnown known r) is c.in-Ok-Whole.ensures) c.in-Ok.ensures
