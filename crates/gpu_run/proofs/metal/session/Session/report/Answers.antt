use Rattle.std.proofs.Common.{refl, subst}
use Rattle.gpu_values.specs.Refusal.{refusal_of}
use Rattle.gpu_values.specs.Report.{report_of}
use Rattle.gpu_pool.specs.Reply as answers
use Rattle.gpu_metal.specs.Step as model
use Rattle.gpu_run.specs.MetalCommand as commands
use Rattle.gpu_run.specs.MetalReply as replies
use Rattle.gpu_run.specs.MetalServed.{SessionValue, IsAnswered}
use Rattle.gpu_run.proofs.MetalServing.{told}
use Rattle.gpu_run.proofs.metal.session.Session.report.Goals as goal

pub returns-in-Ok : goal.returns-in-Ok
returns-in-Ok g c =
    let V = g.D.MetalDevice in
    let s : SessionValue g.row.D.Denot = record { allocator = c.self.inside.allocator; bound = c.self.inside.bound.entries } in
    subst (λ x. IsAnswered V commands.Report (replies.Report (report_of c.in-Ok.report)) x x) c.self.view_is
    (told V g.met.D.MetalDevice.refused_is model.Report (answers.Report (report_of c.in-Ok.report)) (replies.Report (report_of c.in-Ok.report)) commands.Report s s refl refl (refl, refl) c.in-Ok.ensures.step (λ a. a))

pub returns-in-Err : goal.returns-in-Err
returns-in-Err g c =
    let V = g.D.MetalDevice in
    let s : SessionValue g.row.D.Denot = record { allocator = c.self.inside.allocator; bound = c.self.inside.bound.entries } in
    subst (λ x. IsAnswered V commands.Report (replies.Error (refusal_of c.in-Err.error)) x x) c.self.view_is
    (told V g.met.D.MetalDevice.refused_is model.Report (answers.Error (refusal_of c.in-Err.error)) (replies.Error (refusal_of c.in-Err.error)) commands.Report s s refl refl (refl, refl) c.in-Err.ensures.step (λ a. a))
