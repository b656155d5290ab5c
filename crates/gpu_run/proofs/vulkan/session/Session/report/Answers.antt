use Rattle.std.proofs.Common.{refl, subst}
use Rattle.gpu_values.specs.Refusal.{refusal_of}
use Rattle.gpu_values.specs.Report.{report_of}
use Rattle.gpu_vulkan.specs.Reply as answers
use Rattle.gpu_vulkan.specs.Step as model
use Rattle.gpu_run.specs.VulkanCommand as commands
use Rattle.gpu_run.specs.VulkanReply as replies
use Rattle.gpu_run.specs.VulkanServed.{SessionValue, IsCommandServed}
use Rattle.gpu_run.proofs.VulkanServing.{told}
use Rattle.gpu_run.proofs.vulkan.session.Session.report.Goals as goal

pub returns-in-Ok : goal.returns-in-Ok
returns-in-Ok g c =
    let V = g.D.VulkanDevice in
    let s : SessionValue g.row.D.Denot = record { allocator = c.self.inside.allocator; bound = c.self.inside.bound.entries } in
    let reply = replies.Report (report_of c.in-Ok.report) in
    subst (λ x. IsCommandServed V commands.Report reply x x) c.self.view_is (told V model.Report (answers.Report (report_of c.in-Ok.report)) commands.Report reply s s refl refl refl c.in-Ok.ensures.step (λ a. a))

pub returns-in-Err : goal.returns-in-Err
returns-in-Err g c =
    let V = g.D.VulkanDevice in
    let s : SessionValue g.row.D.Denot = record { allocator = c.self.inside.allocator; bound = c.self.inside.bound.entries } in
    let reply = replies.Error (refusal_of c.in-Err.error) in
    subst (λ x. IsCommandServed V commands.Report reply x x) c.self.view_is (told V model.Report (answers.Error (refusal_of c.in-Err.error)) commands.Report reply s s refl refl refl c.in-Err.ensures.step (λ a. a))
