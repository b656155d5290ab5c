use Rattle.std.proofs.Common.{refl, sym, subst}
use Rattle.gpu_vulkan.specs.Reply as answers
use Rattle.gpu_vulkan.specs.Step as model
use Rattle.gpu_run.specs.VulkanCommand as commands
use Rattle.gpu_run.specs.VulkanReply as replies
use Rattle.gpu_run.specs.VulkanServed.{SessionValue, command_of, IsCommandServed}
use Rattle.gpu_run.proofs.VulkanServing.{told}
use Rattle.gpu_run.proofs.vulkan.session.Session.serve.Goals as goal

pub returns-in-Capacity : goal.returns-in-Capacity
returns-in-Capacity g c =
    let V = g.D.VulkanDevice in
    let s : SessionValue g.row.D.Denot = record { allocator = c.self.inside.allocator; bound = c.self.inside.bound.entries } in
    let reply = replies.Capacity c.capacity.result in
    subst (λ o. IsCommandServed V (command_of o) reply c.args.self.now c.args.self.now) (sym c.in-Capacity.is)
    (subst (λ x. IsCommandServed V commands.Capacity reply x x) c.self.view_is
    (told V model.Capacity (answers.Capacity c.capacity.result) commands.Capacity reply s s refl refl refl c.capacity.ensures.step (λ a. a)))
