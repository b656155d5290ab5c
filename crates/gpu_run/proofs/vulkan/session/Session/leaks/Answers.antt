use Rattle.std.proofs.Common.{refl, subst}
use Rattle.gpu_values.specs.Refusal.{refusal_of}
use Rattle.std.specs.Prelude.{map, string_bytes}
use Rattle.gpu_vulkan.specs.Reply as answers
use Rattle.gpu_vulkan.specs.Step as model
use Rattle.gpu_run.specs.VulkanCommand as commands
use Rattle.gpu_run.specs.VulkanReply as replies
use Rattle.gpu_run.specs.VulkanServed.{SessionValue, IsCommandServed}
use Rattle.gpu_run.proofs.VulkanServing.{told}
use Rattle.gpu_run.proofs.vulkan.session.Session.leaks.Goals as goal

pub returns-in-Ok : goal.returns-in-Ok
returns-in-Ok g c =
    let V = g.D.VulkanDevice in
    let s : SessionValue g.row.D.Denot = record { allocator = c.self.inside.allocator; bound = c.self.inside.bound.entries } in
    let reply = replies.Leaks (map (λ s. string_bytes s) c.in-Ok.texts.items) in
    subst (λ x. IsCommandServed V commands.Leaks reply x x) c.self.view_is (told V model.Leaks (answers.Leaks (map (λ s. string_bytes s) c.in-Ok.texts.items)) commands.Leaks reply s s refl refl refl c.in-Ok.ensures.step (λ a. a))

pub returns-in-Err : goal.returns-in-Err
returns-in-Err g c =
    let V = g.D.VulkanDevice in
    let s : SessionValue g.row.D.Denot = record { allocator = c.self.inside.allocator; bound = c.self.inside.bound.entries } in
    let reply = replies.Error (refusal_of c.in-Err.error) in
    subst (λ x. IsCommandServed V commands.Leaks reply x x) c.self.view_is (told V model.Leaks (answers.Error (refusal_of c.in-Err.error)) commands.Leaks reply s s refl refl refl c.in-Err.ensures.step (λ a. a))
