use Rattle.std.proofs.Common.{◌≡◌, ◌∙◌, ap, subst, ℕ, Option, Some}
use Rattle.gpu_values.specs.Refusal.{refusal_of}
use Rattle.gpu_vulkan.specs.Allocate.{next_type}
use Rattle.gpu_machine.specs.VulkanBegin.{Follows}
use Rattle.gpu_machine.specs.VulkanState.{State}
use Rattle.gpu_machine.proofs.vulkan.machine.Machine.follow.Goals as goal

pub returns-in-Some-clause-follows : goal.returns-in-Some-clause-follows
returns-in-Some-clause-follows g c =
    let old = c.args.self.now in
    let d = c.args.desc.now in
    let r = refusal_of c.args.error in
    let next : Some c.in-Some.next ≡ next_type old.setup d r = c.in-Some.ensures.next ∙ ap (λ (s : State g.row.H.Denot). next_type s.setup d r) c.self.view_is in
    subst (λ (o : Option ℕ). Follows old d o r c.attempt_for_location.result c.attempt_for_location.new.self) next c.attempt_for_location.ensures.tries
