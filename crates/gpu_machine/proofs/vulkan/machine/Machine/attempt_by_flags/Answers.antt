use Rattle.std.proofs.Common.{sym, subst, Bool, false, Some}
use Rattle.gpu_machine.specs.VulkanAttempt.{Attempts}
use Rattle.gpu_machine.specs.VulkanByFlags.{AttemptsIf}
use Rattle.gpu_machine.specs.VulkanDescription.{Description, description_of}
use Rattle.gpu_machine.specs.declared.vulkan.smaller_blocks.Portion.TheVariants as portion
use Rattle.gpu_machine.proofs.vulkan.machine.Machine.attempt_by_flags.Goals as goal

pub returns-clause-attempts : goal.returns-clause-attempts
returns-clause-attempts g c =
    let a = c.args in
    let p = a.preference.now in
    let k = description_of a.desc.now in
    subst (λ (b : Bool). AttemptsIf p b a.self.now a.index k c.attempt.result c.attempt.new.self) (sym c.if-preference.false)
    (subst (λ (d : Description). Attempts a.self.now a.index k (record { description = d; is_second = false; preference = Some p; portion = portion.Whole }) c.attempt.result c.attempt.new.self)
    c.requires.left c.attempt.ensures.attempts)
