use Rattle.std.proofs.Common.{◌≡◌, ◌∙◌, sym, ap, subst, arith, ℕ, Bool, true, List, Option, Some, None}
use Rattle.gpu_device.specs.declared.vulkan.types.MemoryTypeInfo.{MemoryTypeInfo}
use Rattle.gpu_pool.specs.declared.requests.Awaited.{Awaited}
use Rattle.gpu_vulkan.specs.Allocate.{is_valid}
use Rattle.gpu_vulkan.specs.Choice.{best_type}
use Rattle.gpu_machine.specs.VulkanBegin.{BeginsIn, BeginsBy, BeginsAt}
use Rattle.gpu_machine.specs.VulkanState.{State}
use Rattle.gpu_machine.proofs.VulkanBeginning.{is_closed}
use Rattle.gpu_machine.proofs.vulkan.machine.Machine.begin.Goals as goal

pub returns-in-Some-clause-begins : goal.returns-in-Some-clause-begins
returns-in-Some-clause-begins g c =
    let old = c.args.self.now in
    let d = c.args.desc.now in
    let result = c.make_attempts.result in
    let new = c.make_attempts.new.self in
    let bits = d.requirements.memory_type_bits in
    let closed : old.requests.awaited ≡ None = is_closed old.requests.awaited c.awaits_answer.result c.if-awaits_answer.false c.awaits_answer.ensures in
    let valid : is_valid d ≡ true = grind (arith, c.if-desc-eq0.false, c.is_power_of_two.ensures, c.if-not-is_power_of_two.false) in
    let types : c.memory_types.result.now ≡ old.setup.properties.types = c.memory_types.ensures ∙ ap (λ (s : State g.row.H.Denot). s.setup.properties.types) c.self.view_is in
    let best : Some c.in-Some.index ≡ best_type old.setup.properties.types bits d.location = c.in-Some.ensures.best ∙ ap (λ (ts : List MemoryTypeInfo). best_type ts bits d.location) types in
    subst (λ (o : Option Awaited). BeginsIn o old d result new) (sym closed)
    (subst (λ (b : Bool). BeginsBy b old d result new) (sym valid) (subst (λ (o : Option ℕ). BeginsAt o old d result new) best c.make_attempts.ensures.attempts))
