use Rattle.std.proofs.Common.{◌∙◌, refl, sym, ap, subst, Some, None, Err, List}
use Rattle.gpu_device.specs.declared.vulkan.types.MemoryTypeInfo.{MemoryTypeInfo}
use Rattle.gpu_values.specs.Refusal.{refusal_of}
use Rattle.gpu_vulkan.specs.Preference.{IsCheapest}
use Rattle.gpu_machine.specs.VulkanByFlags.{AttemptsBy, GoesDown}
use Rattle.gpu_machine.specs.VulkanByFlags.GoesDown.{ends, settles, goes_on}
use Rattle.gpu_machine.specs.VulkanDescription.{Description, description_of}
use Rattle.gpu_machine.specs.VulkanState.{State}
use Rattle.gpu_machine.proofs.vulkan.machine.Machine.+go_down.Goals as goal

pub returns-in_default-clause-goes_down : goal.returns-in_default-clause-goes_down
returns-in_default-clause-goes_down g t c =
    let same = c.memory_types.ensures ∙ ap (λ (s : State g.row.H.Denot). s.setup.properties.types) c.self.view_is in
    ends (subst (λ (ts : List MemoryTypeInfo). IsCheapest ts c.args.desc.now.requirements.memory_type_bits c.args.preference.now None) same c.in_default.ensures.cheapest) (refl, refl)

pub returns-in-Ok-clause-goes_down : goal.returns-in-Ok-clause-goes_down
returns-in-Ok-clause-goes_down g t c =
    let same = c.memory_types.ensures ∙ ap (λ (s : State g.row.H.Denot). s.setup.properties.types) c.self.view_is in
    settles c.in-Some.index (subst (λ (ts : List MemoryTypeInfo). IsCheapest ts c.args.desc.now.requirements.memory_type_bits c.args.preference.now (Some c.in-Some.index)) same c.in-Some.ensures.cheapest)
    c.in-Ok.ensures.attempts tt

pub returns-else-lacks_room-clause-goes_down : goal.returns-else-lacks_room-clause-goes_down
returns-else-lacks_room-clause-goes_down g t c =
    let same = c.memory_types.ensures ∙ ap (λ (s : State g.row.H.Denot). s.setup.properties.types) c.self.view_is in
    settles c.in-Some.index (subst (λ (ts : List MemoryTypeInfo). IsCheapest ts c.args.desc.now.requirements.memory_type_bits c.args.preference.now (Some c.in-Some.index)) same c.in-Some.ensures.cheapest)
    c.in-Err.ensures.attempts (sym c.lacks_room.ensures ∙ c.if-lacks_room.false)

pub returns-then-lacks_room-clause-goes_down : goal.returns-then-lacks_room-clause-goes_down
returns-then-lacks_room-clause-goes_down g t c =
    let same = c.memory_types.ensures ∙ ap (λ (s : State g.row.H.Denot). s.setup.properties.types) c.self.view_is in
    let k = description_of c.args.desc.now in
    goes_on c.in-Some.index c.in-Err.error
    (subst (λ (ts : List MemoryTypeInfo). IsCheapest ts c.args.desc.now.requirements.memory_type_bits c.args.preference.now (Some c.in-Some.index)) same c.in-Some.ensures.cheapest)
    (subst (λ (s : State g.row.H.Denot). AttemptsBy c.args.preference.now c.args.self.now c.in-Some.index k (Err c.in-Err.error) s) c.in-Err.ensures.refused c.in-Err.ensures.attempts)
    (sym c.lacks_room.ensures ∙ c.if-lacks_room.true)
    (subst (λ (d : Description). GoesDown c.args.preference.now c.args.self.now c.go_down.result c.go_down.new.self d (refusal_of c.in-Err.error)) c.without-left.ensures.left
    (subst (λ (s : State g.row.H.Denot). GoesDown c.args.preference.now s c.go_down.result c.go_down.new.self (description_of c.without-left.result) (refusal_of c.in-Err.error))
    c.in-Err.ensures.refused c.go_down.ensures.goes_down))
