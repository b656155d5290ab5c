use Rattle.std.proofs.Common.{◌≡◌, List, [], drop, ap, refl, arith}
use Rattle.std.specs.Prelude.{slice_get}
use Rattle.std.proofs.lemmas.List.{drop_all}
use Rattle.gpu_core.specs.Types.{slots_of}
use Rattle.gpu_device.specs.declared.vulkan.types.MemoryTypeInfo.{MemoryTypeInfo}
use Rattle.gpu_machine.proofs.VulkanBounds.{others_from, others_sum}
use Rattle.gpu_machine.proofs.vulkan.bound.left_by_others.Goals as goal

pub returns : goal.returns
returns g c =
    let infos = c.args.infos.now in
    let slots = slots_of c.args.types.now in
    let sum = others_sum slots (slice_get infos c.args.index) infos c.args.heap c.args.index refl c.requires in
    let past = c.loop-info-test.false in
    let none : drop c.loop-info.info-index infos ≡ [] = drop_all c.loop-info.info-index infos (omega arith) in
    let rest = ap (λ (xs : List MemoryTypeInfo). others_from xs c.args.heap c.args.index c.loop-info.other slots) none in
    omega (arith, c.loop-info.invariant.left, rest, sum)
