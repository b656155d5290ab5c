use Rattle.std.proofs.Common.{◌≡◌, ◌<◌, ℕ, get_or, length, arith, false}
use Rattle.std.specs.Prelude.{nat_le}
use Rattle.std.proofs.lemmas.Bool.Decides.{nat_tests}
use Rattle.std.proofs.lemmas.Option.{slice_get-get_or}
use Rattle.gpu_device.specs.declared.vulkan.types.MemoryTypeInfo.{MemoryTypeInfo}
use Rattle.gpu_vulkan.specs.Setup.{lacks_heap, properties_told}
use Rattle.gpu_vulkan.proofs.Taken.{none_next}
use Rattle.gpu_machine.proofs.vulkan.told.has_heaps.Goals as goal

not_below : (a b : ℕ) → b < a → nat_le a b ≡ false
not_below a b h = grind (arith, nat_tests)

pub loop-info-preserved : goal.loop-info-preserved
loop-info-preserved c granularity =
    let types = c.args.types.now in
    let none : MemoryTypeInfo = record { property_flags = record { 0 = 0 }; heap_index = 0 } in
    let info = get_or types c.loop-info.info-index none in
    none_next (lacks_heap (properties_told types c.args.heaps.now granularity)) types c.loop-info.info-index info (c.loop-info.invariant granularity) (slice_get-get_or types c.loop-info.info-index none c.loop-info-test.true)
    (not_below (length c.args.heaps.now) info.heap_index c.if-heaps-info.false)
