use Rattle.std.proofs.Common.{◌≡◌, ◌<◌, ◌≤◌, ◌∙◌, ap, sym, ℕ, get_or, length, arith, true, false}
use Rattle.std.specs.Prelude.{nat_le}
use Rattle.std.specs.List.{list_any}
use Rattle.std.proofs.lemmas.Bool.Decides.{nat_tests}
use Rattle.std.proofs.lemmas.List.{length-map}
use lib.Seq.{take_all}
use Rattle.std.proofs.lemmas.Option.{slice_get-get_or}
use Rattle.gpu_vulkan.specs.Setup.{lacks_heap}
use Rattle.gpu_vulkan.proofs.Taken.{none_next, one_passes}
use Rattle.gpu_c.specs.Allocator.{device_told, memory_type_told, heap_told}
use Rattle.gpu_c.specs.declared.allocator_values.DeviceMemoryType.{DeviceMemoryType}
use Rattle.gpu_c.proofs.AllocatorLaws.{list_any-map}
use Rattle.gpu_c.proofs.allocator_request.lacks_heap.Goals as goal

not_below : (a b : ℕ) → b < a → nat_le a b ≡ false
not_below a b h = grind (arith, nat_tests)

is_below : (a b : ℕ) → a ≤ b → nat_le a b ≡ true
is_below a b h = grind (arith, nat_tests)

pub loop-info-preserved : goal.loop-info-preserved
loop-info-preserved c settings =
    let types = c.args.types.now in
    let none : DeviceMemoryType = record { flags = 0; heap = 0 } in
    let info = get_or types c.loop-info.info-index none in
    none_next (λ t. lacks_heap (device_told types c.args.heaps.now settings) (memory_type_told t)) types c.loop-info.info-index info (c.loop-info.invariant settings)
    (slice_get-get_or types c.loop-info.info-index none c.loop-info-test.true)
    (ap (λ (n : ℕ). nat_le n info.heap) (length-map c.args.heaps.now heap_told) ∙ not_below (length c.args.heaps.now) info.heap c.if-heaps-info.false)

pub returns-then-heaps-info : goal.returns-then-heaps-info
returns-then-heaps-info c settings =
    let types = c.args.types.now in
    let none : DeviceMemoryType = record { flags = 0; heap = 0 } in
    let info = get_or types c.loop-info.info-index none in
    sym (list_any-map (lacks_heap (device_told types c.args.heaps.now settings)) memory_type_told types
    ∙ one_passes (λ t. lacks_heap (device_told types c.args.heaps.now settings) (memory_type_told t)) types c.loop-info.info-index info
    (slice_get-get_or types c.loop-info.info-index none c.loop-info-test.true)
    (ap (λ (n : ℕ). nat_le n info.heap) (length-map c.args.heaps.now heap_told) ∙ is_below (length c.args.heaps.now) info.heap c.if-heaps-info.true))

pub returns : goal.returns
returns c settings =
    let types = c.args.types.now in
    sym (list_any-map (lacks_heap (device_told types c.args.heaps.now settings)) memory_type_told types
    ∙ ap (list_any (λ t. lacks_heap (device_told types c.args.heaps.now settings) (memory_type_told t))) (sym (take_all c.loop-info.info-index types (omega (arith, c.loop-info-test.false))))
    ∙ c.loop-info.invariant settings)
