use Rattle.std.proofs.Common.{◌≡◌, ◌∙◌, ◌++◌, [], ◌∷◌, ap, sym, map, take, arith, refl, ◌+◌, get_or}
use Rattle.std.proofs.lemmas.List.{map-append}
use Rattle.std.proofs.lemmas.Option.{slice_get-get_or}
use Rattle.gpu_vulkan.proofs.Taken.{taken_next}
use Rattle.gpu_c.specs.Allocator.{heap_told}
use Rattle.gpu_c.specs.declared.allocator_values.DeviceHeap.{DeviceHeap}
use Rattle.gpu_c.proofs.allocator_request.heaps_of.Goals as goal

pub loop-heap-preserved : goal.loop-heap-preserved
loop-heap-preserved c =
    let told = c.args.told.now in
    let i = c.loop-heap.heap-index in
    let none : DeviceHeap = record { size = 0; flags = 0 } in
    let info = get_or told i none in
    let next : take i told ++ info ∷ [] ≡ take (i + 1) told = taken_next told (take i told) i info refl (slice_get-get_or told i none c.loop-heap-test.true) in
    record {
      told_so =
          c.push_reserved.ensures.items
          ∙ ap (λ ts. ts ++ heap_told info ∷ []) c.loop-heap.invariant.told_so
          ∙ sym (map-append heap_told (take i told) (info ∷ []))
          ∙ ap (map heap_told) next;
      room = omega (arith, c.loop-heap.invariant.room, c.push_reserved.ensures.capacity);
    }
