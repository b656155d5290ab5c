use Rattle.std.proofs.Common.{◌≡◌, ◌∙◌, ◌++◌, [], ◌∷◌, ap, sym, map, take, arith, refl, ◌+◌, get_or}
use Rattle.std.proofs.lemmas.List.{map-append}
use Rattle.std.proofs.lemmas.Option.{slice_get-get_or}
use Rattle.gpu_vulkan.proofs.Taken.{taken_next}
use Rattle.gpu_c.specs.Allocator.{memory_type_told}
use Rattle.gpu_c.specs.declared.allocator_values.DeviceMemoryType.{DeviceMemoryType}
use Rattle.gpu_c.proofs.allocator_request.memory_types_of.Goals as goal

pub loop-info-preserved : goal.loop-info-preserved
loop-info-preserved c =
    let told = c.args.told.now in
    let i = c.loop-info.info-index in
    let none : DeviceMemoryType = record { flags = 0; heap = 0 } in
    let info = get_or told i none in
    let next : take i told ++ info ∷ [] ≡ take (i + 1) told = taken_next told (take i told) i info refl (slice_get-get_or told i none c.loop-info-test.true) in
    record {
      told_so =
          c.push_reserved.ensures.items
          ∙ ap (λ ts. ts ++ memory_type_told info ∷ []) c.loop-info.invariant.told_so
          ∙ sym (map-append memory_type_told (take i told) (info ∷ []))
          ∙ ap (map memory_type_told) next;
      room = omega (arith, c.loop-info.invariant.room, c.push_reserved.ensures.capacity);
    }
