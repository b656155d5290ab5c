use Rattle.std.proofs.Common.{◌≡◌, ◌≤◌, map, take, length, vec_capacity}
use Rattle.gpu_c.specs.Allocator.{memory_type_told}
use Rattle.gpu_c.proofs.allocator_request.memory_types_of.Given as goal

abbrev pub invariant-loop-info : goal.invariant-loop-info
invariant-loop-info l = record {
  told_so : l.types.items ≡ map memory_type_told (take l.info-index l.told);
  room : length l.told ≤ vec_capacity l.types;
}
