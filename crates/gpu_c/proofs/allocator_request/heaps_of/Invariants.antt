use Rattle.std.proofs.Common.{◌≡◌, ◌≤◌, map, take, length, vec_capacity}
use Rattle.gpu_c.specs.Allocator.{heap_told}
use Rattle.gpu_c.proofs.allocator_request.heaps_of.Given as goal

abbrev pub invariant-loop-heap : goal.invariant-loop-heap
invariant-loop-heap l = record {
  told_so : l.heaps.items ≡ map heap_told (take l.heap-index l.told);
  room : length l.told ≤ vec_capacity l.heaps;
}
