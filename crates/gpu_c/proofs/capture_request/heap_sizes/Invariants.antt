use Rattle.std.proofs.Common.{◌≡◌, ◌≤◌, map, take, length, vec_capacity}
use Rattle.gpu_c.proofs.capture_request.heap_sizes.Given as goal

abbrev pub invariant-loop-heap : goal.invariant-loop-heap
invariant-loop-heap l = record {
  told_so : l.sizes.items ≡ map (λ h. h.size) (take l.heap-index l.heaps);
  room : length l.heaps ≤ vec_capacity l.sizes;
}
