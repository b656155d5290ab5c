use Rattle.std.proofs.Common.{arith}
use Rattle.gpu_vulkan.proofs.Taken.{one_passes_told}
use Rattle.gpu_vulkan.proofs.setup.has_heaps.Goals as goal

pub returns-then-not-has_heap : goal.returns-then-not-has_heap
returns-then-not-has_heap g c =
    one_passes_told _ _ c.loop-index.index c.has_heap.result c.if-not-has_heap.true (omega (arith, c.loop-index-test.true, c.memory_type_count-index-end.ensures)) c.has_heap.ensures
