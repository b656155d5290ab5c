use Rattle.std.proofs.Common.{◌≡◌, ◌≤◌, length}
use Rattle.std.specs.Prelude.{vec_capacity}
use Rattle.gpu_machine.specs.VulkanHeapLimit.{HasNoLimits}
use Rattle.gpu_machine.proofs.vulkan.heap_limit.no_limits.Given as goal

abbrev pub invariant-loop : goal.invariant-loop
invariant-loop l = record {
  none : HasNoLimits l.limits.items;
  count : length l.limits.items ≡ l.counter;
  room : l.heaps ≤ vec_capacity l.limits;
}
