use Rattle.std.proofs.Common.{◌≡◌, ◌≤◌, take, length}
use Rattle.std.specs.Prelude.{vec_capacity}
use Rattle.gpu_vulkan.proofs.setup.heaps_of.Given as goal

abbrev pub invariant-loop-index : goal.invariant-loop-index
invariant-loop-index g l = record {
  count : l.count ≡ length (g.D.VulkanDevice.properties l.device).heaps;
  taken : l.heaps.items ≡ take l.index (g.D.VulkanDevice.properties l.device).heaps;
  room : l.count ≤ vec_capacity l.heaps;
}
