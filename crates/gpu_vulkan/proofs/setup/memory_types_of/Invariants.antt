use Rattle.std.proofs.Common.{◌≡◌, ◌≤◌, take, length}
use Rattle.std.specs.Prelude.{vec_capacity}
use Rattle.gpu_vulkan.proofs.setup.memory_types_of.Given as goal

abbrev pub invariant-loop-index : goal.invariant-loop-index
invariant-loop-index g l = record {
  count : l.count ≡ length (g.D.VulkanDevice.properties l.device).types;
  taken : l.types.items ≡ take l.index (g.D.VulkanDevice.properties l.device).types;
  room : l.count ≤ vec_capacity l.types;
}
