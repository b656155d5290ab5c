use Rattle.std.proofs.Common.{◌≡◌, ◌≤◌, map, take, All, [], length, vec_capacity, None}
use Rattle.gpu_vulkan.specs.Types.{is_host_visible}
use Rattle.gpu_core.specs.Budgets.{budgets}
use Rattle.gpu_core.specs.Types.{slots_of, kinds}
use Rattle.gpu_vulkan.proofs.setup.empty_types.Given as goal

abbrev pub invariant-loop-info : goal.invariant-loop-info
invariant-loop-info g l = record {
  kinds_are : kinds l.types.items ≡ map (λ info. (is_host_visible info, l.granularity)) (take l.info-index l.memory_types);
  empty : All (λ slots. slots ≡ []) (slots_of l.types.items);
  unbounded : All (λ b. b ≡ None) (budgets l.types.items);
  room : length l.memory_types ≤ vec_capacity l.types;
}
