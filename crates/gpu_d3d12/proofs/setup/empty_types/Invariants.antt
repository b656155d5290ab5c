use Rattle.std.proofs.Common.{◌≡◌, ◌≤◌, map, take, All, [], length, None}
use Rattle.gpu_core.specs.Budgets.{budgets}
use Rattle.std.specs.Prelude.{vec_capacity}
use Rattle.gpu_core.specs.Types.{slots_of, kinds}
use Rattle.gpu_d3d12.specs.Heaps.{is_host}
use Rattle.gpu_d3d12.specs.MemoryKinds.{memory_kinds}
use Rattle.gpu_d3d12.proofs.setup.empty_types.Given as goal

abbrev pub invariant-loop-index : goal.invariant-loop-index
invariant-loop-index l = record {
  counted : l.count ≡ length (memory_kinds l.tier);
  kinds_are : kinds l.types.items ≡ map (λ k. (is_host k, 1)) (take l.index (memory_kinds l.tier));
  empty : All (λ slots. slots ≡ []) (slots_of l.types.items);
  unbounded : All (λ b. b ≡ None) (budgets l.types.items);
  len : length l.types.items ≡ l.index;
  room : l.count ≤ vec_capacity l.types;
}
