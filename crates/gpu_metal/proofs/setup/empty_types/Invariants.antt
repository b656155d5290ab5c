use Rattle.std.proofs.Common.{◌≡◌, ◌≤◌, map, take, All, [], length, None}
use Rattle.std.specs.Prelude.{vec_capacity}
use Rattle.gpu_core.specs.Budgets.{budgets}
use Rattle.gpu_core.specs.Types.{slots_of, kinds}
use Rattle.gpu_metal.specs.MemoryKinds.{locations, is_host}
use Rattle.gpu_metal.proofs.setup.empty_types.Given as goal

abbrev pub invariant-loop-index : goal.invariant-loop-index
invariant-loop-index l = record {
  kinds_are : kinds l.types.items ≡ map (λ k. (is_host k, 1)) (take l.index locations);
  empty : All (λ slots. slots ≡ []) (slots_of l.types.items);
  unbounded : All (λ b. b ≡ None) (budgets l.types.items);
  len : length l.types.items ≡ l.index;
  room : 3 ≤ vec_capacity l.types;
}
