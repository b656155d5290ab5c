use Rattle.std.proofs.Common.{◌≡◌, ◌≤◌, [], length}
use Rattle.std.specs.Prelude.{All, vec_capacity}
use Rattle.gpu_d3d12.proofs.Records.{lists}
use Rattle.gpu_d3d12.proofs.committed_requests.CommittedRequests.new.Given as goal

abbrev pub invariant-loop : goal.invariant-loop
invariant-loop l = record {
  counted : length l.types.items ≡ l.counter;
  empty : All (λ records. records ≡ []) (lists l.types.items);
  room : l.count ≤ vec_capacity l.types;
}
