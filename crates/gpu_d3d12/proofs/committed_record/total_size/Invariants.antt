use Rattle.std.proofs.Common.{◌≡◌, ◌<◌, ◌^◌, take}
use Rattle.gpu_d3d12.specs.Committed.{total_size}
use Rattle.gpu_d3d12.proofs.committed_record.total_size.Given as goal

abbrev pub invariant-loop-record : goal.invariant-loop-record
invariant-loop-record l = (l.sum ≡ total_size (take l.record-index l.records)) × (total_size l.records < 2 ^ 64)
