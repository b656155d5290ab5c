use Rattle.std.proofs.Common.{◌≡◌, ◌≤◌, ◌*◌, ◌^◌, take}
use Rattle.gpu_plan.specs.Passes.{bytes_alive}
use Rattle.gpu_plan.proofs.passes.bytes_alive.Given as goal

abbrev pub invariant-loop-r : goal.invariant-loop-r
invariant-loop-r l = record { sum : l.bytes ≡ bytes_alive (take l.r-index l.resources) l.pass; bounded : l.bytes ≤ l.r-index * 2 ^ 64 }
