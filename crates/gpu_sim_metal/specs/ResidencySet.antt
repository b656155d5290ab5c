-- How many numbers are among the members of a residency set.
use Rattle.std.specs.Prelude.{ℕ, zero, suc, ◌+◌, nat_eq, cond, List}
use Rattle.std.specs.List.{list_any}
use Rattle.gpu_device.specs.declared.metal.types.MTLHeap.{MTLHeap}

-- how many of the numbers from 1 to the last one are among these
abbrev pub among : List MTLHeap → ℕ → ℕ
among members zero = 0
among members (suc n) = among members n + cond (list_any (λ member. nat_eq member.0 (suc n)) members) 1 0
