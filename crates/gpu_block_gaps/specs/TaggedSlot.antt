-- A slot with a kind as a number of 32 bits.
use Rattle.std.specs.Prelude.{ℕ, ◌+◌, ◌*◌, ◌/◌, ◌%◌, cond, nat_eq}
use Rattle.gpu_values.specs.declared.allocation_type.AllocationType.{AllocationType}
use Rattle.gpu_values.specs.declared.allocation_type.AllocationType.TheVariants.{Free, Linear, NonLinear}

abbrev pub kind_number : AllocationType → ℕ
kind_number Free = 0
kind_number Linear = 1
kind_number NonLinear = 2

abbrev pub kind_numbered : ℕ → AllocationType
kind_numbered n = cond (nat_eq n 0) Free (cond (nat_eq n 1) Linear NonLinear)

-- the kind's number stands in the two bits below the slot's
abbrev pub tagged : ℕ × AllocationType → ℕ
tagged t = t.0 * 4 + kind_number t.1

abbrev pub untagged : ℕ → ℕ × AllocationType
untagged n = (n / 4, kind_numbered (n % 4))
