-- Keys as numbers of 128 bits.
use Rattle.std.specs.Prelude.{ℕ, ◌+◌, ◌*◌, ◌^◌, ◌/◌, ◌%◌, ◌==◌, Bool}
use Rattle.gpu_block_gaps.specs.declared.key.Key.{Key}

-- a key as a number: the length's bits, and then the start's
abbrev pub code_of : Key → ℕ
code_of k = k.length * 2 ^ 64 + k.start

-- whether a bit of a number is set
abbrev pub bit_of : ℕ → ℕ → Bool
bit_of n bit = (n / 2 ^ bit) % 2 == 1
