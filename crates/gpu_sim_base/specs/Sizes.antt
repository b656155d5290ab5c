-- Sizes as simulated devices tell them.
use Rattle.std.specs.Prelude.{ℕ, ◌+◌, ◌-◌, ◌*◌, ◌/◌, ◌^◌, min}

-- a size rounded up to whole units: at least one, and at most as many as 64 bits hold
abbrev pub rounded_up : ℕ → ℕ → ℕ
rounded_up size unit = min ((size - 1) / unit + 1) ((2 ^ 64 - 1) / unit) * unit
