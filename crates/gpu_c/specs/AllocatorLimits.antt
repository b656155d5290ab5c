-- How many blocks there may be, as C says it.
use Rattle.std.specs.Prelude.{ℕ, Bool, if◌then◌else◌, Option, Some, None}

-- a count, where there is one
abbrev pub count_if : (exists : Bool) → (count : ℕ) → Option ℕ
count_if exists count = if exists then Some count else None
