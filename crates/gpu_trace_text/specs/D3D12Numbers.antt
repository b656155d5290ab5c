-- Lists of numbers in one word.
use Rattle.std.specs.Prelude.{ℕ, ◌<◌, ◌^◌, List, length, map, All}
use Rattle.std.specs.Int.{IsInRange}
use Rattle.std.specs.List.{join_with_byte}
use Rattle.std.specs.Fmt.{decimal}

-- an ASCII character that is no digit
pub record IsSeparator (c : ℕ) : Type 0 where
  pub ascii : c < 128
  pub no_digit : IsInRange 48 57 c → ⊥

-- at least one number, each below 2^32
pub record AreNumbers (ns : List ℕ) : Type 0 where
  pub some : 0 < length ns
  pub fit : All (λ n. n < 2 ^ 32) ns

-- the numbers in decimal, with the separator between each two
abbrev pub numbers_word : (separator : ℕ) → List ℕ → List ℕ
numbers_word separator ns = join_with_byte separator (map decimal ns)
