-- What a search costs: whole numbers that contracts alone see.
use Rattle.std.specs.Prelude.{◌≡◌, ℕ, ◌+◌, ◌/◌, ◌==◌, ◌≤◌, zero, suc, if◌then◌else◌}
use Rattle.gpu_cost.specs.declared.cost.Cost.{Cost}

-- how often a length was compared, a gap was tested, and a chunk was looked up by its number; the longest gap is told by a test, and the block's size, or that no chunk is live, by a look-up
pub record Counts : Type 0 where
  pub comparisons : ℕ
  pub tests : ℕ
  pub lookups : ℕ

abbrev pub counts_of : Cost → Counts
counts_of c = record { comparisons = c.comparisons; tests = c.tests; lookups = c.lookups }

-- the binary digits of n, of which there are at most `most`
abbrev pub digits_up_to : ℕ → ℕ → ℕ
digits_up_to zero n = 0
digits_up_to (suc most) n = if n == 0 then 0 else digits_up_to most (n / 2) + 1

-- how many binary digits n has; 0 has none
unfoldable pub digits : ℕ → ℕ
digits n = digits_up_to n n

-- at most as many lengths were compared as n has binary digits, and nothing else is counted
pub record Compares (n : ℕ) (old new : Cost) : Type 0 where
  pub rises : old.comparisons ≤ new.comparisons
  pub to : new.comparisons ≤ old.comparisons + digits n
  pub tests : new.tests ≡ old.tests
  pub lookups : new.lookups ≡ old.lookups

-- just so many lengths were compared, and nothing else is counted
pub record ComparesKeys (n : ℕ) (old new : Cost) : Type 0 where
  pub comparisons : new.comparisons ≡ old.comparisons + n
  pub tests : new.tests ≡ old.tests
  pub lookups : new.lookups ≡ old.lookups

-- just so many gaps were tested, and nothing else is counted
pub record Tests (n : ℕ) (old new : Cost) : Type 0 where
  pub comparisons : new.comparisons ≡ old.comparisons
  pub tests : new.tests ≡ old.tests + n
  pub lookups : new.lookups ≡ old.lookups

-- just so many chunks were looked up, and nothing else is counted
pub record LooksUp (n : ℕ) (old new : Cost) : Type 0 where
  pub comparisons : new.comparisons ≡ old.comparisons
  pub tests : new.tests ≡ old.tests
  pub lookups : new.lookups ≡ old.lookups + n

-- so many chunks were looked up at least and at most, and nothing else is counted
pub record LooksUpBetween (least most : ℕ) (old new : Cost) : Type 0 where
  pub comparisons : new.comparisons ≡ old.comparisons
  pub tests : new.tests ≡ old.tests
  pub from : old.lookups + least ≤ new.lookups
  pub to : new.lookups ≤ old.lookups + most

-- no count falls
pub record Rises (old new : Counts) : Type 0 where
  pub comparisons : old.comparisons ≤ new.comparisons
  pub tests : old.tests ≤ new.tests
  pub lookups : old.lookups ≤ new.lookups
