-- The room that is made for so many rows.
use Rattle.std.proofs.Common.{◌≡◌, ℕ, ◌+◌, ◌*◌, ◌/◌, ◌<◌, ◌≤◌, min, max, ◌⊎◌, arith}
use Rattle.std.proofs.lemmas.Bool.Decides.{nat_tests}
use Rattle.gpu_rows.specs.Rows.{room_for}

-- the steps
pub cases : (n : ℕ)
    → ((n ≡ 0) × (room_for n ≡ 0)) ⊎ ((0 < n) × (n ≤ 16) × (room_for n ≡ 16)) ⊎ ((16 < n) × (n ≤ 64) × (room_for n ≡ 64)) ⊎ ((64 < n) × (room_for n ≡ 256 * ((n + 255) / 256)))
unfolding room_for
cases n = grind (arith, nat_tests)

-- it is room for them, and for less than a page more
pub enough : (n : ℕ) → (n ≤ room_for n) × (room_for n ≤ n + 255)
enough n = (omega (arith, cases n), omega (arith, cases n))

-- no step lies below what has room
pub covered : (n room : ℕ) → room_for room ≡ room → n ≤ room → room_for n ≤ room
covered n room step le = omega (arith, cases n, cases room)

-- a whole page is a step, and so are more
pub whole_step : (count : ℕ) → room_for (256 * count) ≡ 256 * count
whole_step count = omega (arith, cases (256 * count))

-- so is what the first page has of a step
pub first_step : (n : ℕ) → room_for (min 256 (room_for n)) ≡ min 256 (room_for n)
first_step n = omega (arith, cases n, cases (min 256 (room_for n)))

-- a step is what the first page has of it, or whole pages
pub in_pages : (n : ℕ) → max (min 256 (room_for n)) (256 * (room_for n / 256)) ≡ room_for n
in_pages n = omega (arith, cases n)
