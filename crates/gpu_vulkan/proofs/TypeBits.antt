-- Bits of memory types: one that is set.
use Rattle.std.proofs.Common.{◌≡◌, inl, inr, ℕ, ◌^◌, ◌<◌, ◌≤◌, arith}
use Rattle.std.specs.Int.{bit_at}
use Rattle.std.proofs.lemmas.Bool.{cases_lt}
use Rattle.std.proofs.lemmas.Nat.Bits.{bit_at_above}

-- a bit that is set lies below the width
pub is_within : (bits width i : ℕ) → bits < 2 ^ width → bit_at bits i ≡ 1 → i < width
is_within bits width i fits set =
    elim (cases_lt i width) [
      | inl below ↦ below
      | inr past ↦ absurd (grind (arith, set, bit_at_above bits width i fits past))
    ]

-- a number isn't less than a bit of it that is set
pub at_least : (bits i : ℕ) → bit_at bits i ≡ 1 → 2 ^ i ≤ bits
at_least bits i set =
    elim (cases_lt bits (2 ^ i)) [
      | inl less ↦ absurd (grind (arith, set, bit_at_above bits i i less (omega arith)))
      | inr past ↦ past
    ]
