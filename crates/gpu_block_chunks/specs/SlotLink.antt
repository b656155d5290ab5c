-- A slot, if there is one, as a number of 32 bits.
use Rattle.std.proofs.Common.{◌≡◌, ◌≢◌, ℕ, ◌+◌, ◌-◌, ◌^◌, ◌<◌, Option, Some, None, true, false, cond, ◌⊎◌, inl, inr, sym, ap, ◌∙◌}
use Rattle.std.specs.Prelude.{nat_eq}
use Rattle.std.proofs.lemmas.Bool.Decides.{eqb_tells}

-- the number of no slot
abbrev pub no_slot : ℕ
no_slot = 2 ^ 32 - 1

abbrev pub number_if : Option ℕ → ℕ
number_if None = no_slot
number_if (Some slot) = slot

abbrev pub slot_if : ℕ → Option ℕ
slot_if n = cond (nat_eq n no_slot) None (Some n)

-- the slot has a number of 32 bits, which isn't that of no slot
abbrev pub IsLinkable : ℕ → Type 0
IsLinkable slot = slot + 1 < 2 ^ 32

-- ---- numbers and slots tell each other

pub number_if_again : (n : ℕ) → number_if (slot_if n) ≡ n
number_if_again n = by_test (eqb_tells n no_slot)
  where
    by_test : ((nat_eq n no_slot ≡ true) × (n ≡ no_slot)) ⊎ ((nat_eq n no_slot ≡ false) × (n ≢ no_slot)) → number_if (slot_if n) ≡ n
    by_test (inl is) = ap (λ b. number_if (cond b None (Some n))) is.0 ∙ sym is.1
    by_test (inr other) = ap (λ b. number_if (cond b None (Some n))) other.0
