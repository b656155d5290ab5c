-- What the limits of a new block say.
use Rattle.std.proofs.Common.{◌≡◌, ◌∙◌, refl, sym, ap, ⊎_elim, arith, ℕ, zero, suc, ◌+◌, ◌<◌, ◌≤◌, ◌^◌, [], ◌∷◌, Option, Some, None, false}
use Rattle.std.proofs.lemmas.Bool.Decides.{nat_tests}
use Rattle.std.specs.Prelude.{nat_lt, if◌then◌else◌}
use Rattle.gpu_values.specs.Refusal.{out_of_memory, budget_exceeded}
use Rattle.gpu_core.specs.TypeState.{fits_budget}
use Rattle.gpu_core.specs.Budgets.{budgets, budget_at, block_refusal}
use Rattle.gpu_core.specs.Types.{Types, type_of}
use Rattle.gpu_core.proofs.Options.{none_some}
use Rattle.std.proofs.lemmas.Bool.{cases_lt}

-- a memory type's budget among all
pub budget_is : {H : Type 0} (types : Types H) (i : ℕ) → (type_of types i).budget ≡ budget_at (budgets types) i
budget_is [] i = refl
budget_is (t ∷ ts) zero = refl
budget_is (t ∷ ts) (suc i) = budget_is ts i

lt_not : (a b : ℕ) → b ≤ a → nat_lt a b ≡ false
lt_not a b h = grind (arith, nat_tests)

-- a block that the device may be asked for keeps the sum of all in 64 bits
pub sum_fits : (used : ℕ) (budget : Option ℕ) (capacity size : ℕ) → block_refusal used budget capacity size ≡ None → used + size < 2 ^ 64
sum_fits used budget capacity size none =
    ⊎_elim
    (λ below. below)
    (λ above.
    let refused : block_refusal used budget capacity size ≡ Some out_of_memory =
    ap (λ b. if b then (if fits_budget budget (capacity + size) then None else Some budget_exceeded) else Some out_of_memory) (lt_not (used + size) (2 ^ 64) above) in
    absurd (none_some out_of_memory (sym none ∙ refused)))
    (cases_lt (used + size) (2 ^ 64))
