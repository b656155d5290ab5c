-- Which commands a line of words can say.
use Rattle.std.proofs.Common.{ℕ, List, ◌∷◌, get_or}
use Rattle.std.specs.Prelude.{codes}
use Rattle.std.specs.Borrow.{Bor}
use Rattle.gpu_block_session.specs.Words.{texts}
use Rattle.gpu_plan.specs.declared.resource.Resource.{Resource}
use Rattle.gpu_plan_session.specs.declared.command.Command.{Command}
use Rattle.gpu_plan_session.specs.declared.command.Command.TheVariants.{Plan, Add, Solve}
use Rattle.gpu_plan_session.specs.PlanWords.{AreWordsOf, FitsResource, Spells}

-- five words that no resource has
pub resource_only : (arguments : List (Bor (List ℕ))) (d : Bor (List ℕ)) → ((r : Resource) → FitsResource r
    → AreWordsOf r (get_or arguments 1 d).now (get_or arguments 2 d).now (get_or arguments 3 d).now (get_or arguments 4 d).now (get_or arguments 5 d).now → ⊥)
    → (x : Command) → Spells (codes "resource" ∷ texts arguments) x → ⊥
resource_only (a ∷ b ∷ e ∷ k ∷ f ∷ l ∷ rest) d h (Add key r name) s =
    let i = s.is in
    h r s.fits.1 (record { size_is = cc; alignment_is = cc; kind_is = cc; first_is = cc; last_is = cc })
resource_only arguments d h (Add key r name) s = let i = s.is in cc
resource_only arguments d h (Plan page) s = let i = s.is in cc
resource_only arguments d h Solve s = let i = s.is in cc
