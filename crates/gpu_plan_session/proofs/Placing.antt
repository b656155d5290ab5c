-- What the calls of gpu_plan say, as a session tells it.
use Rattle.std.proofs.Common.{◌≡◌, ℕ, refl, sym, subst, ◌<◌, List, length, get_or, Result, Ok, Err, arith}
use Rattle.std.specs.Prelude.{All, IfErr, IsErrAnd}
use Rattle.std.proofs.lemmas.List.{length-map}
use Rattle.std.proofs.lemmas.List.Elements.{Contains-get_or}
use Rattle.gpu_plan.specs.declared.resource.Resource.{Resource}
use Rattle.gpu_plan.specs.declared.error.PlanError.{PlanError}
use Rattle.gpu_plan.specs.declared.error.PlanError.TheVariants.{HostOutOfMemory, TooLarge}
use Rattle.gpu_plan.specs.Best.{NoneFits, all_orders}
use Rattle.gpu_plan.specs.Reuse.{AreReused}
use Rattle.gpu_block_session.specs.declared.error_number.ErrorNumber.{ErrorNumber}
use Rattle.gpu_plan_session.specs.declared.session.Listed.{Listed}
use Rattle.gpu_plan_session.specs.PlanSession.{State, resources_of, refusal_of, RefusesSolve}

-- the resources whose bytes are reused are among those that were added
pub found_below : (listed : List Listed) (resources : List Resource) (offsets : List ℕ) (index : ℕ) (found : List ℕ) → resources ≡ resources_of listed
    → AreReused resources offsets index found → All (λ i. i < length listed) found
found_below listed resources offsets index found is are = λ k d lt.
    let below = ((are.exact (get_or found k d)).0 (Contains-get_or found k d lt)).0 in
    let long : length resources ≡ length listed = rw is (length-map listed (λ x. x.resource)) in
    omega (arith, below, long)

-- a plan's error, as its number
pub refuses : (s : State) (e : PlanError) (n : ErrorNumber) → n ≡ refusal_of e → (e ≡ TooLarge → NoneFits s.page (resources_of s.listed) all_orders) → RefusesSolve s n
refuses s TooLarge n is large = rw is (large refl)
refuses s HostOutOfMemory n is large = rw is tt

-- what holds of an error holds of the one that is handed on
pub handed_on : {T : Type 0} (P : PlanError → Type 0) (e : PlanError) (r : Result T PlanError) → IsErrAnd r (λ y. y ≡ e) → P e → IfErr r P
handed_on P e (Ok s) h p = tt
handed_on P e (Err y) h p = subst P (sym h) p
