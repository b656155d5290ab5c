use Rattle.std.proofs.Common.{◌≡◌, refl, sym, subst, ◌∙◌, Err, Some, Option}
use Rattle.std.specs.Prelude.{IsSome}
use Rattle.gpu_machine.specs.D3D12Begin.{BeginsCommitted}
use Rattle.gpu_machine.specs.D3D12State.{State}
use Rattle.gpu_c.proofs.HeapsLaws.{is_shut, committed_same}
use Rattle.gpu_c.proofs.HeapsRefusals.{committed_told, committed_not_invalid}
use Rattle.gpu_c.proofs.heaps.begin_committed.Goals as goal

is_there : {A : Type 0} (o : Option A) (a : A) → o ≡ Some a → IsSome o
is_there o a is = subst (λ (p : Option _). IsSome p) (sym is) refl

pub returns-in-Err-clause-invalid : goal.returns-in-Err-clause-invalid
returns-in-Err-clause-invalid c = (
  λ is. absurd (committed_not_invalid _
      (committed_told c.args.machine.now c.begin_committed.new.self c.in-Some.place c.in-Some-category_named.kind c.args.size c.in-Err.error
      (is_shut c.args.machine.now.committed.awaited _ c.if-awaits_resource.false c.awaits_resource.ensures) c.in-Err.ensures) (sym c.refusal_status.ensures ∙ is)),
  λ h. absurd (h.1 (is_there _ _ (sym c.location_named.ensures ∙ c.in-Some.is), is_there _ _ (sym c.category_named.ensures ∙ c.in-Some-category_named.is))),
)

pub returns-in-Err-clause-denied : goal.returns-in-Err-clause-denied
returns-in-Err-clause-denied c a b d = record {
  idle = is_shut c.args.machine.now.committed.awaited _ c.if-awaits_resource.false c.awaits_resource.ensures;
  place = c.in-Some.place;
  place_is = sym c.location_named.ensures ∙ c.in-Some.is;
  kind = c.in-Some-category_named.kind;
  kind_is = sym c.category_named.ensures ∙ c.in-Some-category_named.is;
  cause = c.in-Err.error;
  code_is = c.refusal_status.ensures;
  begins = subst (λ (s : State). BeginsCommitted c.args.machine.now c.in-Some.place c.in-Some-category_named.kind c.args.size (Err c.in-Err.error) s)
      (committed_same c.args.machine.now c.begin_committed.new.self c.in-Some.place c.in-Some-category_named.kind c.args.size c.in-Err.error c.in-Err.ensures) c.in-Err.ensures;
}
