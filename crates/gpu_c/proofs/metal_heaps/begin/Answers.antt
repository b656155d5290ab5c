use Rattle.std.proofs.Common.{arith, refl, sym, subst, ◌∙◌, Err, ℕ, [], ◌∷◌, inr}
use Rattle.gpu_machine.specs.MetalBegin.{Begins}
use Rattle.gpu_machine.specs.MetalState.{State}
use Rattle.gpu_c.specs.Status as status
use Rattle.gpu_c.specs.Status.{IsOneOf}
use Rattle.gpu_c.proofs.MetalHeapsLaws.{is_shut, begins_same}
use Rattle.gpu_c.proofs.MetalHeapsRefusals.{begins_told, says_valid, not_invalid}
use Rattle.gpu_c.proofs.metal_heaps.begin.Goals as goal

pub returns-in-Err-clause-invalid : goal.returns-in-Err-clause-invalid
returns-in-Err-clause-invalid c = (
  λ is. absurd (not_invalid _
      (begins_told c.args.machine.now c.begin.new.self c.in-Some.desc c.in-Err.error (is_shut c.args.machine.now.requests.awaited _ c.if-awaits_answer.false c.awaits_answer.ensures)
      (says_valid c.args.request.now c.args.name.now c.in-Some.desc c.in-Some.ensures) c.in-Err.ensures.begins) (sym c.refusal_status.ensures ∙ is)),
  λ h. absurd (h.1 c.in-Some.ensures.asked),
)

pub returns-in-Err-clause-denied : goal.returns-in-Err-clause-denied
returns-in-Err-clause-denied c a b d = record {
  idle = is_shut c.args.machine.now.requests.awaited _ c.if-awaits_answer.false c.awaits_answer.ensures;
  desc = c.in-Some.desc;
  says = c.in-Some.ensures;
  cause = c.in-Err.error;
  code_is = c.refusal_status.ensures;
  begins = subst (λ (s : State). Begins c.args.machine.now c.in-Some.desc (Err c.in-Err.error) s)
      (begins_same c.args.machine.now c.begin.new.self c.in-Some.desc c.in-Err.error c.in-Err.ensures.begins) c.in-Err.ensures.begins;
}

pub returns-in-Err-clause-statuses : goal.returns-in-Err-clause-statuses
returns-in-Err-clause-statuses c = inr (inr (inr
    (subst (λ (n : ℕ). IsOneOf n (status.out_of_memory ∷ status.host_out_of_memory ∷ status.budget_exceeded ∷ [])) (sym c.refusal_status.ensures)
    (begins_told c.args.machine.now c.begin.new.self c.in-Some.desc c.in-Err.error (is_shut c.args.machine.now.requests.awaited _ c.if-awaits_answer.false c.awaits_answer.ensures)
    (says_valid c.args.request.now c.args.name.now c.in-Some.desc c.in-Some.ensures) c.in-Err.ensures.begins))))

pub returns-in-Err-clause-refused : goal.returns-in-Err-clause-refused
returns-in-Err-clause-refused c not_ok = (begins_same c.args.machine.now c.begin.new.self c.in-Some.desc c.in-Err.error c.in-Err.ensures.begins, refl)

pub returns-in-Ok-clause-invalid : goal.returns-in-Ok-clause-invalid
returns-in-Ok-clause-invalid c = (λ is. absurd (omega (arith, is)), λ h. absurd (h.1 c.in-Some.ensures.asked))
