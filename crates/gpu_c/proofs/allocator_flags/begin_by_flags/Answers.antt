use Rattle.std.proofs.Common.{arith, refl, sym, subst, ◌∙◌, Err, ℕ, [], ◌∷◌, inr}
use Rattle.gpu_vulkan.specs.declared.preference.Preference.{Preference}
use Rattle.gpu_machine.specs.VulkanByFlags.{BeginsDown}
use Rattle.gpu_machine.specs.VulkanDescription.{description_of}
use Rattle.gpu_machine.proofs.VulkanBeginning.{is_closed}
use Rattle.gpu_c.specs.Allocator.{State}
use Rattle.gpu_c.specs.Status as status
use Rattle.gpu_c.specs.Status.{IsOneOf}
use Rattle.gpu_c.proofs.AllocatorFlags.{down_refused}
use Rattle.gpu_c.proofs.AllocatorRefusals.{says_valid, not_invalid}
use Rattle.gpu_c.proofs.allocator_flags.begin_by_flags.Goals as goal

pub returns-in-Err-clause-invalid : goal.returns-in-Err-clause-invalid
returns-in-Err-clause-invalid c =
    let shut = is_closed c.args.machine.now.requests.awaited _ c.if-awaits_answer.false c.awaits_answer.ensures in
    let valid = says_valid c.args.request.now c.args.name.now c.in-Some.desc c.in-Some.ensures in (
      λ is. absurd (not_invalid _ (down_refused c.preference_of.result c.args.machine.now c.begin_by_flags.new.self c.in-Some.desc c.in-Err.error shut valid c.in-Err.ensures.begins).0
          (sym c.refusal_status.ensures ∙ is)),
      λ h. absurd (h.1 (description_of c.in-Some.desc) c.in-Some.ensures),
    )

pub returns-in-Err-clause-denied : goal.returns-in-Err-clause-denied
returns-in-Err-clause-denied c a b d =
    let shut = is_closed c.args.machine.now.requests.awaited _ c.if-awaits_answer.false c.awaits_answer.ensures in
    let valid = says_valid c.args.request.now c.args.name.now c.in-Some.desc c.in-Some.ensures in
    let same = (down_refused c.preference_of.result c.args.machine.now c.begin_by_flags.new.self c.in-Some.desc c.in-Err.error shut valid c.in-Err.ensures.begins).1 in
    record {
      idle = shut;
      desc = c.in-Some.desc;
      says = c.in-Some.ensures;
      cause = c.in-Err.error;
      code_is = c.refusal_status.ensures;
      begins = subst (λ (p : Preference). BeginsDown p c.args.machine.now c.in-Some.desc (Err c.in-Err.error) c.args.machine.now) c.preference_of.ensures
          (subst (λ (s : State). BeginsDown c.preference_of.result c.args.machine.now c.in-Some.desc (Err c.in-Err.error) s) same c.in-Err.ensures.begins);
    }

pub returns-in-Err-clause-statuses : goal.returns-in-Err-clause-statuses
returns-in-Err-clause-statuses c =
    let shut = is_closed c.args.machine.now.requests.awaited _ c.if-awaits_answer.false c.awaits_answer.ensures in
    let valid = says_valid c.args.request.now c.args.name.now c.in-Some.desc c.in-Some.ensures in
    inr (inr (inr (subst (λ (n : ℕ). IsOneOf n (status.no_memory_type ∷ status.out_of_memory ∷ status.host_out_of_memory ∷ status.budget_exceeded ∷ [])) (sym c.refusal_status.ensures)
    (down_refused c.preference_of.result c.args.machine.now c.begin_by_flags.new.self c.in-Some.desc c.in-Err.error shut valid c.in-Err.ensures.begins).0)))

pub returns-in-Err-clause-refused : goal.returns-in-Err-clause-refused
returns-in-Err-clause-refused c not_ok =
    let shut = is_closed c.args.machine.now.requests.awaited _ c.if-awaits_answer.false c.awaits_answer.ensures in
    let valid = says_valid c.args.request.now c.args.name.now c.in-Some.desc c.in-Some.ensures in
    ((down_refused c.preference_of.result c.args.machine.now c.begin_by_flags.new.self c.in-Some.desc c.in-Err.error shut valid c.in-Err.ensures.begins).1, refl)

pub returns-in-Ok-clause-invalid : goal.returns-in-Ok-clause-invalid
returns-in-Ok-clause-invalid c = (λ is. absurd (omega (arith, is)), λ h. absurd (h.1 (description_of c.in-Some.desc) c.in-Some.ensures))
