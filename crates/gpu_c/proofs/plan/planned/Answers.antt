use Rattle.std.proofs.Common.{refl, false}
use Rattle.std.proofs.lemmas.Bool.{both_ways}
use Rattle.gpu_c.proofs.ToldPlans.{told_valid}
use Rattle.gpu_c.proofs.plan.planned.Goals as goal

pub plan-requires-clause-valid : goal.plan-requires-clause-valid
plan-requires-clause-valid c = rw (c.deref.ensures.value, c.in-Ok.ensures) (told_valid c.args.resources.now c.requires.each)

pub returns-in-Err-TooLarge-clause-large : goal.returns-in-Err-TooLarge-clause-large
returns-in-Err-TooLarge-clause-large c = λ _. rw (c.deref.ensures.value, c.in-Ok.ensures) at (c.in-Err-TooLarge.ensures.large c.in-Err-TooLarge.field-0-is)

pub returns-clause-fits : goal.returns-clause-fits
returns-clause-fits c = λ none _. both_ways false refl (c.in-Ok-plan.ensures.fits (rw (c.deref.ensures.value, c.in-Ok.ensures) none))
