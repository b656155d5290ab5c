use Rattle.std.proofs.Common.{List, ap, ◌∙◌, subst, sym}
use Rattle.gpu_device.specs.MetalHistory.{questions_in, scripted_in}
use Rattle.gpu_device.specs.declared.metal.event.Event.{Event}
use Rattle.gpu_sim_base.specs.Script.{refusal_at}
use Rattle.gpu_sim_base.specs.declared.script.Script.{Script}
use Rattle.gpu_sim_metal.specs.Scripted.{EndAsScripted, told}
use Rattle.gpu_sim_metal.proofs.Scripts.{same_entries, no_question, ends}
use Rattle.gpu_sim_metal.proofs.scripted_journal.ScriptedJournal.new.Goals as goal

pub invariant_of-result : goal.invariant_of-result
invariant_of-result c =
    let r = c.args.residency in
    let es = c.args.entries.items in
    let begins = c.begun-journal.ensures ∙ ap (told r) c.deref.ensures.value in record {
      entries = λ question. ap (λ (events : List Event). scripted_in events question) begins ∙ same_entries r es question ∙ sym (ap (λ (s : Script). refusal_at s.entries.items question) c.new.ensures);
      counted = ap (λ (s : Script). s.questions) c.new.ensures ∙ no_question r es ∙ sym (ap questions_in begins);
      ended = subst EndAsScripted (sym begins) (ends r es);
    }
