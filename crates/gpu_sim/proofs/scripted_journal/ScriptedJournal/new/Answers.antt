use Rattle.std.proofs.Common.{List, ◌∷◌, ap, ◌∙◌, subst, sym}
use Rattle.gpu_device.specs.VulkanHistory.{scripted, questions_in, scripted_in, limit_in}
use Rattle.gpu_device.specs.declared.vulkan.event.Event.{Event}
use Rattle.gpu_device.specs.declared.vulkan.event.Event.TheVariants.{Limited}
use Rattle.gpu_sim_base.specs.Script.{refusal_at}
use Rattle.gpu_sim_base.specs.declared.script.Script.{Script}
use Rattle.gpu_sim.specs.Scripted.{EndAsScripted}
use Rattle.gpu_sim.proofs.Scripts.{same_entries, no_question, ends}
use Rattle.gpu_sim.proofs.scripted_journal.ScriptedJournal.new.Goals as goal

pub invariant_of-result : goal.invariant_of-result
invariant_of-result c =
    let es = c.args.entries.items in
    let limit = c.args.limit in
    let begins = c.limited.ensures ∙ ap (λ (events : List Event). Limited limit ∷ events) (c.with_script-journal.ensures ∙ ap scripted c.deref.ensures.value) in record {
      limited = sym (ap limit_in begins);
      entries = λ question. ap (λ (events : List Event). scripted_in events question) begins ∙ same_entries es question ∙ sym (ap (λ (s : Script). refusal_at s.entries.items question) c.new.ensures);
      counted = ap (λ (s : Script). s.questions) c.new.ensures ∙ no_question es ∙ sym (ap questions_in begins);
      ended = subst EndAsScripted (sym begins) (tt, ends es);
    }
