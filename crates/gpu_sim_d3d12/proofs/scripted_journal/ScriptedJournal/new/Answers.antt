use Rattle.std.proofs.Common.{List, ap, ◌∙◌, subst, sym}
use Rattle.gpu_device.specs.D3D12History.{scripted, questions_in, scripted_in}
use Rattle.gpu_device.specs.declared.d3d12.event.Event.{Event}
use Rattle.gpu_sim_base.specs.Script.{refusal_at}
use Rattle.gpu_sim_base.specs.declared.script.Script.{Script}
use Rattle.gpu_sim_d3d12.specs.Scripted.{EndAsScripted}
use Rattle.gpu_sim_d3d12.proofs.Scripts.{same_entries, no_question, ends}
use Rattle.gpu_sim_d3d12.proofs.scripted_journal.ScriptedJournal.new.Goals as goal

pub invariant_of-result : goal.invariant_of-result
invariant_of-result c = let begins = c.with_script-journal.ensures ∙ ap scripted c.deref.ensures.value in record {
  entries = λ question. ap (λ (events : List Event). scripted_in events question) begins ∙ same_entries c.args.entries.items question ∙ sym (ap (λ (s : Script). refusal_at s.entries.items question) c.new.ensures);
  counted = ap (λ (s : Script). s.questions) c.new.ensures ∙ no_question c.args.entries.items ∙ sym (ap questions_in begins);
  ended = subst EndAsScripted (sym begins) (ends c.args.entries.items);
}
