use Rattle.std.proofs.Common.{ap, ◌∙◌, sym, length, rules}
use Rattle.gpu_device.specs.MetalHistory.{refused_in, sets_in}
use Rattle.gpu_sim_metal.specs.Scripted.{issued_in}
use Rattle.gpu_sim_metal.proofs.Scripts.{no_refusal, none_issued, told_sets}
use Rattle.gpu_sim_metal.proofs.sim_metal.SimMetal.new.Goals as goal

pub invariant_of-result : goal.invariant_of-result
invariant_of-result c = record {
  numbered = ap length c.new.ensures ∙ none_issued c.args.residency c.args.refusals.items ∙ sym (ap issued_in c.new-2.ensures.history);
  told_sets = told_sets c.args.residency c.args.refusals.items ∙ sym (ap sets_in c.new-2.ensures.history);
}

pub returns-clause-plan : goal.returns-clause-plan
returns-clause-plan c = search rules

pub returns-clause-refused : goal.returns-clause-refused
returns-clause-refused c = ap refused_in c.new-2.ensures.history ∙ no_refusal c.args.residency c.args.refusals.items
