use Rattle.std.proofs.Common.{Some, option_map, sym, ap, ◌∙◌}
use Rattle.gpu_sim_metal.specs.declared.residency_set.ResidencySet.{ResidencySet}
use Rattle.gpu_sim_metal.proofs.Sets.{members_are}
use Rattle.gpu_sim_metal.proofs.sim_metal.SimMetal.members.Goals as goal

pub returns-in-Some : goal.returns-in-Some
returns-in-Some c =
    ap Some c.members.ensures ∙ ap (option_map (λ (s : ResidencySet). s.members.items)) c.in-Some.ensures
    ∙ sym (members_are c.args.self.now.objects.numbers.slots.items c.args.set.0)

pub returns-in-None : goal.returns-in-None
returns-in-None c =
    ap (option_map (λ (s : ResidencySet). s.members.items)) c.in-None.ensures ∙ sym (members_are c.args.self.now.objects.numbers.slots.items c.args.set.0)
