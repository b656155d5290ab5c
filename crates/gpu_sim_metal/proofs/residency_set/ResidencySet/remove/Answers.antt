use Rattle.std.proofs.Common.{◌≡◌, ◌≤◌, rules, sym, subst, length, arith}
use Rattle.std.proofs.lemmas.Fn.{filter_same}
use Rattle.gpu_device.specs.Metal.{remove_member}
use Rattle.gpu_sim_metal.specs.ResidencySet.{among}
use Rattle.gpu_sim_metal.proofs.Among.{once_removed}
use Rattle.gpu_sim_metal.proofs.residency_set.ResidencySet.remove.Goals as goal

pub returns-clause-members : goal.returns-clause-members
returns-clause-members c = filter_same _ _ _ (λ x b f' k. search rules) _ _ c.retain.ensures.filtered

pub invariant_of-self-clause-once : goal.invariant_of-self-clause-once
invariant_of-self-clause-once c =
    let kept : c.retain.new.self.items ≡ remove_member c.args.self.now.members.items c.args.heap = filter_same _ _ _ (λ x b f' k. search rules) _ _ c.retain.ensures.filtered in
    let before : length c.args.self.now.members.items ≤ among c.args.self.now.members.items c.args.self.now.room = omega (arith, c.args.self.now.once, c.args.self.now.members.ok.0) in
    let after : length c.retain.new.self.items ≤ among c.retain.new.self.items c.args.self.now.room =
    subst (λ l. length l ≤ among l c.args.self.now.room) (sym kept) (once_removed c.args.self.now.members.items c.args.heap c.args.self.now.room before) in
    omega (arith, after, c.retain.new.self.ok.0)

pub returns-clause-committed : goal.returns-clause-committed
returns-clause-committed c = search rules
