use Rattle.std.proofs.Common.{arith, rules}
use Rattle.gpu_sim_metal.proofs.Among.{among_le}
use Rattle.gpu_sim_metal.proofs.residency_set.ResidencySet.commit.Goals as goal

pub copy_within_room-requires : goal.copy_within_room-requires
copy_within_room-requires c =
    omega (arith, c.deref.ensures.len, c.args.self.now.once, c.args.self.now.committed_fit, among_le c.args.self.now.members.items c.args.self.now.room)

pub returns-clause-members : goal.returns-clause-members
returns-clause-members c = search rules
