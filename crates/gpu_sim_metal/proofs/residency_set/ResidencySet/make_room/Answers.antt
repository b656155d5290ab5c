use Rattle.std.proofs.Common.{◌≤◌, sym, subst, vec_len, arith, rules}
use Rattle.gpu_sim_metal.specs.ResidencySet.{among}
use Rattle.gpu_sim_metal.proofs.Among.{among_grow}
use Rattle.gpu_sim_metal.proofs.residency_set.ResidencySet.make_room.Goals as goal

pub invariant_of-self-2-clause-once : goal.invariant_of-self-2-clause-once
invariant_of-self-2-clause-once c =
    let items = c.reserve.ensures.items in
    let more : among c.args.self.now.members.items c.args.self.now.room ≤ among c.args.self.now.members.items c.args.room = among_grow c.args.self.now.members.items _ _
    (omega (arith, c.if-room-self.false)) in
    subst (λ l. vec_len c.reserve.new.self ≤ among l c.args.room) (sym items) (omega (arith, more, c.reserve.ensures.len, c.args.self.now.once))

pub invariant_of-self-2-clause-committed_fit : goal.invariant_of-self-2-clause-committed_fit
invariant_of-self-2-clause-committed_fit c = search rules
