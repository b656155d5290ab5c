use Rattle.gpu_pool.proofs.Owning.{Owns}
use Rattle.gpu_pool.proofs.Outcomes.{owned}
use Rattle.gpu_pool.proofs.pool.Pool.allocate.Goals as goal
use Rattle.gpu_pool.proofs.pool.Pool.allocate.Goals.{After-blocks_are_sound-2}

owns : (g : _) (c : After-blocks_are_sound-2 g) → Owns g.S.Handle.PartialEq.eq c.args.index c.args.self.now.slots c.serve-result.new.self.slots c.serve-result.result
owns g c =
    let i = c.self.inside in
    let j = c.self-2.inside in
    owned g.S.BlockSource g.S.Handle.PartialEq.eq g.met.S.Handle.Eq.laws.refl c.args.index c.args.request.now c.args.extra i.source j.source i.requests j.requests c.self.invariant c.self-2.invariant
    c.blocks_are_sound.ensures.types c.blocks_are_sound.ensures.sound c.blocks_are_sound-2.ensures.sound c.args.self.now c.serve-result.new.self c.self.view_is c.self-2.view_is c.serve-result.result
    c.requires.there c.serve-result.ensures.allocates c.serve-result.ensures.constant

pub returns-clause-keeps : goal.returns-clause-keeps
returns-clause-keeps g c = (owns g (goal.at.returns-clause-keeps g c).After-blocks_are_sound-2).keeps

pub returns-clause-live : goal.returns-clause-live
returns-clause-live g c = (owns g (goal.at.returns-clause-live g c).After-blocks_are_sound-2).gives
