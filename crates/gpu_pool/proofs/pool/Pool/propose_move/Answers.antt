use Rattle.std.proofs.Common.{◌∙◌, subst}
use Rattle.gpu_core.specs.TypeTake.{asked}
use Rattle.gpu_pool.specs.Move.{Proposes}
use Rattle.gpu_pool.specs.RequestState.{pool_of}
use Rattle.gpu_pool.specs.Source.{result_of}
use Rattle.gpu_pool.specs.State.{State}
use Rattle.gpu_pool.proofs.Moving.{Left, left}
use Rattle.gpu_pool.proofs.pool.Pool.propose_move.Goals as goal
use Rattle.gpu_pool.proofs.pool.Pool.propose_move.Goals.{After-propose_move}

proposed : (g : _) (c : After-propose_move g)
    → Left g.S.BlockSource.number (g.S.BlockSource.held c.self.inside.source) g.S.Handle.PartialEq.eq c.args.index c.args.piece.now (asked c.args.request.now) c.self.inside.source c.self.inside.requests
    c.propose_move.new.self c.self.invariant.0 c.self.invariant.2 c.propose_move.result
proposed g c =
    let i = c.self.inside in
    left g.S.BlockSource.number (g.S.BlockSource.held i.source) g.S.Handle.PartialEq.eq c.args.index c.args.piece.now (asked c.args.request.now) i.source i.requests c.propose_move.new.self c.self.invariant.0
    c.self.invariant.2 c.propose_move.result c.propose_move.ensures.proposes

pub invariant_of-self : goal.invariant_of-self
invariant_of-self g c = let k = proposed g (goal.at.invariant_of-self g c).After-propose_move in (k.closed.awaited, k.closed.kinds ∙ c.self.invariant.1, k.holds_still)

pub returns-clause-proposes : goal.returns-clause-proposes
returns-clause-proposes g c =
    let i = c.self.inside in
    subst (λ (s : State g.row.S.Denot g.row.S-Handle.Denot). Proposes g.S.Handle.PartialEq.eq c.args.index c.args.piece.now (asked c.args.request.now) s (result_of c.propose_move.result)
    (pool_of i.source c.propose_move.new.self)) c.self.view_is (proposed g (goal.at.returns-clause-proposes g c).After-propose_move).proposes
