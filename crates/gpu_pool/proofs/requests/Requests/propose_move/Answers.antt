use Rattle.std.proofs.Common.{◌≡◌, rules, None, subst}
use Rattle.gpu_core.specs.TypeTake.{asked}
use Rattle.gpu_core.specs.Types.{slots_of}
use Rattle.gpu_pool.specs.Live.{IsLive}
use Rattle.gpu_pool.specs.RequestState.{RequestState, requests_of}
use Rattle.gpu_pool.proofs.Moving.{Outcome, outcome}
use Rattle.gpu_pool.proofs.requests.Requests.propose_move.Goals as goal
use Rattle.gpu_pool.proofs.requests.Requests.propose_move.Goals.{After-propose_move}

closed : (g : _) (c : After-propose_move g) → c.self.inside.awaited ≡ None
closed g c = search rules

proposed : (g : _) (c : After-propose_move g)
    → Outcome g.H.PartialEq.eq c.args.index c.args.piece.now (asked c.args.request.now) c.args.self.now c.propose_move.result (requests_of c.self.inside.sizes c.propose_move.new.self c.self.inside.awaited)
proposed g c =
    let i = c.self.inside in
    let a = c.args in
    let e = c.propose_move.ensures in
    let live : IsLive g.H.PartialEq.eq (slots_of i.types) a.index a.piece.now = search rules in
    subst (λ (s : RequestState g.row.H.Denot). Outcome g.H.PartialEq.eq a.index a.piece.now (asked a.request.now) s c.propose_move.result (requests_of i.sizes c.propose_move.new.self i.awaited)) c.self.view_is
    (outcome g.H.PartialEq.eq g.met.H.Eq.laws.refl i.sizes a.index a.piece.now (asked a.request.now) i.types c.self.invariant.0 i.awaited (closed g c) c.propose_move.new.self e.kinds e.budgets e.kept live
    c.propose_move.result e.proposed e.none e.cause e.refused)

pub returns : goal.returns
returns g c = let o = proposed g (goal.at.returns g c).After-propose_move in record { proposes = o.proposes; gives = o.gives; keeps = o.keeps }
