use Rattle.std.proofs.Common.{rules, refl, subst}
use Rattle.gpu_core.specs.Types.{kinds}
use Rattle.gpu_pool.specs.Idle.{FreesIdle}
use Rattle.gpu_pool.specs.RequestState.{RequestState, requests_of}
use Rattle.gpu_pool.specs.State.{IsSoundAt}
use Rattle.gpu_pool.proofs.Beginning.{freed_stay}
use Rattle.gpu_pool.proofs.Owning.{sound_at}
use Rattle.gpu_pool.proofs.requests.Requests.free.Goals as goal
use Rattle.gpu_pool.proofs.requests.Requests.free.Goals.{After-free}

frees : (g : _) (c : After-free g) → FreesIdle g.H.PartialEq.eq c.args.self.now c.args.index c.args.piece.now c.free.result (requests_of c.self.inside.sizes c.free.new.self c.self.inside.awaited)
frees g c = search rules

pub returns-clause-keeps : goal.returns-clause-keeps
returns-clause-keeps g c =
    let i = c.self.inside in
    let a = c.args in
    let sound = subst (λ (s : RequestState g.row.H.Denot). IsSoundAt s.kinds s.slots a.index) c.self.view_is (sound_at i.types (kinds i.types) refl c.self.invariant.0 a.index) in
    freed_stay g.H.PartialEq.eq a.self.now (requests_of i.sizes c.free.new.self i.awaited) a.index a.piece.now sound c.free.result (frees g (goal.at.returns-clause-keeps g c).After-free)
