use Rattle.std.proofs.Common.{sym, subst, Option, Some, Ok}
use Rattle.gpu_core.specs.Types.{slots_of}
use Rattle.gpu_pool.specs.Begin.{GivesAwaited}
use Rattle.gpu_pool.specs.Live.{StayLive}
use Rattle.gpu_pool.specs.RequestState.{RequestState, CanAnswer}
use Rattle.gpu_pool.specs.declared.requests.Awaited.{Awaited}
use Rattle.gpu_pool.proofs.Beginning.{IsPutIn, put_in}
use Rattle.gpu_pool.proofs.requests.Requests.granted.Goals as goal
use Rattle.gpu_pool.proofs.requests.Requests.granted.Goals.{After-install}

can : (g : _) (c : After-install g) → CanAnswer c.self.inside.types (Some c.in-Some.awaited)
can g c = subst (λ (o : Option Awaited). CanAnswer c.self.inside.types o) (sym c.in-Some.ensures.value) c.self.invariant.1

put : (g : _) (c : After-install g) → IsPutIn g.H.PartialEq.eq (slots_of c.self.inside.types) (slots_of c.install.new.self) c.in-Some.awaited.memory_type c.install.result
put g c =
    let i = c.self.inside in
    put_in g.H.PartialEq.eq g.met.H.Eq.laws.refl i.types (slots_of c.install.new.self) c.in-Some.awaited c.args.handle c.install.result c.self.invariant.0 (can g c) c.install.ensures.installed

pub returns-in-Some-clause-gives : goal.returns-in-Some-clause-gives
returns-in-Some-clause-gives g c =
    let k = put g (goal.at.returns-in-Some-clause-gives g c).After-install in
    let i = c.self.inside in
    let eq = g.H.PartialEq.eq in
    let new = slots_of c.install.new.self in
    subst (λ (s : RequestState g.row.H.Denot). GivesAwaited eq s.awaited s.slots new (Ok c.install.result)) c.self.view_is
    (subst (λ (o : Option Awaited). GivesAwaited eq o (slots_of i.types) new (Ok c.install.result)) c.in-Some.ensures.value ((k.new_piece.live, k.new_piece.other), k.begins))

pub returns-in-Some-clause-keeps : goal.returns-in-Some-clause-keeps
returns-in-Some-clause-keeps g c =
    let k = put g (goal.at.returns-in-Some-clause-keeps g c).After-install in
    subst (λ (s : RequestState g.row.H.Denot). StayLive g.H.PartialEq.eq s.slots (slots_of c.install.new.self)) c.self.view_is k.new_piece.keeps
