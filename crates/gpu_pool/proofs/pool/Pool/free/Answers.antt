use Rattle.std.proofs.Common.{◌≡◌, ◌∙◌, sym, subst}
use Rattle.gpu_pool.specs.Free.{PoolFrees, GivesBackOf}
use Rattle.gpu_pool.specs.Live.{IsLive}
use Rattle.gpu_pool.specs.Source.{result_of}
use Rattle.gpu_pool.specs.State.{State}
use Rattle.gpu_pool.specs.RequestState.{pool_of}
use Rattle.gpu_pool.proofs.Freeing.{frees_holds, frees_kinds, frees_keeps, frees_over}
use Rattle.gpu_pool.proofs.pool.Pool.free.Goals as goal
use Rattle.gpu_pool.proofs.pool.Pool.free.Goals.{After-free_piece}

abbrev was : (g : _) (c : After-free_piece g) → State g.row.S.Denot g.row.S-Handle.Denot
was g c = pool_of c.self.inside.source c.self.inside.requests

abbrev now : (g : _) (c : After-free_piece g) → State g.row.S.Denot g.row.S-Handle.Denot
now g c = pool_of c.free_piece.new.source c.free_piece.new.requests

pub invariant_of-self : goal.invariant_of-self
invariant_of-self g c =
    let later = (goal.at.invariant_of-self g c).After-free_piece in
    let f = c.free_piece.ensures.frees in
    let a = c.args in
    let B = g.S.BlockSource in
    let eq = g.S.Handle.PartialEq.eq in (
      c.free_piece.ensures.closed,
      c.free_piece.ensures.kinds ∙ c.self.invariant.1 ∙ sym (frees_kinds B eq a.index a.piece.now (was g later) (result_of c.free_piece.result) (now g later) f),
      frees_holds B eq a.index a.piece.now (was g later) (result_of c.free_piece.result) (now g later) f c.self.invariant.2,
    )

pub returns-clause-frees : goal.returns-clause-frees
returns-clause-frees g c =
    let later = (goal.at.returns-clause-frees g c).After-free_piece in
    let B = g.S.BlockSource in
    let eq = g.S.Handle.PartialEq.eq in
    let a = c.args in
    subst (λ (s : State g.row.S.Denot g.row.S-Handle.Denot). PoolFrees B.gives_back eq a.index a.piece.now s (result_of c.free_piece.result) (now g later)) c.self.view_is
    (frees_over (GivesBackOf B) B.gives_back (λ s. s) eq a.index a.piece.now (was g later) (now g later) (λ handle k. k.exactly) (result_of c.free_piece.result) c.free_piece.ensures.frees)

pub returns-clause-constant : goal.returns-clause-constant
returns-clause-constant g c =
    let later = (goal.at.returns-clause-constant g c).After-free_piece in
    let B = g.S.BlockSource in
    let a = c.args in
    subst (λ (s : State g.row.S.Denot g.row.S-Handle.Denot). B.kinds c.free_piece.new.source ≡ B.kinds s.source) c.self.view_is
    (frees_kinds B g.S.Handle.PartialEq.eq a.index a.piece.now (was g later) (result_of c.free_piece.result) (now g later) c.free_piece.ensures.frees)

pub returns-clause-keeps : goal.returns-clause-keeps
returns-clause-keeps g c = λ t p live other.
    let later = (goal.at.returns-clause-keeps g c).After-free_piece in
    let a = c.args in
    let i = c.self.inside in
    let B = g.S.BlockSource in
    let eq = g.S.Handle.PartialEq.eq in
    let before : IsLive eq i.requests.slots t p = subst (λ (s : State g.row.S.Denot g.row.S-Handle.Denot). IsLive eq s.slots t p) (sym c.self.view_is) live in
    frees_keeps (GivesBackOf B) eq i.requests.kinds a.index a.piece.now (was g later) (result_of c.free_piece.result) (now g later)
    (c.blocks_are_sound.ensures.sound a.index) c.free_piece.ensures.frees t p before other
