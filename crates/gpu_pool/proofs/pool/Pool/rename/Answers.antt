use Rattle.std.proofs.Common.{◌≡◌, ◌∙◌, ⊎_elim, ap, subst, None, Option, Ok, Err, Result, List, ℕ, Bool}
use Rattle.gpu_core.specs.declared.piece.Piece.{Piece}
use Rattle.gpu_values.specs.declared.error.AllocationError.{AllocationError}
use Rattle.gpu_pool.specs.Allocate.{NothingMet, NoHostMemory}
use Rattle.gpu_pool.specs.Idle.{RenamesIn, RenamesIdle}
use Rattle.gpu_pool.specs.Rename.{Renames}
use Rattle.gpu_pool.specs.RequestState.{RequestState, pool_of}
use Rattle.gpu_pool.specs.Source.{result_of}
use Rattle.gpu_pool.specs.State.{State}
use Rattle.gpu_pool.specs.declared.requests.Awaited.{Awaited}
use Rattle.gpu_pool.proofs.Agreeing.{IsClosed}
use Rattle.gpu_pool.proofs.Naming.{renamed_stay}
use Rattle.gpu_pool.proofs.Renaming.{renamed_holds}
use Rattle.gpu_pool.proofs.pool.Pool.rename.Goals as goal
use Rattle.gpu_pool.proofs.pool.Pool.rename.Goals.{After-rename}

module _ {S H : Type 0} (eq : H → H → Bool) (t : ℕ) (p : Piece H) (name : List ℕ) (source : S) (old new : RequestState H) (shut : old.awaited ≡ None) where
  -- what requests without an open question make of it is what a pool makes of it
  record Left (result : Result (Unit {0}) AllocationError) : Type 0 where
    pub renames : Renames eq t p name (pool_of source old) (result_of result) (pool_of source new)
    pub closed : IsClosed old new

  left_in : (result : Result (Unit {0}) AllocationError) → RenamesIn eq None old t p name result new → Left result
  left_in (Ok u) r = record {
    renames = (NothingMet, (r.0, ap (λ (k : RequestState H). pool_of source k) r.1));
    closed = record { awaited = ap (λ (k : RequestState H). k.awaited) r.1 ∙ shut; kinds = ap (λ (k : RequestState H). k.kinds) r.1 };
  }
  left_in (Err e) r = record {
    renames = ⊎_elim
        (λ starved. (NoHostMemory, (starved.0, starved.1, ap (λ (k : RequestState H). pool_of source k) r.1)))
        (λ dead. (NothingMet, (record { dead = dead.0; other = dead.1; cause = dead.2 }, ap (λ (k : RequestState H). pool_of source k) r.1)))
        r.0;
    closed = record { awaited = ap (λ (k : RequestState H). k.awaited) r.1 ∙ shut; kinds = ap (λ (k : RequestState H). k.kinds) r.1 };
  }

  left : (result : Result (Unit {0}) AllocationError) → RenamesIdle eq old t p name result new → Left result
  left result r = left_in result (subst (λ (o : Option Awaited). RenamesIn eq o old t p name result new) shut r)

renamed : (g : _) (c : After-rename g) → Left g.S.Handle.PartialEq.eq c.args.index c.args.piece.now c.args.name.now c.self.inside.source c.self.inside.requests c.rename.new.self c.self.invariant.0 c.rename.result
renamed g c =
    left g.S.Handle.PartialEq.eq c.args.index c.args.piece.now c.args.name.now c.self.inside.source c.self.inside.requests c.rename.new.self c.self.invariant.0 c.rename.result c.rename.ensures.renames

pub invariant_of-self : goal.invariant_of-self
invariant_of-self g c =
    let B = g.S.BlockSource in
    let i = c.self.inside in
    let k = renamed g (goal.at.invariant_of-self g c).After-rename in (
      k.closed.awaited,
      k.closed.kinds ∙ c.self.invariant.1,
      renamed_holds B.number g.S.Handle.PartialEq.eq (B.held i.source) c.args.index c.args.piece.now c.args.name.now (pool_of i.source i.requests) c.rename.result
          (pool_of i.source c.rename.new.self) k.renames c.self.invariant.2,
    )

pub returns : goal.returns
returns g c =
    let i = c.self.inside in
    let eq = g.S.Handle.PartialEq.eq in
    let new : State g.row.S.Denot g.row.S-Handle.Denot = pool_of i.source c.rename.new.self in
    let is : Renames eq c.args.index c.args.piece.now c.args.name.now c.args.self.now (result_of c.rename.result) new =
    subst (λ (s : State g.row.S.Denot g.row.S-Handle.Denot). Renames eq c.args.index c.args.piece.now c.args.name.now s (result_of c.rename.result) new)
    c.self.view_is (renamed g (goal.at.returns g c).After-rename).renames in
    record { renames = is; keeps = renamed_stay eq c.args.index c.args.piece.now c.args.name.now c.args.self.now new (result_of c.rename.result) is }
