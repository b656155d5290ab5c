use Rattle.std.proofs.Common.{◌≡◌, rules, None}
use Rattle.gpu_core.specs.declared.memory_type.Prepared.TheVariants as prepared
use Rattle.gpu_core.specs.Requests.{PreparesAt}
use Rattle.gpu_pool.proofs.Beginning.{denied_owns, taken_owns, asked_owns}
use Rattle.gpu_pool.proofs.Preparing.{inside, denied_at, taken_at, asks_at, answers_at}
use Rattle.gpu_pool.proofs.requests.Requests.begin.Goals as goal
use Rattle.gpu_pool.proofs.requests.Requests.begin.Goals.{After-prepare}

closed : (g : _) (c : After-prepare g) → c.self.inside.awaited ≡ None
closed g c = search rules

pub prepare-requires-clause-there : goal.prepare-requires-clause-there
prepare-requires-clause-there g c =
    let i = c.self.inside in
    inside c.args.self.now i.sizes c.args.index i.types i.awaited c.self.view_is c.requires.there

pub returns-in-Err : goal.returns-in-Err
returns-in-Err g c =
    let i = c.self.inside in
    let a = c.args in
    let e = c.in-Err.ensures in
    let o = denied_owns g.H.PartialEq.eq g.met.H.Eq.laws.refl a.self.now i.sizes a.index a.request.now i.types i.awaited c.self.view_is c.requires.there c.self.invariant.0
    c.in-Err.error c.prepare.new.self e.refused in
    record {
      begins = denied_at a.self.now i.sizes a.index a.request.now i.types i.awaited c.self.view_is c.requires.there (closed g ((goal.at.returns-in-Err g c).After-prepare))
          c.in-Err.error c.prepare.new.self e.cause e.refused e.budgets e.kinds;
      gives = o.gives;
      keeps = o.keeps;
    }

pub returns-in-Ok-Taken : goal.returns-in-Ok-Taken
returns-in-Ok-Taken g c =
    let i = c.self.inside in
    let a = c.args in
    let e = c.in-Ok-Taken.ensures in
    let h : PreparesAt a.index i.types i.sizes a.request.now (prepared.Taken c.in-Ok-Taken.piece) c.prepare.new.self = rw c.in-Ok-Taken.field-0-is at e.prepared in
    let o = taken_owns g.H.PartialEq.eq g.met.H.Eq.laws.refl a.self.now i.sizes a.index a.request.now i.types i.awaited c.self.view_is c.requires.there c.self.invariant.0
    c.in-Ok-Taken.piece c.prepare.new.self h e.budgets e.kinds e.kept in
    record {
      begins = taken_at a.self.now i.sizes a.index a.request.now i.types i.awaited c.self.view_is c.requires.there (closed g ((goal.at.returns-in-Ok-Taken g c).After-prepare))
          c.in-Ok-Taken.piece c.prepare.new.self h e.budgets e.kinds;
      gives = o.gives;
      keeps = o.keeps;
    }

pub invariant_of-self-2 : goal.invariant_of-self-2
invariant_of-self-2 g c =
    let i = c.self.inside in
    let e = c.in-Ok-NeedBlock.ensures in
    let h : PreparesAt c.args.index i.types i.sizes c.args.request.now (prepared.NeedBlock c.in-Ok-NeedBlock.need) c.prepare.new.self = rw c.in-Ok-NeedBlock.field-0-is at e.prepared in (
      e.kept,
      answers_at c.args.self.now i.sizes c.args.index c.args.request.now i.types i.awaited c.self.view_is c.requires.there (closed g ((goal.at.invariant_of-self-2 g c).After-prepare))
          c.in-Ok-NeedBlock.need c.prepare.new.self h e.budgets e.kinds,
    )

pub returns : goal.returns
returns g c =
    let i = c.self.inside in
    let a = c.args in
    let e = c.in-Ok-NeedBlock.ensures in
    let need = c.in-Ok-NeedBlock.need in
    let h : PreparesAt a.index i.types i.sizes a.request.now (prepared.NeedBlock need) c.prepare.new.self = rw c.in-Ok-NeedBlock.field-0-is at e.prepared in
    let o = asked_owns g.H.PartialEq.eq g.met.H.Eq.laws.refl a.self.now i.sizes a.index a.request.now i.types i.awaited c.self.view_is c.requires.there c.self.invariant.0
    need c.prepare.new.self (record { memory_type = a.index; size = need.size; dedicated = need.dedicated }) h e.budgets e.kinds in
    record {
      begins = asks_at a.self.now i.sizes a.index a.request.now i.types i.awaited c.self.view_is c.requires.there (closed g ((goal.at.returns g c).After-prepare))
          need c.prepare.new.self h e.budgets e.kinds;
      gives = o.gives;
      keeps = o.keeps;
    }
