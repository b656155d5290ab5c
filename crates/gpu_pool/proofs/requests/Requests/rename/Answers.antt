use Rattle.std.proofs.Common.{◌≡◌, rules, sym, ap, subst, ℕ, Bool, List, Option, None, Ok, Err, Result, OnOk, IfErr, OnErr}
use Rattle.gpu_values.specs.Refusal.{refusal_of}
use Rattle.gpu_values.specs.Sizes.{Sizes}
use Rattle.gpu_values.specs.declared.error.AllocationError.{AllocationError}
use Rattle.gpu_core.specs.declared.piece.Piece.{Piece}
use Rattle.gpu_core.specs.Blocks.{slots_at}
use Rattle.gpu_core.specs.Budgets.{budgets}
use Rattle.gpu_core.specs.Rename.{IsRenamed, IsNotNamed}
use Rattle.gpu_core.specs.Types.{Types, slots_of, kinds}
use Rattle.gpu_pool.specs.Idle.{RenamesIn, RenamesIdle}
use Rattle.gpu_pool.specs.RequestState.{RequestState, requests_of}
use Rattle.gpu_pool.specs.declared.requests.Awaited.{Awaited}
use Rattle.gpu_pool.proofs.Beginning.{renamed_stay}
use Rattle.gpu_pool.proofs.requests.Requests.rename.Goals as goal
use Rattle.gpu_pool.proofs.requests.Requests.rename.Goals.{After-rename}

renames : {H : Type 0} (eq : H → H → Bool) (sizes : Sizes) (t : ℕ) (p : Piece H) (name : List ℕ) (types new : Types H) (a : Option Awaited) (result : Result (Unit {0}) AllocationError)
    → OnOk result (IsRenamed eq t p name (slots_of types) (slots_of new)) → IfErr result (λ e. IsNotNamed eq (slots_at (slots_of types) t) p (refusal_of e)) → OnErr result (new ≡ types)
    → kinds new ≡ kinds types → budgets new ≡ budgets types → RenamesIn eq None (requests_of sizes types a) t p name result (requests_of sizes new a)
renames eq sizes t p name types new a (Ok _) renamed cause refused ks bs = (renamed, λ i. record { kinds = ks i; sizes = sizes; slots = slots_of new; budgets = bs i; awaited = a })
renames eq sizes t p name types new a (Err e) renamed cause refused ks bs = (cause, ap (λ ts. requests_of sizes ts a) refused)

closed : (g : _) (c : After-rename g) → c.self.inside.awaited ≡ None
closed g c = search rules

named : (g : _) (c : After-rename g) → RenamesIdle g.H.PartialEq.eq c.args.self.now c.args.index c.args.piece.now c.args.name.now c.rename.result (requests_of c.self.inside.sizes c.rename.new.self c.self.inside.awaited)
named g c =
    let i = c.self.inside in
    let a = c.args in
    let e = c.rename.ensures in
    let eq = g.H.PartialEq.eq in
    let new = requests_of i.sizes c.rename.new.self i.awaited in
    subst (λ (s : RequestState g.row.H.Denot). RenamesIdle eq s a.index a.piece.now a.name.now c.rename.result new) c.self.view_is
    (subst (λ (o : Option Awaited). RenamesIn eq o (requests_of i.sizes i.types i.awaited) a.index a.piece.now a.name.now c.rename.result new) (sym (closed g c))
    (renames eq i.sizes a.index a.piece.now a.name.now i.types c.rename.new.self i.awaited c.rename.result e.renamed e.cause e.refused e.kinds e.budgets))

pub returns : goal.returns
returns g c =
    let i = c.self.inside in
    let a = c.args in
    let r = named g (goal.at.returns g c).After-rename in
    record { renames = r; keeps = renamed_stay g.H.PartialEq.eq a.self.now (requests_of i.sizes c.rename.new.self i.awaited) a.index a.piece.now a.name.now c.rename.result r }
