use Rattle.std.proofs.Common.{◌≡◌, rules, sym, ap, subst, ℕ, Bool, List, Option, None, Ok, Err, Result, OnOk, IfErr, OnErr}
use Rattle.gpu_values.specs.Refusal.{refusal_of}
use Rattle.gpu_values.specs.Sizes.{Sizes}
use Rattle.gpu_values.specs.declared.error.AllocationError.{AllocationError}
use Rattle.gpu_core.specs.declared.piece.Piece.{Piece}
use Rattle.gpu_core.specs.Blocks.{slots_at}
use Rattle.gpu_core.specs.Budgets.{budgets}
use Rattle.gpu_core.specs.Rename.{IsWorded, IsNotWorded}
use Rattle.gpu_core.specs.Types.{Types, slots_of, kinds}
use Rattle.gpu_pool.specs.Idle.{SetsWordIn, SetsWordIdle}
use Rattle.gpu_pool.specs.RequestState.{RequestState, requests_of}
use Rattle.gpu_pool.specs.declared.requests.Awaited.{Awaited}
use Rattle.gpu_pool.proofs.Beginning.{worded_stay}
use Rattle.gpu_pool.proofs.requests.Requests.set_word.Goals as goal
use Rattle.gpu_pool.proofs.requests.Requests.set_word.Goals.{After-set_word}

sets : {H : Type 0} (eq : H → H → Bool) (sizes : Sizes) (t : ℕ) (p : Piece H) (word : ℕ) (types new : Types H) (a : Option Awaited) (result : Result (Unit {0}) AllocationError)
    → OnOk result (IsWorded eq t p word (slots_of types) (slots_of new)) → IfErr result (λ e. IsNotWorded eq (slots_at (slots_of types) t) p (refusal_of e)) → OnErr result (new ≡ types)
    → kinds new ≡ kinds types → budgets new ≡ budgets types → SetsWordIn eq None (requests_of sizes types a) t p word result (requests_of sizes new a)
sets eq sizes t p word types new a (Ok _) renamed cause refused ks bs = (renamed, λ i. record { kinds = ks i; sizes = sizes; slots = slots_of new; budgets = bs i; awaited = a })
sets eq sizes t p word types new a (Err e) renamed cause refused ks bs = (cause, ap (λ ts. requests_of sizes ts a) refused)

closed : (g : _) (c : After-set_word g) → c.self.inside.awaited ≡ None
closed g c = search rules

worded : (g : _) (c : After-set_word g) → SetsWordIdle g.H.PartialEq.eq c.args.self.now c.args.index c.args.piece.now c.args.word c.set_word.result (requests_of c.self.inside.sizes c.set_word.new.self c.self.inside.awaited)
worded g c =
    let i = c.self.inside in
    let a = c.args in
    let e = c.set_word.ensures in
    let eq = g.H.PartialEq.eq in
    let new = requests_of i.sizes c.set_word.new.self i.awaited in
    subst (λ (s : RequestState g.row.H.Denot). SetsWordIdle eq s a.index a.piece.now a.word c.set_word.result new) c.self.view_is
    (subst (λ (o : Option Awaited). SetsWordIn eq o (requests_of i.sizes i.types i.awaited) a.index a.piece.now a.word c.set_word.result new) (sym (closed g c))
    (sets eq i.sizes a.index a.piece.now a.word i.types c.set_word.new.self i.awaited c.set_word.result e.set e.cause e.refused e.kinds e.budgets))

pub returns : goal.returns
returns g c =
    let i = c.self.inside in
    let a = c.args in
    let r = worded g (goal.at.returns g c).After-set_word in
    record { sets = r; keeps = worded_stay g.H.PartialEq.eq a.self.now (requests_of i.sizes c.set_word.new.self i.awaited) a.index a.piece.now a.word c.set_word.result r }
