use Rattle.std.proofs.Common.{◌≡◌, true, false, Ok, refl, sym, subst}
use Rattle.std.proofs.lemmas.Iterator.{items_from_collect}
use Rattle.std.proofs.lemmas.Iterator.Consumers.{YieldsList-from_first}
use Rattle.gpu_run.specs.MetalCommand as commands
use Rattle.gpu_run.specs.MetalSession.{reply_to_heaps}
use Rattle.gpu_run.specs.MetalServed.{SessionValue, IsAnswered}
use Rattle.gpu_run.proofs.MetalServing.{heaps_told}
use Rattle.gpu_run.proofs.metal.session.Session.heaps.Goals as goal

pub returns-in-Ok : goal.returns-in-Ok
returns-in-Ok g c =
    let V = g.D.MetalDevice in
    let s : SessionValue g.row.D.Denot = record { allocator = c.self.inside.allocator; bound = c.self.inside.bound.entries } in
    let items : c.in-Ok.heaps.items ≡ c.heaps.result =
    items_from_collect {E = Unit {0}} (Ok c.in-Ok.heaps) c.in-Ok.ensures.ran (YieldsList-from_first (λ x. x) (λ s. s) c.heaps.result refl) in
    subst (λ x. IsAnswered V commands.Heaps (reply_to_heaps true c.in-Ok.heaps.items) x x) c.self.view_is
    (subst (λ xs. IsAnswered V commands.Heaps (reply_to_heaps true xs) s s) (sym items) (heaps_told V g.met.D.MetalDevice.refused_is true c.heaps.result s c.heaps.ensures.step))

pub returns-in-Err : goal.returns-in-Err
returns-in-Err g c =
    let V = g.D.MetalDevice in
    let s : SessionValue g.row.D.Denot = record { allocator = c.self.inside.allocator; bound = c.self.inside.bound.entries } in
    subst (λ x. IsAnswered V commands.Heaps (reply_to_heaps false c.heaps.result) x x) c.self.view_is
    (heaps_told V g.met.D.MetalDevice.refused_is false c.heaps.result s c.heaps.ensures.step)
