use Rattle.std.proofs.Common.{◌≡◌, sym, subst}
use Rattle.std.proofs.Common.{None}
use Rattle.gpu_metal.specs.Source.{blocks_of, HoldsFirst}
use Rattle.gpu_metal.proofs.Asking.{begins}
use Rattle.gpu_metal.proofs.source.MetalBlocks.new.Goals as goal

pub invariant_of-result : goal.invariant_of-result
invariant_of-result g c =
    let V = g.D.MetalDevice in
    let now = c.create_residency_set.new.device in
    let h = begins V c.args.device now c.args.wants_set c.in-Ok.set c.in-Ok.ensures in
    let first : c.of-first.result.value ≡ c.args.device = c.of-first.ensures in
    subst (λ (d : g.row.D.Denot). (V.properties now ≡ V.properties d) × HoldsFirst c.in-Ok.set (V.held d) (V.held now)) (sym first) (h.0, h.1.0)

pub returns-in-Ok-clause-none : goal.returns-in-Ok-clause-none
returns-in-Ok-clause-none g c =
    let V = g.D.MetalDevice in
    let now = c.create_residency_set.new.device in
    let h = begins V c.args.device now c.args.wants_set c.in-Ok.set c.in-Ok.ensures in
    λ n. subst (λ (d : g.row.D.Denot). blocks_of (V.held d) (V.held now) n ≡ None) (sym c.of-first.ensures) (h.1.1 n)
