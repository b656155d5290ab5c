use Rattle.std.proofs.Common.{◌≡◌, ℕ, None, sym, subst}
use Rattle.gpu_metal.specs.Source.{blocks_of}
use Rattle.gpu_metal.specs.Blocks.{left_behind, residency_of}
use Rattle.gpu_metal.specs.Source.{SourceState}
use Rattle.gpu_metal.proofs.Changing.{all_left}
use Rattle.gpu_metal.proofs.source.MetalBlocks.into_device.Goals as goal

pub returns-clause-held : goal.returns-clause-held
returns-clause-held g c =
    let V = g.D.MetalDevice in
    let i = c.self.inside in
    let none : (n : ℕ) → blocks_of (V.held i.first.value) (V.held i.device) n ≡ None =
    subst (λ (s : SourceState g.row.D.Denot). (n : ℕ) → blocks_of (V.held s.first) (V.held s.device) n ≡ None) (sym c.self.view_is) c.requires in
    subst (λ (s : SourceState g.row.D.Denot). V.held i.device ≡ left_behind (V.held s.first) s.set (residency_of (V.held s.device) s.set)) c.self.view_is
    (all_left i.set (V.held i.first.value) (V.held i.device) c.self.invariant.1 none)
