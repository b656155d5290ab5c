use Rattle.std.proofs.Common.{◌≡◌, ◌∙◌, ℕ, None, sym, ap, subst}
use Rattle.gpu_device.specs.D3D12.{Held}
use Rattle.gpu_d3d12.specs.DeviceVersion.{device_of}
use Rattle.gpu_d3d12.specs.Journal.{events, IsFirstAndOut}
use Rattle.gpu_d3d12.specs.Source.{SourceState, source_blocks, source_beside}
use Rattle.gpu_d3d12.proofs.Changing.{all_beside}
use Rattle.gpu_d3d12.proofs.Journaling.{first_and_out}
use Rattle.gpu_d3d12.proofs.source.D3D12Blocks.into_device.Goals as goal

pub returns-clause-held : goal.returns-clause-held
returns-clause-held g c =
    let V = g.D.D3D12Device in
    let i = c.self.inside in
    let was : SourceState g.row.D.Denot = record { device = i.device; first = i.first.value; tier = i.tier; journal = events i.journal } in
    let none : (n : ℕ) → source_blocks V was n ≡ None = subst (λ (s : SourceState g.row.D.Denot). (n : ℕ) → source_blocks V s n ≡ None) (sym c.self.view_is) c.requires in
    all_beside (V.held (device_of i.first.value)) (V.held (device_of i.device)) none ∙ ap (source_beside V) c.self.view_is

pub returns-clause-left : goal.returns-clause-left
returns-clause-left g c =
    let V = g.D.D3D12Device in
    let i = c.self.inside in
    let first = V.held (device_of i.first.value) in
    let held = V.held (device_of i.device) in
    let was : SourceState g.row.D.Denot = record { device = i.device; first = i.first.value; tier = i.tier; journal = events i.journal } in
    let none : (n : ℕ) → source_blocks V was n ≡ None = subst (λ (s : SourceState g.row.D.Denot). (n : ℕ) → source_blocks V s n ≡ None) (sym c.self.view_is) c.requires in
    subst (λ (s : SourceState g.row.D.Denot). IsFirstAndOut (V.held (device_of s.first)) held s.journal) c.self.view_is
    (subst (λ (k : Held). IsFirstAndOut first k (events i.journal)) (sym (all_beside first held none)) (first_and_out i.tier first held (events i.journal) c.self.invariant.2 c.self.invariant.3))
