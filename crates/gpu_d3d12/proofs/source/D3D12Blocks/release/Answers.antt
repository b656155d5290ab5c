use Rattle.std.proofs.Common.{◌≡◌, ℕ, List, ◌∷◌, sym, subst}
use Rattle.gpu_d3d12.specs.DeviceVersion.{device_of}
use Rattle.gpu_d3d12.specs.Blocks.{IsWithoutResource}
use Rattle.gpu_d3d12.specs.Journal.{events}
use Rattle.gpu_d3d12.specs.Source.{SourceState, ReleasesResource, source_blocks}
use Rattle.gpu_d3d12.specs.declared.journal.ResourceEvent.{ResourceEvent}
use Rattle.gpu_d3d12.specs.declared.journal.ResourceEvent.TheVariants.{Released}
use Rattle.gpu_d3d12.proofs.Asking.{Holds, noted, releases_resource, released_blocks, released_holds}
use Rattle.gpu_d3d12.proofs.source.D3D12Blocks.release.Goals as goal
use Rattle.gpu_d3d12.proofs.source.D3D12Blocks.release.Goals.{After-push}

abbrev was : (g : _) (c : After-push g) → SourceState g.row.D.Denot
was g c = let i = c.self.inside in record { device = i.device; first = i.first.value; tier = i.tier; journal = events i.journal }

went : (g : _) (c : After-push g) → IsWithoutResource g.D.D3D12Device (device_of (was g c).device) c.args.resource.0 c.release_resource.new.self
went g c =
    let e = c.release_resource.ensures in
    subst (λ (d : g.row.D.Denot). IsWithoutResource g.D.D3D12Device d c.args.resource.0 c.release_resource.new.self) c.device_mut.ensures.value
    (record {
      held = e.gives_back;
      history = e.recorded;
      asks_nothing = record {
        count = e.counts_nothing;
        latest_heap = e.names_no_heap;
        latest_formats = e.names_no_formats;
        latest_clear = e.names_no_clear_value;
        latest_memory = e.names_no_memory;
        constant = e.constant;
      };
    })

journal : (g : _) (c : After-push g) → Released c.args.resource ∷ events c.self.inside.journal ≡ events c.push.new.self
journal g c = sym c.push.ensures

pub invariant_of-self : goal.invariant_of-self
invariant_of-self g c =
    let V = g.D.D3D12Device in
    let later = (goal.at.invariant_of-self g c).After-push in
    subst (λ (xs : List ResourceEvent). Holds V (noted V (was g later) c.release_resource.new.self xs)) (journal g later)
    (released_holds V (was g later) c.args.resource.0 c.self.invariant c.release_resource.new.self (went g later))

pub returns-clause-releases : goal.returns-clause-releases
returns-clause-releases g c =
    let V = g.D.D3D12Device in
    let later = (goal.at.returns-clause-releases g c).After-push in
    let after = c.release_resource.new.self in
    subst (λ (s : SourceState g.row.D.Denot). ReleasesResource V s c.args.resource.0 (noted V (was g later) after (events c.push.new.self))) c.self.view_is
    (subst (λ (xs : List ResourceEvent). ReleasesResource V (was g later) c.args.resource.0 (noted V (was g later) after xs)) (journal g later)
    (releases_resource V (was g later) c.args.resource.0 c.self.invariant after (went g later)))

pub returns-clause-blocks : goal.returns-clause-blocks
returns-clause-blocks g c =
    let V = g.D.D3D12Device in
    let later = (goal.at.returns-clause-blocks g c).After-push in
    let after = c.release_resource.new.self in
    subst (λ (s : SourceState g.row.D.Denot). (n : ℕ) → source_blocks V (noted V (was g later) after (events c.push.new.self)) n ≡ source_blocks V s n) c.self.view_is
    (released_blocks V (was g later) c.args.resource.0 c.self.invariant after (went g later))
