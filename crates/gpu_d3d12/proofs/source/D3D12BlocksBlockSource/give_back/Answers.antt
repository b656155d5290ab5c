use Rattle.std.specs.Prelude.{IsSome}
use Rattle.std.proofs.Common.{subst, sym}
use Rattle.gpu_d3d12.specs.DeviceVersion.{device_of}
use Rattle.gpu_d3d12.specs.HeapAnswer.{IsWithoutHeap}
use Rattle.gpu_pool.specs.Source.{Removes}
use Rattle.gpu_d3d12.specs.Journal.{events}
use Rattle.gpu_d3d12.specs.Source.{SourceState, GivesHeapBack, source_blocks}
use Rattle.gpu_d3d12.proofs.Asking.{new, gives_heap_back, removes_block, gone_holds}
use Rattle.gpu_d3d12.proofs.source.D3D12BlocksBlockSource.give_back.Goals as goal
use Rattle.gpu_d3d12.proofs.source.D3D12BlocksBlockSource.give_back.Goals.{After-release_block_heap}

abbrev was : (g : _) (c : After-release_block_heap g) → SourceState g.row.D.Denot
was g c = let i = c.self.inside in record { device = i.device; first = i.first.value; tier = i.tier; journal = events i.journal }

some : (g : _) (c : After-release_block_heap g) → IsSome (source_blocks g.D.D3D12Device (was g c) c.args.handle.0)
some g c = subst (λ (s : SourceState g.row.D.Denot). IsSome (source_blocks g.D.D3D12Device s c.args.handle.0)) (sym c.self.view_is) c.requires

went : (g : _) (c : After-release_block_heap g) → IsWithoutHeap g.D.D3D12Device (device_of (was g c).device) c.args.handle.0 c.release_block_heap.new.device
went g c =
    subst (λ (d : g.row.D.Denot). IsWithoutHeap g.D.D3D12Device d c.args.handle.0 c.release_block_heap.new.device) c.device_mut.ensures.value c.release_block_heap.ensures

pub invariant_of-self : goal.invariant_of-self
invariant_of-self g c =
    let later = (goal.at.invariant_of-self g c).After-release_block_heap in
    gone_holds g.D.D3D12Device (was g later) c.args.handle (some g later) c.self.invariant c.release_block_heap.new.device (went g later)

pub returns-clause-given : goal.returns-clause-given
returns-clause-given g c =
    let V = g.D.D3D12Device in
    let later = (goal.at.returns-clause-given g c).After-release_block_heap in
    let after = c.release_block_heap.new.device in
    subst (λ (s : SourceState g.row.D.Denot). GivesHeapBack V s c.args.handle (new V (was g later) after)) c.self.view_is
    (gives_heap_back V (was g later) c.args.handle (some g later) c.self.invariant after (went g later))

pub returns-clause-removed : goal.returns-clause-removed
returns-clause-removed g c =
    let V = g.D.D3D12Device in
    let later = (goal.at.returns-clause-removed g c).After-release_block_heap in
    let after = c.release_block_heap.new.device in
    subst (λ (s : SourceState g.row.D.Denot). Removes (source_blocks V s) c.args.handle.0 (source_blocks V (new V (was g later) after))) c.self.view_is
    (removes_block V (was g later) c.args.handle (some g later) c.self.invariant after (went g later))
