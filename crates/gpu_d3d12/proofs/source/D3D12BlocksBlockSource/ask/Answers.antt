use Rattle.std.proofs.Common.{subst}
use Rattle.gpu_device.specs.declared.d3d12.types.HeapDesc.{HeapDesc}
use Rattle.gpu_d3d12.specs.DeviceVersion.{device_of}
use Rattle.gpu_d3d12.specs.HeapAnswer.{AsksHeap}
use Rattle.gpu_d3d12.specs.Heaps.{heap_desc}
use Rattle.gpu_pool.specs.Source.{HoldsAfter, result_of}
use Rattle.gpu_d3d12.specs.Journal.{events}
use Rattle.gpu_d3d12.specs.Source.{SourceState, AsksBlock, source_blocks}
use Rattle.gpu_d3d12.proofs.Asking.{new, asks_block, holds_answer, asked_holds}
use Rattle.gpu_d3d12.proofs.source.D3D12BlocksBlockSource.ask.Goals as goal
use Rattle.gpu_d3d12.proofs.source.D3D12BlocksBlockSource.ask.Goals.{After-create_block_heap}

abbrev was : (g : _) (c : After-create_block_heap g) → SourceState g.row.D.Denot
was g c = let i = c.self.inside in record { device = i.device; first = i.first.value; tier = i.tier; journal = events i.journal }

asked : (g : _) (c : After-create_block_heap g) → AsksHeap g.D.D3D12Device (device_of (was g c).device) (heap_desc c.kind_at.result c.args.size) c.create_block_heap.ensures.0 c.create_block_heap.new.device
asked g c =
    let a = c.create_block_heap.ensures in
    subst (λ (q : HeapDesc). AsksHeap g.D.D3D12Device (device_of (was g c).device) q a.0 c.create_block_heap.new.device) c.heap_desc-question.ensures
    (subst (λ (d : g.row.D.Denot). AsksHeap g.D.D3D12Device d c.heap_desc-question.result a.0 c.create_block_heap.new.device) c.device_mut.ensures.value a.1)

pub invariant_of-self : goal.invariant_of-self
invariant_of-self g c =
    let later = (goal.at.invariant_of-self g c).After-create_block_heap in
    let a = c.create_block_heap.ensures in
    asked_holds g.D.D3D12Device (was g later) c.args.memory_type c.args.size c.kind_at.result c.kind_at.ensures c.self.invariant c.create_block_heap.new.device a.0 c.create_block_heap.result (asked g later) a.2

pub returns-clause-asked : goal.returns-clause-asked
returns-clause-asked g c =
    let V = g.D.D3D12Device in
    let later = (goal.at.returns-clause-asked g c).After-create_block_heap in
    let a = c.create_block_heap.ensures in
    let after = c.create_block_heap.new.device in
    subst (λ (s : SourceState g.row.D.Denot). AsksBlock V s c.args.memory_type c.args.size tt (result_of c.create_block_heap.result) (new V (was g later) after)) c.self.view_is
    (asks_block V (was g later) c.args.memory_type c.args.size c.kind_at.result c.kind_at.ensures c.self.invariant after a.0 c.create_block_heap.result (asked g later) a.2)

pub returns-clause-held : goal.returns-clause-held
returns-clause-held g c =
    let V = g.D.D3D12Device in
    let later = (goal.at.returns-clause-held g c).After-create_block_heap in
    let a = c.create_block_heap.ensures in
    let after = c.create_block_heap.new.device in
    subst
    (λ (s : SourceState g.row.D.Denot). HoldsAfter (λ heap. heap.0) (source_blocks V s) (record { memory_type = c.args.memory_type; size = c.args.size }) (result_of c.create_block_heap.result)
    (source_blocks V (new V (was g later) after))) c.self.view_is
    (holds_answer V (was g later) c.args.memory_type c.args.size c.kind_at.result c.kind_at.ensures c.self.invariant after a.0 c.create_block_heap.result (asked g later) a.2)
