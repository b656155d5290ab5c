use Rattle.std.proofs.Common.{◌∙◌, subst}
use Rattle.gpu_pool.specs.Source.{HoldsAfter, result_of}
use Rattle.gpu_metal.specs.Source.{AsksBlock}
use Rattle.gpu_metal.specs.Source.{blocks_of}
use Rattle.gpu_metal.specs.Source.{SourceState}
use Rattle.gpu_metal.proofs.Asking.{asks, held_answer, holds_after}
use Rattle.gpu_metal.proofs.source.MetalBlocksBlockSource.ask.Goals as goal
use Rattle.gpu_metal.proofs.source.MetalBlocksBlockSource.ask.Goals.{After-create_block_heap}

abbrev was : (g : _) (c : After-create_block_heap g) → SourceState g.row.D.Denot
was g c = let i = c.self.inside in record { device = i.device; first = i.first.value; set = i.set }

pub invariant_of-self : goal.invariant_of-self
invariant_of-self g c =
    let later = (goal.at.invariant_of-self g c).After-create_block_heap in
    let h = holds_after g.D.MetalDevice (was g later) c.args.memory_type c.args.size c.location_at.result c.location_at.ensures c.self.invariant.1 c.create_block_heap.new.device
    c.create_block_heap.result c.create_block_heap.ensures in
    (h.0 ∙ c.self.invariant.0, h.1)

pub returns-clause-asked : goal.returns-clause-asked
returns-clause-asked g c =
    let later = (goal.at.returns-clause-asked g c).After-create_block_heap in
    let after = c.create_block_heap.new.device in
    subst (λ (s : SourceState g.row.D.Denot). AsksBlock g.D.MetalDevice s c.args.memory_type c.args.size tt (result_of c.create_block_heap.result) (record (was g later) { device = after })) c.self.view_is
    (asks g.D.MetalDevice (was g later) c.args.memory_type c.args.size c.location_at.result c.location_at.ensures c.self.invariant.1 after c.create_block_heap.result c.create_block_heap.ensures)

pub returns-clause-held : goal.returns-clause-held
returns-clause-held g c =
    let V = g.D.MetalDevice in
    let later = (goal.at.returns-clause-held g c).After-create_block_heap in
    let after = c.create_block_heap.new.device in
    subst
    (λ (s : SourceState g.row.D.Denot). HoldsAfter (λ heap. heap.0) (blocks_of (V.held s.first) (V.held s.device)) (record { memory_type = c.args.memory_type; size = c.args.size })
    (result_of c.create_block_heap.result) (blocks_of (V.held c.self.inside.first.value) (V.held after)))
    c.self.view_is
    (held_answer V (was g later) c.args.memory_type c.args.size c.location_at.result c.location_at.ensures c.self.invariant.1 after c.create_block_heap.result c.create_block_heap.ensures)
