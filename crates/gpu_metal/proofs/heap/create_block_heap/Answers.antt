use Rattle.std.proofs.Common.{sym, subst, rules}
use Rattle.gpu_device.specs.Metal.{Held, Heap, IsHeap}
use Rattle.gpu_device.proofs.HeapsAndSets.{insert-is_heap}
use Rattle.gpu_metal.specs.Residency.{HoldsSet}
use Rattle.gpu_metal.proofs.Holding.{set_stays}
use Rattle.gpu_metal.proofs.heap.create_block_heap.Goals as goal

pub join_set-requires-clause-set : goal.join_set-requires-clause-set
join_set-requires-clause-set g c =
    let V = g.D.MetalDevice in
    let heap = c.in-Some.heap in
    subst (λ (h : Held). HoldsSet h c.args.set) (sym c.in-Some.ensures.holds)
    (set_stays (V.held c.args.device.now) heap.0 (Heap c.heap_descriptor.result c.args.size) c.args.set c.in-Some.ensures.number.1 c.requires)

pub join_set-requires-clause-heap : goal.join_set-requires-clause-heap
join_set-requires-clause-heap g c =
    let V = g.D.MetalDevice in
    let heap = c.in-Some.heap in
    subst (λ (h : Held). IsHeap h heap.0) (sym c.in-Some.ensures.holds) (insert-is_heap (V.held c.args.device.now) heap.0 c.heap_descriptor.result c.args.size)

pub returns-in-Some : goal.returns-in-Some
returns-in-Some g c = search rules

pub returns-in-None : goal.returns-in-None
returns-in-None g c = search rules
