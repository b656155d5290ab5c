use Rattle.std.proofs.Common.{◌≡◌, false, true, ap, ◌∙◌, arith}
use Rattle.gpu_sim_base.specs.Numbers.{held_in, item_at}
use Rattle.gpu_sim_d3d12.specs.Objects.{entry_of, is_heap}
use Rattle.gpu_sim_d3d12.proofs.Releases.{resource_removed, heap_is_no_resource}
use Rattle.gpu_sim_d3d12.proofs.objects.Objects.release_resource.Goals as goal

pub returns-then-not-is_heap-clause-held : goal.returns-then-not-is_heap-clause-held
returns-then-not-is_heap-clause-held c =
    let ss = c.args.self.now.numbers.slots.items in
    let none : is_heap (item_at ss c.args.number) ≡ false = grind (arith, c.is_heap.ensures, c.if-not-is_heap.true) in
    ap (held_in entry_of) c.remove.ensures ∙ resource_removed ss c.args.number none

pub returns-else-not-is_heap-clause-held : goal.returns-else-not-is_heap-clause-held
returns-else-not-is_heap-clause-held c =
    let ss = c.args.self.now.numbers.slots.items in
    let heap : is_heap (item_at ss c.args.number) ≡ true = grind (arith, c.is_heap.ensures, c.if-not-is_heap.false) in
    heap_is_no_resource ss c.args.number heap
