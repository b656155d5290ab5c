use Rattle.std.proofs.Common.{sym, ap, ◌∙◌}
use Rattle.gpu_sim_base.specs.Numbers.{held_in}
use Rattle.gpu_sim_d3d12.specs.Objects.{entry_of}
use Rattle.gpu_sim_d3d12.proofs.Releases.{heap_removed, heap_not_there}
use Rattle.gpu_sim_d3d12.proofs.objects.Objects.release_heap.Goals as goal

pub returns-then-is_heap-clause-held : goal.returns-then-is_heap-clause-held
returns-then-is_heap-clause-held c =
    ap (held_in entry_of) c.remove.ensures ∙ heap_removed c.args.self.now.numbers.slots.items c.args.number (sym c.is_heap.ensures ∙ c.if-is_heap.true)

pub returns-else-is_heap-clause-held : goal.returns-else-is_heap-clause-held
returns-else-is_heap-clause-held c = heap_not_there c.args.self.now.numbers.slots.items c.args.number (sym c.is_heap.ensures ∙ c.if-is_heap.false)
