use Rattle.std.proofs.Common.{◌≡◌, ◌∙◌, ap, sym, subst, slice_get, length, ◌<◌, Some}
use Rattle.gpu_vulkan.specs.Setup.{Setup}
use Rattle.gpu_vulkan.specs.Types.{heap_size, heap_of, size_in}
use Rattle.gpu_vulkan.specs.contracts.setup.Setup.{the_view}
use Rattle.gpu_vulkan.proofs.Heaps.{heap_there}
use Rattle.gpu_core.proofs.Changed.{element_at}
use Rattle.gpu_vulkan.proofs.setup.Setup.heap_size.Goals as goal

pub returns-clause-size : goal.returns-clause-size
returns-clause-size c =
    let p = (the_view c.self.inside).properties in
    let i = c.args.index in
    let inside : i < length p.types = subst (λ (s : Setup). i < length s.properties.types) (sym c.self.view_is) c.requires in
    let info = c.index-info.result.now in
    let heap = c.index.result.now in
    let at : slice_get p.types i ≡ Some info = element_at p.types i info inside c.index-info.ensures in
    let there : slice_get p.heaps info.heap_index ≡ Some heap = element_at p.heaps info.heap_index heap (heap_there p i info c.self.invariant.heaps at) c.index.ensures in
    sym (ap (λ (s : Setup). heap_size s.properties i) (sym c.self.view_is) ∙ ap (heap_of p) at ∙ ap size_in there)
