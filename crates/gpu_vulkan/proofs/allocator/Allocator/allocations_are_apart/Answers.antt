use Rattle.std.proofs.Common.{◌<◌, ap, subst, ℕ, Bool}
use Rattle.gpu_core.specs.Apart as pieces
use Rattle.gpu_vulkan.specs.Apart.{SharesNoByte, KeepsPages}
use Rattle.gpu_vulkan.specs.Lends.{AreDistinct}
use Rattle.gpu_vulkan.specs.Live.{IsLive}
use Rattle.gpu_vulkan.specs.State.{State}
use Rattle.gpu_vulkan.specs.declared.allocation.Allocation.{Allocation}
use Rattle.gpu_vulkan.proofs.Leaving.{kind_told}
use Rattle.gpu_vulkan.proofs.Live.{type_there, all_apart, all_pages}
use Rattle.gpu_vulkan.proofs.allocator.Allocator.allocations_are_apart.Goals as goal

pub returns-clause-apart : goal.returns-clause-apart
returns-clause-apart g c =
    subst (λ (s : State g.row.D.Denot). (a b : Allocation) → IsLive s.slots a → IsLive s.slots b → AreDistinct a b → SharesNoByte a b) c.self.view_is
    (all_apart c.self.inside.pool.slots c.pieces_are_apart.ensures.apart)

pub returns-clause-pages : goal.returns-clause-pages
returns-clause-pages g c =
    let p = c.self.inside.pool in
    let told = p.source.setup.properties in
    subst (λ (s : State g.row.D.Denot). (a b : Allocation) → IsLive s.slots a → IsLive s.slots b → KeepsPages s.setup.properties.granularity s.slots a b) c.self.view_is
    (λ a b live_a live_b.
    let below = type_there p.slots a live_a in
    let kind = ap (λ (k : Bool × ℕ). k.1) (kind_told told a.memory_type_index (subst (λ n. a.memory_type_index < n) c.blocks_are_held.ensures.types below)) in
    all_pages p.slots told.granularity a b
    (λ x y live_x live_y. subst (λ n. pieces.KeepsPages n p.slots a.memory_type_index x y) kind (c.pieces_are_apart.ensures.pages a.memory_type_index x y live_x live_y)) live_a live_b)
