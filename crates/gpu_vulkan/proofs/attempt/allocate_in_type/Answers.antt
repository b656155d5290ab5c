use Rattle.std.specs.Prelude.{IsSomeAnd}
use Rattle.std.proofs.Common.{◌≡◌, ◌∙◌, refl, ap, subst, arith, Ok, Err, ℕ, slice_get}
use Rattle.gpu_vulkan.specs.Setup.{Setup}
use Rattle.gpu_vulkan.specs.Types.{heap_size, is_host_visible}
use Rattle.gpu_vulkan.specs.Live.{IsAllocated}
use Rattle.gpu_vulkan.specs.Source.{SourceState}
use Rattle.gpu_vulkan.specs.State.{setup_of}
use Rattle.gpu_vulkan.specs.declared.allocation.Allocation.{Allocation}
use Rattle.gpu_vulkan.proofs.Attempts.{too_large, short, attempted, constant}
use Rattle.gpu_vulkan.proofs.Live.{stays, given_live}
use Rattle.gpu_vulkan.proofs.attempt.allocate_in_type.Goals as goal
use Rattle.gpu_vulkan.proofs.attempt.allocate_in_type.Goals.{After-heap_size, After-allocation_of}

heap : (g : _) (c : After-heap_size g) → c.heap_size.result ≡ heap_size c.args.pool.now.source.setup.properties c.args.index
heap g c =
    c.heap_size.ensures.size
    ∙ ap (λ (s : Setup). heap_size s.properties c.args.index) (c.setup.ensures.lent ∙ ap (λ (s : SourceState g.row.D.Denot). s.setup) c.source.ensures.lent)

pub returns-then-desc-heap_size-clause-attempts : goal.returns-then-desc-heap_size-clause-attempts
returns-then-desc-heap_size-clause-attempts g c =
    let p = c.args.pool.now in
    let size = heap g (goal.at.returns-then-desc-heap_size-clause-attempts g c).After-heap_size in
    too_large g.D.VulkanDevice (setup_of p) p.budgets c.args.index c.args.desc.now p.source.device p.slots (omega (arith, c.if-desc-heap_size.true, size))

pub returns-in-Err-clause-attempts : goal.returns-in-Err-clause-attempts
returns-in-Err-clause-attempts g c =
    let p = c.args.pool.now in
    let size = heap g (goal.at.returns-in-Err-clause-attempts g c).After-heap_size in
    short g.D.VulkanDevice (setup_of p) p.budgets c.args.index c.args.desc.now p.source.device p.slots (omega (arith, c.if-desc-heap_size.false, size))

-- the memory type that an allocation tells of
abbrev IsOfType : Setup → (t : ℕ) → Allocation → Type 0
IsOfType s t a = IsSomeAnd (slice_get s.properties.types t) (λ info. (a.memory_properties ≡ info.property_flags) × (a.mapped ≡ is_host_visible info))

allocation_of : (g : _) (c : After-allocation_of g) → IsAllocated (setup_of c.args.pool.now) c.args.index c.args.desc.now c.in-Ok-allocate.piece c.allocation_of.result
allocation_of g c =
    let a = c.args in
    let kept = constant g.D.VulkanDevice a.index a.desc.now a.pool.now c.allocate.new.self c.request_of.result c.request_of.ensures.asks c.request_of.ensures.own (Ok c.in-Ok-allocate.piece)
    c.in-Ok-allocate.ensures.allocates in
    let is = c.allocation_of.ensures c.in-Ok.ensures.ok in
    let lent = c.setup-in-Ok-allocate.ensures.lent ∙ ap (λ (s : SourceState g.row.D.Denot). s.setup) c.source-in-Ok-allocate.ensures.lent in
    subst (λ (s : Setup). IsAllocated s a.index a.desc.now c.in-Ok-allocate.piece c.allocation_of.result) kept.setup
    (record {
      piece = is.piece;
      memory_type = is.memory_type;
      memory = subst (λ (s : Setup). IsOfType s a.index c.allocation_of.result) lent is.memory;
      dedicated = is.dedicated;
      name = is.name;
    })

pub returns-in-Ok-allocate-clause-attempts : goal.returns-in-Ok-allocate-clause-attempts
returns-in-Ok-allocate-clause-attempts g c =
    let a = c.args in
    let size = heap g (goal.at.returns-in-Ok-allocate-clause-attempts g c).After-heap_size in
    attempted g.D.VulkanDevice a.index a.desc.now a.pool.now c.allocate.new.self c.request_of.result c.request_of.ensures.asks c.request_of.ensures.own (Ok c.in-Ok-allocate.piece)
    (Ok c.allocation_of.result) c.in-Ok-allocate.ensures.allocates (omega (arith, c.if-desc-heap_size.false, size)) (allocation_of g (goal.at.returns-in-Ok-allocate-clause-attempts g c).After-allocation_of)

pub returns-in-Err-allocate-clause-attempts : goal.returns-in-Err-allocate-clause-attempts
returns-in-Err-allocate-clause-attempts g c =
    let a = c.args in
    let size = heap g (goal.at.returns-in-Err-allocate-clause-attempts g c).After-heap_size in
    attempted g.D.VulkanDevice a.index a.desc.now a.pool.now c.allocate.new.self c.request_of.result c.request_of.ensures.asks c.request_of.ensures.own
    (Err _) (Err c.in-Err-allocate.error) c.in-Err-allocate.ensures.allocates (omega (arith, c.if-desc-heap_size.false, size)) refl

pub returns-in-Ok-allocate-clause-keeps : goal.returns-in-Ok-allocate-clause-keeps
returns-in-Ok-allocate-clause-keeps g c = stays c.args.pool.now.slots c.allocate.new.self.slots c.allocate.ensures.keeps

pub returns-in-Ok-allocate-clause-live : goal.returns-in-Ok-allocate-clause-live
returns-in-Ok-allocate-clause-live g c =
    let a = c.args in
    given_live a.pool.now.slots c.allocate.new.self.slots (setup_of a.pool.now) a.index a.desc.now c.in-Ok-allocate.piece c.allocation_of.result
    (allocation_of g (goal.at.returns-in-Ok-allocate-clause-live g c).After-allocation_of) c.in-Ok-allocate.ensures.live
