use Rattle.std.proofs.Common.{◌∙◌, ◌<◌, refl, sym, subst, length, arith, Bool, ℕ}
use Rattle.std.proofs.lemmas.List.{length-map}
use Rattle.gpu_pool.specs.Source.{HoldsAfter, result_of}
use Rattle.gpu_vulkan.specs.Types.{is_mapped, is_host_visible, kinds_of_device}
use Rattle.gpu_vulkan.specs.Source.{AsksBlock, IsResult, question}
use Rattle.gpu_vulkan.specs.BlockAnswer.{BlockAnswer, Asks}
use Rattle.gpu_vulkan.specs.Source.{SourceState, blocks_of}
use Rattle.gpu_vulkan.proofs.Changing.{mapped_told, leaves, is_result, Leaves}
use Rattle.gpu_vulkan.proofs.source.VulkanBlocksBlockSource.ask.Goals as goal
use Rattle.gpu_vulkan.proofs.source.VulkanBlocksBlockSource.ask.Goals.{After-allocate_block_memory}

pub overflow_cast-info : goal.overflow_cast-info
overflow_cast-info g c =
    let i = c.self.inside in
    let there : c.args.memory_type < length (kinds_of_device i.setup.properties) =
    subst (λ (s : SourceState g.row.D.Denot). c.args.memory_type < length (kinds_of_device s.setup.properties)) (sym c.self.view_is) c.requires in
    let long = length-map {B = Bool × ℕ} i.setup.properties.types (λ info. (is_host_visible info, i.setup.properties.granularity)) in
    let few = c.self.invariant.2.few in
    omega (arith, there, long, few)

below : (g : _) (c : After-allocate_block_memory g) → c.args.memory_type < length c.self.inside.setup.properties.types
below g c =
    let i = c.self.inside in
    let there : c.args.memory_type < length (kinds_of_device i.setup.properties) =
    subst (λ (s : SourceState g.row.D.Denot). c.args.memory_type < length (kinds_of_device s.setup.properties)) (sym c.self.view_is) c.requires in
    let long = length-map {B = Bool × ℕ} i.setup.properties.types (λ info. (is_host_visible info, i.setup.properties.granularity)) in
    omega (arith, there, long)

asks : (g : _) (c : After-allocate_block_memory g) → (answer : BlockAnswer)
    × Asks g.D.VulkanDevice c.self.inside.device (question c.self.inside.setup c.args.memory_type c.args.size c.args.extra) (is_mapped c.self.inside.setup.properties c.args.memory_type) answer
    c.allocate_block_memory.new.device
    × IsResult (result_of c.allocate_block_memory.result) answer
asks g c =
    let V = g.D.VulkanDevice in
    let e = c.allocate_block_memory.ensures in
    let device = c.self.inside.device in
    let new = c.allocate_block_memory.new.device in
    let first = subst
    (λ (b : Bool). Asks V device (record { size = c.args.size; memory_type_index = c.args.memory_type; device_address = b; scheme = c.args.extra }) c.is_mapped-mapped.result e.0 new)
    c.buffer_device_address.ensures e.1 in (
      e.0,
      subst (λ (b : Bool). Asks V device (question c.self.inside.setup c.args.memory_type c.args.size c.args.extra) b e.0 new) (mapped_told c.self.inside.setup.properties.types c.args.memory_type c.is_mapped-mapped.result (below g c) c.is_mapped-mapped.ensures) first,
      is_result c.allocate_block_memory.result e.0 e.2,
    )

left : (g : _) (c : After-allocate_block_memory g) → Leaves c.self.inside.setup.properties (g.D.VulkanDevice.held c.self.inside.first.value) (g.D.VulkanDevice.held c.self.inside.device) c.args.memory_type
    c.args.size (result_of c.allocate_block_memory.result) (g.D.VulkanDevice.held c.allocate_block_memory.new.device)
left g c =
    let V = g.D.VulkanDevice in
    let i = c.self.inside in
    let a = asks g c in
    leaves V i.setup.properties (V.held i.first.value) i.device c.allocate_block_memory.new.device (question i.setup c.args.memory_type c.args.size c.args.extra) c.self.invariant.3
    (result_of c.allocate_block_memory.result) a.0 a.2 a.1

pub invariant_of-self : goal.invariant_of-self
invariant_of-self g c =
    let later = (goal.at.invariant_of-self g c).After-allocate_block_memory in
    ((asks g later).1.constant ∙ c.self.invariant.0, c.self.invariant.1, c.self.invariant.2, (left g later).1)

pub returns-clause-asked : goal.returns-clause-asked
returns-clause-asked g c =
    let V = g.D.VulkanDevice in
    let i = c.self.inside in
    let later = (goal.at.returns-clause-asked g c).After-allocate_block_memory in
    let a = asks g later in
    let was : SourceState g.row.D.Denot = record { device = i.device; first = i.first.value; setup = i.setup } in
    let now : SourceState g.row.D.Denot = record was { device = c.allocate_block_memory.new.device } in
    let here : AsksBlock V was c.args.memory_type c.args.size c.args.extra (result_of c.allocate_block_memory.result) now =
    record { answer = a.0; is_result = a.2; asks = a.1; state = refl } in
    subst (λ (s : SourceState g.row.D.Denot). AsksBlock V s c.args.memory_type c.args.size c.args.extra (result_of c.allocate_block_memory.result) now) c.self.view_is here

pub returns-clause-held : goal.returns-clause-held
returns-clause-held g c =
    let V = g.D.VulkanDevice in
    let i = c.self.inside in
    let later = (goal.at.returns-clause-held g c).After-allocate_block_memory in
    subst
    (λ (s : SourceState g.row.D.Denot). HoldsAfter (λ memory. memory.0) (blocks_of (V.held s.first) (V.held s.device)) (record { memory_type = c.args.memory_type; size = c.args.size })
    (result_of c.allocate_block_memory.result) (blocks_of (V.held i.first.value) (V.held c.allocate_block_memory.new.device)))
    c.self.view_is (left g later).0
