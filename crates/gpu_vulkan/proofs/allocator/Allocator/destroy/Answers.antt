use Rattle.std.proofs.Common.{◌∙◌, ap}
use Rattle.gpu_pool.specs.Handles.{all_handles}
use Rattle.gpu_vulkan.specs.BlockAnswer.{frees_recorded}
use Rattle.gpu_vulkan.specs.State.{State}
use Rattle.gpu_vulkan.proofs.Leaving.{Empties, empties}
use Rattle.gpu_vulkan.proofs.allocator.Allocator.destroy.Goals as goal
use Rattle.gpu_vulkan.proofs.allocator.Allocator.destroy.Goals.{After-destroy}

emptied : (g : _) (c : After-destroy g) → Empties g.D.VulkanDevice c.self.inside.pool.source (all_handles c.self.inside.pool.slots) c.destroy.result
emptied g c = empties g.D.VulkanDevice c.self.inside.pool.source _ c.destroy.result c.destroy.ensures.gives_back

pub returns-clause-held : goal.returns-clause-held
returns-clause-held g c =
    let V = g.D.VulkanDevice in
    let k = emptied g (goal.at.returns-clause-held g c).After-destroy in
    c.into_device.ensures.held ∙ ap V.held k.first ∙ ap (λ (s : State g.row.D.Denot). V.held s.first) c.self.view_is

pub returns-clause-counts_nothing : goal.returns-clause-counts_nothing
returns-clause-counts_nothing g c =
    let V = g.D.VulkanDevice in
    let k = emptied g (goal.at.returns-clause-counts_nothing g c).After-destroy in
    ap V.refused c.into_device.ensures.same ∙ k.count ∙ ap (λ (s : State g.row.D.Denot). V.refused s.device) c.self.view_is

pub returns-clause-names_no_question : goal.returns-clause-names_no_question
returns-clause-names_no_question g c =
    let V = g.D.VulkanDevice in
    let k = emptied g (goal.at.returns-clause-names_no_question g c).After-destroy in
    ap V.latest c.into_device.ensures.same ∙ k.latest ∙ ap (λ (s : State g.row.D.Denot). V.latest s.device) c.self.view_is

pub returns-clause-recorded : goal.returns-clause-recorded
returns-clause-recorded g c =
    let V = g.D.VulkanDevice in
    let k = emptied g (goal.at.returns-clause-recorded g c).After-destroy in
    ap V.history c.into_device.ensures.same ∙ k.history
    ∙ ap (λ (s : State g.row.D.Denot). frees_recorded (V.held s.device) (all_handles s.slots) (V.history s.device)) c.self.view_is

pub returns-clause-constant : goal.returns-clause-constant
returns-clause-constant g c =
    let V = g.D.VulkanDevice in
    let k = emptied g (goal.at.returns-clause-constant g c).After-destroy in
    c.into_device.ensures.constant ∙ ap V.properties k.first ∙ ap (λ (s : State g.row.D.Denot). V.properties s.first) c.self.view_is
