use Rattle.std.proofs.Common.{rules, ◌≡◌, ap, sym, subst, refl, true, false}
use Rattle.gpu_core.specs.Blocks.{BlocksWellFormed}
use Rattle.gpu_vulkan.specs.Blocks.{HoldsJustLiveBlocks}
use Rattle.gpu_vulkan.specs.Live.{IsLive}
use Rattle.gpu_vulkan.specs.Source.{SourceState}
use Rattle.gpu_vulkan.specs.State.{State, Pool, state_of}
use Rattle.gpu_vulkan.specs.Step.{IsMoveStep, is_again}
use Rattle.gpu_vulkan.proofs.Moving.{move_step, refuse_step}
use Rattle.gpu_vulkan.proofs.allocator.Allocator.propose_move.Goals as goal

pub returns-else-is_again-clause-step : goal.returns-else-is_again-clause-step
returns-else-is_again-clause-step g c =
    let other : is_again c.args.allocation.now.size c.args.desc.now ≡ false = search rules in
    refuse_step g.D.VulkanDevice c.args.allocation.now c.args.desc.now c.args.self.now _ refl other

pub returns-then-is_again-clause-step : goal.returns-then-is_again-clause-step
returns-then-is_again-clause-step g c =
    let V = g.D.VulkanDevice in
    let from = c.args.allocation.now in
    let d = c.args.desc.now in
    let old = c.self.inside.pool in
    let new = c.second_place-result.new.pool in
    let e = c.second_place-result.ensures in
    let p = old.source.setup.properties in
    let again : is_again from.size d ≡ true = search rules in
    let sound : BlocksWellFormed p.granularity new.slots =
    subst (λ n. BlocksWellFormed n new.slots) (ap (λ (s : Pool g.row.D.Denot). s.source.setup.properties.granularity) e.others) c.blocks_are_held-then-is_again.ensures.sound in
    let holds : HoldsJustLiveBlocks p (V.held old.source.first) (V.held old.source.device) new.slots =
    subst (λ (s : SourceState g.row.D.Denot). HoldsJustLiveBlocks s.setup.properties (V.held s.first) (V.held s.device) new.slots) (ap (λ (s : Pool g.row.D.Denot). s.source) e.others)
    c.blocks_are_held-then-is_again.ensures.holds in
    subst (λ (s : State g.row.D.Denot). IsMoveStep V from d c.second_place-result.result s (state_of new)) c.self.view_is
    (move_step from d old new V (V.held old.source.first) (λ n. g.met.D.VulkanDevice.whole old.source.device n) (ap (λ (s : Pool g.row.D.Denot). s.source.device) e.others) c.blocks_are_held.ensures.sound sound holds
    c.second_place-result.result again e.proposed)

pub returns-then-is_again-clause-keeps : goal.returns-then-is_again-clause-keeps
returns-then-is_again-clause-keeps g c = λ b live. c.second_place-result.ensures.keeps b (subst (λ (s : State g.row.D.Denot). IsLive s.slots b) (sym c.self.view_is) live)
