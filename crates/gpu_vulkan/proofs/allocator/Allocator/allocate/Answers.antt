use Rattle.std.proofs.Common.{rules, ◌≡◌, ◌∙◌, refl, sym, ap, subst, arith, true, false, Option, Some, None, Ok, Err, ℕ}
use Rattle.gpu_device.specs.Properties.{Properties}
use Rattle.gpu_core.specs.Blocks.{BlocksWellFormed}
use Rattle.gpu_vulkan.specs.Allocate.{is_valid, next_type}
use Rattle.gpu_vulkan.specs.Choice.{best_type}
use Rattle.gpu_vulkan.specs.Setup.{Setup}
use Rattle.gpu_vulkan.specs.Blocks.{HoldsJustLiveBlocks}
use Rattle.gpu_vulkan.specs.State.{State, Pool, IsConstant, state_of, setup_of}
use Rattle.gpu_vulkan.specs.Step.{IsAllocateStep}
use Rattle.gpu_vulkan.proofs.Following.{best_below}
use Rattle.gpu_vulkan.proofs.Steps.{served, served_step, invalid_step, unfit_step}
use Rattle.gpu_vulkan.proofs.Fallback.{Tries, TypeServes, granted_at_once, refused_at_once, tried_again}
use Rattle.gpu_values.specs.Refusal.{Refusal, refusal_of}
use Rattle.gpu_vulkan.specs.Source.{SourceState}
use Rattle.gpu_vulkan.specs.declared.allocator.Allocator.TheInside.{Inside}
use Rattle.gpu_vulkan.specs.declared.describe.AllocationCreateDesc.{AllocationCreateDesc}
use Rattle.gpu_vulkan.proofs.allocator.Allocator.allocate.Goals as goal
use Rattle.gpu_vulkan.proofs.allocator.Allocator.allocate.Goals.{After-best_type, After-allocate_in_type, After-blocks_are_held-in-Some, in-Ok, in-Err+in-None-next_type, in-Err+in-Some-next_type, then-desc-eq0-via-then-desc-eq0, then-desc-eq0-via-else-desc-eq0+then-not-is_power_of_two}

pub returns-then-desc-eq0-clause-step : goal.returns-then-desc-eq0-clause-step
returns-then-desc-eq0-clause-step g c =
    let invalid : is_valid c.args.desc.now ≡ false =
    elim c.then-desc-eq0.branch [
      | then-desc-eq0-via-then-desc-eq0 w ↦ search rules
      | then-desc-eq0-via-else-desc-eq0+then-not-is_power_of_two w ↦ search rules
    ] in
    invalid_step g.D.VulkanDevice c.args.desc.now c.args.self.now c.args.self.now _ refl refl refl refl invalid

is_there : (g : _) (c : After-best_type g) → is_valid c.args.desc.now ≡ true
is_there g c = search rules

pub returns-in-None-clause-step : goal.returns-in-None-clause-step
returns-in-None-clause-step g c =
    let d = c.args.desc.now in
    let valid = is_there g (goal.at.returns-in-None-clause-step g c).After-best_type in
    let none : best_type c.args.self.now.setup.properties.types d.requirements.memory_type_bits d.location ≡ None =
    ap (λ (p : Properties). best_type p.types d.requirements.memory_type_bits d.location) (sym c.setup-2.ensures)
    ∙ ap (λ ts. best_type ts d.requirements.memory_type_bits d.location) (sym c.memory_types.ensures) ∙ sym c.best_type.ensures.best ∙ c.in-None.is in
    unfit_step g.D.VulkanDevice d c.args.self.now c.args.self.now _ refl refl refl refl valid none

-- the first attempt
tries : (g : _) (c : After-allocate_in_type g) → Tries g.D.VulkanDevice c.in-Some.index c.args.desc.now c.self.inside.pool c.allocate_in_type.result c.allocate_in_type.new.pool
tries g c = let e = c.allocate_in_type.ensures in record { attempts = e.attempts; constant = e.constant; aligned = e.aligned; keeps = e.keeps; live = e.live }

-- the fallback, as the setup says it that is lent after the first attempt
falls_back : {D : Type 0} (d : AllocationCreateDesc) (r : Refusal) (old mid : Pool D) (source : SourceState D) (lent : Setup) (next : Option ℕ) → IsConstant old mid → source ≡ mid.source → lent ≡ source.setup
    → next ≡ next_type lent d r → next_type (setup_of old) d r ≡ next
falls_back {D} d r old mid source lent next constant source_is lent_is is =
    ap (λ s. next_type s d r) (sym constant.setup) ∙ ap (λ (s : SourceState D). next_type s.setup d r) (sym source_is) ∙ ap (λ s. next_type s d r) (sym lent_is) ∙ sym is

serves : (g : _) (c : After-blocks_are_held-in-Some g) → TypeServes g.D.VulkanDevice c.in-Some.index c.args.desc.now c.self.inside.pool c.match-allocate_in_type.result c.match-allocate_in_type.self-inside.pool
serves g c =
    let V = g.D.VulkanDevice in
    let t = c.in-Some.index in
    let d = c.args.desc.now in
    let old = c.self.inside.pool in
    let mid = c.allocate_in_type.new.pool in
    let first = tries g (goal.at.returns-after-allocate_in_type-clause-step g c).After-allocate_in_type in
    elim c.match-allocate_in_type.branch [
      | in-Ok w ↦
          subst (λ r. TypeServes V t d old r c.match-allocate_in_type.self-inside.pool) (sym w.result-is) (subst (λ (x : Inside g.row.D.Denot). TypeServes V t d old (Ok w.in-Ok.allocation) x.pool) (sym w.self-inside-is)
          (granted_at_once V t d old w.in-Ok.allocation mid (subst (λ r. Tries V t d old r mid) w.in-Ok.is first)))
      | in-Err+in-None-next_type w ↦
          subst (λ r. TypeServes V t d old r c.match-allocate_in_type.self-inside.pool) (sym w.result-is) (subst (λ (x : Inside g.row.D.Denot). TypeServes V t d old (Err w.in-Err.error) x.pool) (sym w.self-inside-is)
          (refused_at_once V t d old w.in-Err.error mid (subst (λ r. Tries V t d old r mid) w.in-Err.is first)
          (falls_back d (refusal_of w.in-Err.error) old mid w.source.result.now w.setup-in-Err.result.now w.next_type.result first.constant w.source.ensures.lent w.setup-in-Err.ensures.lent
          w.next_type.ensures.next ∙ w.in-None-next_type.is)))
      | in-Err+in-Some-next_type w ↦
          (let again = w.allocate_in_type-in-Some-next_type in
          let e = again.ensures in
          subst (λ r. TypeServes V t d old r c.match-allocate_in_type.self-inside.pool) (sym w.result-is) (subst (λ (x : Inside g.row.D.Denot). TypeServes V t d old again.result x.pool) (sym w.self-inside-is)
          (tried_again V t d old w.in-Err.error mid (subst (λ r. Tries V t d old r mid) w.in-Err.is first) w.in-Some-next_type.next
          (falls_back d (refusal_of w.in-Err.error) old mid w.source.result.now w.setup-in-Err.result.now w.next_type.result first.constant w.source.ensures.lent w.setup-in-Err.ensures.lent
          w.next_type.ensures.next ∙ w.in-Some-next_type.is)
          again.result again.new.pool (record { attempts = e.attempts; constant = e.constant; aligned = e.aligned; keeps = e.keeps; live = e.live }))))
    ]

pub returns-after-allocate_in_type-clause-step : goal.returns-after-allocate_in_type-clause-step
returns-after-allocate_in_type-clause-step g c =
    let V = g.D.VulkanDevice in
    let d = c.args.desc.now in
    let old = c.self.inside.pool in
    let new = c.match-allocate_in_type.self-inside.pool in
    let result = c.match-allocate_in_type.result in
    let setup = setup_of old in
    let first = V.held old.source.first in
    let e = serves g c in
    let before = c.blocks_are_held.ensures in
    let after = c.blocks_are_held-in-Some.ensures in
    let valid = is_there g (goal.at.returns-after-allocate_in_type-clause-step g c).After-best_type in
    let found : best_type setup.properties.types d.requirements.memory_type_bits d.location ≡ Some c.in-Some.index =
    ap (λ (s : State g.row.D.Denot). best_type s.setup.properties.types d.requirements.memory_type_bits d.location) c.self.view_is
    ∙ ap (λ (p : Properties). best_type p.types d.requirements.memory_type_bits d.location) (sym c.setup-2.ensures)
    ∙ ap (λ ts. best_type ts d.requirements.memory_type_bits d.location) (sym c.memory_types.ensures) ∙ sym c.best_type.ensures.best ∙ c.in-Some.is in
    let below = best_below setup d c.in-Some.index found in
    let sound : BlocksWellFormed setup.properties.granularity new.slots = subst (λ (s : Setup). BlocksWellFormed s.properties.granularity new.slots) e.constant.setup after.sound in
    let holds : HoldsJustLiveBlocks setup.properties first (V.held new.source.device) new.slots =
    subst (λ (s : Setup). HoldsJustLiveBlocks s.properties first (V.held new.source.device) new.slots) e.constant.setup
    (subst (λ (k : g.row.D.Denot). HoldsJustLiveBlocks new.source.setup.properties (V.held k) (V.held new.source.device) new.slots) e.constant.first after.holds) in
    let steps = served V g.met.D.VulkanDevice.whole setup old.budgets d first c.in-Some.index old.slots old.source.device result new.slots new.source.device
    (omega (arith, below, before.types)) before.types before.sound sound before.holds holds e.served in
    subst (λ (s : State g.row.D.Denot). IsAllocateStep V d result s (state_of new)) c.self.view_is
    (served_step V g.met.D.VulkanDevice.whole setup old.budgets d first c.in-Some.index (state_of old) (state_of new) result refl refl e.constant.budgets found valid steps)
