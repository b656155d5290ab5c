use Rattle.std.specs.Prelude.{IfOk}
use Rattle.std.proofs.Common.{rules, ◌≡◌, refl, sym, subst, true, false}
use Rattle.gpu_metal.specs.Allocate.{is_valid, AllocatesBy, AllocatorAllocates}
use Rattle.gpu_pool.specs.Allocation.{IsNewlyLive}
use Rattle.gpu_metal.specs.Live.{IsLive}
use Rattle.gpu_metal.specs.Blocks.{is_same_heap}
use Rattle.gpu_metal.specs.State.{State, state_of}
use Rattle.gpu_metal.proofs.Giving.{attempted}
use Rattle.gpu_metal.proofs.Steps.{invalid_step, allocate_step}
use Rattle.gpu_metal.proofs.allocator.Allocator.allocate.Goals as goal
use Rattle.gpu_metal.proofs.allocator.Allocator.allocate.Goals.{then-desc-eq0-via-then-desc-eq0, then-desc-eq0-via-else-desc-eq0+then-not-is_power_of_two, After-allocate_named}

pub returns-then-desc-eq0-clause-step : goal.returns-then-desc-eq0-clause-step
returns-then-desc-eq0-clause-step g c =
    let invalid : is_valid c.args.desc.now ≡ false =
    elim c.then-desc-eq0.branch [
      | then-desc-eq0-via-then-desc-eq0 w ↦ search rules
      | then-desc-eq0-via-else-desc-eq0+then-not-is_power_of_two w ↦ search rules
    ] in
    invalid_step g.D.MetalDevice c.args.desc.now c.args.self.now c.args.self.now _ invalid refl refl

abbrev now : (g : _) (c : After-allocate_named g) → State g.row.D.Denot
now g c = state_of c.allocate_named.new.self c.self.inside.debug

allocates : (g : _) (c : After-allocate_named g) → AllocatorAllocates g.D.MetalDevice c.args.desc.now c.args.self.now c.allocate_named.result (now g c)
allocates g c =
    let V = g.D.MetalDevice in
    let i = c.self.inside in
    let d = c.args.desc.now in
    let valid : is_valid d ≡ true = search rules in
    let tried = attempted V d c.type_for-index.result c.type_for-index.ensures.first i.pool c.request_of.result c.request_of.ensures.asks c.request_of.ensures.shared c.allocate_named.result c.allocate_named.new.self
    c.allocate_named.ensures.allocates in
    let here : AllocatorAllocates V d (state_of i.pool i.debug) c.allocate_named.result (now g c) =
    subst (λ v. AllocatesBy V d v (state_of i.pool i.debug) c.allocate_named.result (now g c)) (sym valid) tried in
    subst (λ (s : State g.row.D.Denot). AllocatorAllocates V d s c.allocate_named.result (now g c)) c.self.view_is here

pub returns-clause-allocates : goal.returns-clause-allocates
returns-clause-allocates g c = allocates g (goal.at.returns-clause-allocates g c).After-allocate_named

pub returns-clause-step : goal.returns-clause-step
returns-clause-step g c =
    let later = (goal.at.returns-clause-step g c).After-allocate_named in
    allocate_step g.D.MetalDevice c.args.desc.now c.args.self.now (now g later) c.allocate_named.result (allocates g later)

pub returns-clause-keeps : goal.returns-clause-keeps
returns-clause-keeps g c = λ a live. c.allocate_named.ensures.keeps a (subst (λ (s : State g.row.D.Denot). IsLive s.slots a) (sym c.self.view_is) live)

pub returns-clause-gives : goal.returns-clause-gives
returns-clause-gives g c =
    subst (λ (s : State g.row.D.Denot). IfOk c.allocate_named.result (λ a. IsNewlyLive is_same_heap s.slots c.allocate_named.new.self.slots a)) c.self.view_is c.allocate_named.ensures.live
