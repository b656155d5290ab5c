use Rattle.std.proofs.Common.{rules, ◌≡◌, ◌∙◌, ap, sym, subst, refl, true, false}
use Rattle.gpu_core.specs.TypeTake.{asked}
use Rattle.gpu_pool.specs.Allocation.{ProposesNamed}
use Rattle.gpu_d3d12.specs.Blocks.{is_same_heap}
use Rattle.gpu_d3d12.specs.Live.{IsLive}
use Rattle.gpu_d3d12.specs.State.{State, Pool, state_of, pool_of}
use Rattle.gpu_d3d12.specs.Step.{is_again}
use Rattle.gpu_d3d12.proofs.Calls.{move_step, refuse_step}
use Rattle.gpu_d3d12.proofs.allocator.Allocator.propose_move.Goals as goal

pub returns-then-not-is_again-clause-step : goal.returns-then-not-is_again-clause-step
returns-then-not-is_again-clause-step g c =
    let other : is_again c.args.allocation.now.size c.args.desc.now ≡ false = search rules in
    refuse_step g.D.D3D12Device c.args.allocation.now c.args.desc.now c.args.self.now _ refl other

pub returns-clause-step : goal.returns-clause-step
returns-clause-step g c =
    let from = c.args.allocation.now in
    let d = c.args.desc.now in
    let r = asked c.request_of.result in
    let old = c.self.inside.pool in
    let result = c.propose_move_named.result in
    let e = c.propose_move_named.ensures in
    let new : State g.row.D.Denot = state_of c.propose_move_named.new.self c.self.inside.committed c.self.inside.debug in
    let again : is_again from.size d ≡ true = search rules in
    let proposes = subst (λ (s : State g.row.D.Denot). ProposesNamed is_same_heap from r (pool_of s) result (pool_of new)) c.self.view_is e.proposes in
    move_step g.D.D3D12Device from d r c.request_of.ensures.asks c.args.self.now new result again proposes
    (ap (λ (p : Pool g.row.D.Denot). p.source) e.others ∙ ap (λ (s : State g.row.D.Denot). (pool_of s).source) c.self.view_is) (ap (λ (s : State g.row.D.Denot). s.committed) c.self.view_is)

pub returns-clause-keeps : goal.returns-clause-keeps
returns-clause-keeps g c = λ b live. c.propose_move_named.ensures.keeps b (subst (λ (s : State g.row.D.Denot). IsLive s.slots b) (sym c.self.view_is) live)
