use Rattle.std.proofs.Common.{◌∙◌, ap, subst}
use Rattle.gpu_pool.specs.Allocation.{RenamesNamed}
use Rattle.gpu_d3d12.specs.Blocks.{is_same_heap}
use Rattle.gpu_d3d12.specs.State.{State, state_of, pool_of}
use Rattle.gpu_d3d12.proofs.Calls.{rename_step}
use Rattle.gpu_d3d12.proofs.allocator.Allocator.rename_allocation.Goals as goal

pub returns-clause-step : goal.returns-clause-step
returns-clause-step g c =
    let V = g.D.D3D12Device in
    let i = c.self.inside in
    let a = c.args.allocation.now in
    let b = c.rename_named.new.allocation in
    let new : State g.row.D.Denot = state_of c.rename_named.new.self i.committed i.debug in
    rename_step V a b c.args.name.now c.args.self.now new c.rename_named.result
    (subst (λ (s : State g.row.D.Denot). RenamesNamed is_same_heap a c.args.name.now (pool_of s) c.rename_named.result b (pool_of new)) c.self.view_is c.rename_named.ensures.renames)
    (c.rename_named.ensures.source ∙ ap (λ (s : State g.row.D.Denot). (pool_of s).source) c.self.view_is) (ap (λ (s : State g.row.D.Denot). s.committed) c.self.view_is)
