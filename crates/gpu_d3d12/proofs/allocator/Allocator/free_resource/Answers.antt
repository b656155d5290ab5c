use Rattle.std.proofs.Common.{rules, ◌≡◌, sym, subst, Result}
use Rattle.gpu_values.specs.Refusal.{Refusal}
use Rattle.gpu_pool.specs.Source.{result_of}
use Rattle.gpu_d3d12.specs.Free.{freed_of}
use Rattle.gpu_d3d12.specs.Over.{FreesResourceOver}
use Rattle.gpu_d3d12.specs.State.{State, state_of, contents_of}
use Rattle.gpu_d3d12.proofs.Creating.{free_resource_step}
use Rattle.gpu_d3d12.proofs.allocator.Allocator.free_resource.Goals as goal

pub returns-clause-step : goal.returns-clause-step
returns-clause-step g c =
    let V = g.D.D3D12Device in
    let r = c.args.resource in
    let new : State g.row.D.Denot = state_of c.free_resource.new.pool c.free_resource.new.committed c.self.inside.debug in
    let same : freed_of c.match-free_resource.result ≡ result_of c.free_resource.result = search rules in
    free_resource_step V r c.args.self.now new c.match-free_resource.result
    (subst (λ (o : Result (Unit {0}) Refusal). FreesResourceOver V r (contents_of c.args.self.now) o (contents_of new)) (sym same)
    (subst (λ (s : State g.row.D.Denot). FreesResourceOver V r (contents_of s) (result_of c.free_resource.result) (contents_of new)) c.self.view_is c.free_resource.ensures.frees))
