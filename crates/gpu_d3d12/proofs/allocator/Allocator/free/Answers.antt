use Rattle.std.proofs.Common.{rules, sym, ap, subst}
use Rattle.gpu_d3d12.specs.Live.{IsLive}
use Rattle.gpu_d3d12.specs.Free.{AllocatorFrees}
use Rattle.gpu_d3d12.specs.State.{State, state_of}
use Rattle.gpu_d3d12.proofs.Calls.{free_step}
use Rattle.gpu_d3d12.proofs.allocator.Allocator.free.Goals as goal

pub returns-clause-keeps : goal.returns-clause-keeps
returns-clause-keeps g c = λ b live other. c.free_named.ensures.keeps b (subst (λ (s : State g.row.D.Denot). IsLive s.slots b) (sym c.self.view_is) live) other

pub returns-clause-step : goal.returns-clause-step
returns-clause-step g c =
    let new : State g.row.D.Denot = state_of c.free_named.new.self c.self.inside.committed c.self.inside.debug in
    let frees : AllocatorFrees g.D.D3D12Device c.args.allocation c.args.self.now c.match-free_named.result new = search rules in
    free_step g.D.D3D12Device c.args.allocation c.args.self.now new c.match-free_named.result frees (ap (λ (s : State g.row.D.Denot). s.committed) c.self.view_is)
