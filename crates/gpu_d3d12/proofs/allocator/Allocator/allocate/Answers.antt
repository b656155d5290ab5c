use Rattle.std.proofs.Common.{ap, subst}
use Rattle.gpu_d3d12.specs.Allocate.{AllocatorAllocates}
use Rattle.gpu_d3d12.specs.State.{State, state_of}
use Rattle.gpu_d3d12.proofs.Calls.{allocate_step}
use Rattle.gpu_d3d12.proofs.allocator.Allocator.allocate.Goals as goal
use Rattle.gpu_d3d12.proofs.allocator.Allocator.allocate.Goals.{After-allocate_piece}

abbrev now : (g : _) (c : After-allocate_piece g) → State g.row.D.Denot
now g c = state_of c.allocate_piece.new.pool c.self.inside.committed c.self.inside.debug

allocates : (g : _) (c : After-allocate_piece g) → AllocatorAllocates g.D.D3D12Device c.args.desc.now c.args.self.now c.allocate_piece.result (now g c)
allocates g c = subst (λ (s : State g.row.D.Denot). AllocatorAllocates g.D.D3D12Device c.args.desc.now s c.allocate_piece.result (now g c)) c.self.view_is c.allocate_piece.ensures.allocates

pub returns-clause-allocates : goal.returns-clause-allocates
returns-clause-allocates g c = allocates g (goal.at.returns-clause-allocates g c).After-allocate_piece

pub returns-clause-step : goal.returns-clause-step
returns-clause-step g c =
    let later = (goal.at.returns-clause-step g c).After-allocate_piece in
    allocate_step g.D.D3D12Device c.args.desc.now c.args.self.now (now g later) c.allocate_piece.result (allocates g later) (ap (λ (s : State g.row.D.Denot). s.committed) c.self.view_is)
