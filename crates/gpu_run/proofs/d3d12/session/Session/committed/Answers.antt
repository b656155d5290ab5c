use Rattle.std.proofs.Common.{refl, subst}
use Rattle.gpu_d3d12.specs.Reply as module_replies
use Rattle.gpu_d3d12.specs.State.{basis_of, model_of}
use Rattle.gpu_d3d12.specs.Step as model
use Rattle.gpu_run.specs.D3D12Command as commands
use Rattle.gpu_run.specs.D3D12Reply as replies
use Rattle.gpu_run.specs.D3D12Served.{SessionValue, IsAnswered}
use Rattle.gpu_run.proofs.D3D12Counting.{looked_leaves}
use Rattle.gpu_run.proofs.D3D12Serving.{told}
use Rattle.gpu_run.proofs.d3d12.session.Session.committed.Goals as goal

pub returns : goal.returns
returns g c =
    let V = g.D.D3D12Device in
    let s : SessionValue g.row.D.Denot = record { allocator = c.self.inside.allocator; bound = c.self.inside.bound.entries; resources = c.self.inside.resources.entries } in
    let step = c.committed.ensures.step in
    let leaves = looked_leaves (basis_of V s.allocator) c.args.memory_type step.environment (module_replies.Statistics c.committed.result) (model_of V s.allocator) (model_of V s.allocator) step.step in
    subst (λ x. IsAnswered V (commands.Committed c.args.memory_type) (replies.Committed c.committed.result) x x) c.self.view_is
    (told V g.met.D.D3D12Device.refused_is (model.Statistics c.args.memory_type) (module_replies.Statistics c.committed.result) (replies.Committed c.committed.result)
    (commands.Committed c.args.memory_type) s s refl refl refl refl refl step leaves (λ a. a) refl)
