use Rattle.std.proofs.Common.{sym, subst}
use Rattle.gpu_run.specs.D3D12Command.{other_of}
use Rattle.gpu_run.specs.D3D12Reply.{reply_of}
use Rattle.gpu_run.specs.D3D12Served.{IsAnswered}
use Rattle.gpu_run.proofs.d3d12.session.Session.answer_other.Goals as goal

pub returns-in-Create : goal.returns-in-Create
returns-in-Create g c =
    subst (λ m. IsAnswered g.D.D3D12Device (other_of m) (reply_of c.create.result) c.args.self.now c.create.new.self) (sym c.in-Create.is)
    (c.create.ensures c.in-Create.wanted (c.describe.ensures c.resource_type-memory.ensures))
