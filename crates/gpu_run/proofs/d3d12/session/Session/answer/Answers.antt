use Rattle.std.proofs.Common.{sym, subst}
use Rattle.gpu_run.specs.D3D12Command.{command_of}
use Rattle.gpu_run.specs.D3D12Describe.{wanted_of}
use Rattle.gpu_run.specs.D3D12Reply.{reply_of}
use Rattle.gpu_run.specs.D3D12Served.{IsAnswered}
use Rattle.gpu_run.proofs.d3d12.session.Session.answer.Goals as goal

pub returns-in-Alloc : goal.returns-in-Alloc
returns-in-Alloc g c =
    subst (λ m. IsAnswered g.D.D3D12Device (command_of m) (reply_of c.allocate.result) c.args.self.now c.allocate.new.self) (sym c.in-Alloc.is)
    (c.allocate.ensures (wanted_of c.in-Alloc.request) c.describe_piece.ensures)

pub returns-in-Move : goal.returns-in-Move
returns-in-Move g c =
    subst (λ m. IsAnswered g.D.D3D12Device (command_of m) (reply_of c.propose_move.result) c.args.self.now c.propose_move.new.self) (sym c.in-Move.is)
    (c.propose_move.ensures (wanted_of c.in-Move.request) c.describe_piece-in-Move.ensures)
