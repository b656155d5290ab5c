use Rattle.std.proofs.Common.{sym, subst}
use Rattle.std.specs.Prelude.{string_bytes}
use Rattle.gpu_run.specs.MetalCommand.{command_of}
use Rattle.gpu_run.specs.MetalDescribe.{described_piece}
use Rattle.gpu_run.specs.MetalReply.{reply_of}
use Rattle.gpu_run.specs.MetalServed.{IsAnswered}
use Rattle.gpu_run.proofs.metal.session.Session.answer.Goals as goal

pub returns-in-Move : goal.returns-in-Move
returns-in-Move g c =
    subst (λ m. IsAnswered g.D.MetalDevice (command_of m) (reply_of c.propose_move.result) c.args.self.now c.propose_move.new.self) (sym c.in-Move.is)
    (c.propose_move.ensures (described_piece c.in-Move.request) (string_bytes c.in-Move.request.name) c.describe_piece.ensures)
