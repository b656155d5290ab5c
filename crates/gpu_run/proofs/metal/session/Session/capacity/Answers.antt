use Rattle.std.proofs.Common.{refl, subst}
use Rattle.gpu_pool.specs.Reply as answers
use Rattle.gpu_metal.specs.Step as model
use Rattle.gpu_run.specs.MetalCommand as commands
use Rattle.gpu_run.specs.MetalReply as replies
use Rattle.gpu_run.specs.MetalServed.{SessionValue, IsAnswered}
use Rattle.gpu_run.proofs.MetalServing.{told}
use Rattle.gpu_run.proofs.metal.session.Session.capacity.Goals as goal

pub returns : goal.returns
returns g c =
    let V = g.D.MetalDevice in
    let s : SessionValue g.row.D.Denot = record { allocator = c.self.inside.allocator; bound = c.self.inside.bound.entries } in
    subst (λ x. IsAnswered V commands.Capacity (replies.Capacity c.capacity.result) x x) c.self.view_is
    (told V g.met.D.MetalDevice.refused_is model.Capacity (answers.Capacity c.capacity.result) (replies.Capacity c.capacity.result) commands.Capacity s s refl refl (refl, refl) c.capacity.ensures.step (λ a. a))
