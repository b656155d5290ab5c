use Rattle.std.proofs.Common.{refl, subst}
use Rattle.gpu_pool.specs.Reply as answers
use Rattle.gpu_metal.specs.Step as model
use Rattle.gpu_run.specs.MetalCommand as commands
use Rattle.gpu_run.specs.MetalReply as replies
use Rattle.gpu_run.specs.MetalServed.{SessionValue, IsAnswered}
use Rattle.gpu_run.proofs.MetalServing.{told}
use Rattle.gpu_run.proofs.metal.session.Session.commit.Goals as goal

pub returns : goal.returns
returns g c =
    let V = g.D.MetalDevice in
    let s : SessionValue g.row.D.Denot = record { allocator = c.self.inside.allocator; bound = c.self.inside.bound.entries } in
    let new : SessionValue g.row.D.Denot = record { allocator = c.commit_residency_set.new.self; bound = s.bound } in
    let constant = c.commit_residency_set.ensures.constant in
    subst (λ x. IsAnswered V commands.Commit replies.Done x new) c.self.view_is
    (told V g.met.D.MetalDevice.refused_is model.Commit answers.Done replies.Done commands.Commit s new refl refl (constant.0, constant.1) c.commit_residency_set.ensures.step (λ a. a))
