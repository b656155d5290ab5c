use Rattle.std.proofs.Common.{◌≡◌, Some, None, true, refl, ap, sym, subst}
use Rattle.gpu_pool.specs.Allocation.{AreDistinct}
use Rattle.gpu_metal.specs.Live.{IsLive}
use Rattle.gpu_metal.specs.Step as model
use Rattle.gpu_pool.specs.Reply as answers
use Rattle.gpu_run.specs.Bindings.{bindings_of}
use Rattle.gpu_run.proofs.Binding.{rebound}
use Rattle.gpu_run.proofs.Owning.{own_freed}
use Rattle.gpu_run.specs.MetalReply as replies
use Rattle.gpu_run.specs.MetalSession as sessions
use Rattle.gpu_run.specs.MetalCommand.{Free, Under}
use Rattle.gpu_run.specs.MetalServed.{SessionValue, session_of, IsAnswered}
use Rattle.gpu_run.proofs.MetalServing.{quiet, serves_at, distinct_sym, answered_quietly, answered_by}
use Rattle.gpu_run.proofs.metal.session.Session.free.Goals as goal

pub returns-in-None : goal.returns-in-None
returns-in-None g c =
    let V = g.D.MetalDevice in
    let allocator = c.self.inside.allocator in
    let bound = c.self.inside.bound.entries in
    let after = c.remove.new.self.entries in
    let s : SessionValue g.row.D.Denot = record { allocator = allocator; bound = bound } in
    let new : SessionValue g.row.D.Denot = record { allocator = allocator; bound = after } in
    let same : session_of V new ≡ session_of V s = ap (λ es. session_of V (record { allocator = allocator; bound = es })) c.in-None.ensures.unchanged in
    let none : bindings_of bound c.args.key ≡ None = sym c.in-None.ensures.value in
    subst (λ x. IsAnswered V (Under c.args.key Free) replies.Unbound x new) c.self.view_is
    (answered_quietly V allocator bound after (Under c.args.key Free) replies.Unbound quiet refl
    (serves_at (V.properties allocator.first) (session_of V s) (session_of V new) c.args.key Free quiet replies.Unbound None none (refl, (refl, same))))

pub returns-in-Ok : goal.returns-in-Ok
returns-in-Ok g c =
    let V = g.D.MetalDevice in
    let s : SessionValue g.row.D.Denot = record { allocator = c.self.inside.allocator; bound = c.self.inside.bound.entries } in
    let new : SessionValue g.row.D.Denot = record { allocator = c.free.new.self; bound = c.remove.new.self.entries } in
    let some : bindings_of s.bound c.args.key ≡ Some c.in-Some.allocation = sym c.in-Some.ensures.value in
    let step = c.in-Ok.ensures.step in
    let o : sessions.CommandEnvironment = record { room = true; met = step.0 } in
    subst (λ x. IsAnswered V (Under c.args.key Free) replies.Done x new) c.self.view_is
    (answered_by V g.met.D.MetalDevice.refused_is (model.Free c.in-Some.allocation) answers.Done (Under c.args.key Free) replies.Done o s new step.1
    (c.free.ensures.constant.0, c.free.ensures.constant.1)
    (serves_at (V.properties s.allocator.first) (session_of V s) (session_of V new) c.args.key Free o replies.Done (Some c.in-Some.allocation) some
    (record { done = refl; step = step.1; bound = rebound s.bound new.bound c.args.key None c.remove.ensures.updates.0 })))

pub invariant_of-self-in-Some : goal.invariant_of-self-in-Some
invariant_of-self-in-Some g c =
    let bound = c.self.inside.bound.entries in
    let after = c.remove.new.self.entries in
    own_freed (IsLive c.self.inside.allocator.slots) (IsLive c.free.new.self.slots) AreDistinct distinct_sym (bindings_of bound) c.self.invariant (bindings_of after) c.args.key c.in-Some.allocation
    (sym c.in-Some.ensures.value) (rebound bound after c.args.key None c.remove.ensures.updates.0) c.free.ensures.keeps
