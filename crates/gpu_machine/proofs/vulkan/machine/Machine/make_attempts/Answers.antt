use Rattle.std.proofs.Common.{refl, subst, inl, inr, false, Err}
use Rattle.gpu_values.specs.Refusal.{refusal_of}
use Rattle.gpu_vulkan.specs.Allocate.{next_type}
use Rattle.gpu_machine.specs.VulkanBegin.{Follows, Tries}
use Rattle.gpu_machine.specs.VulkanState.{State}
use Rattle.gpu_machine.proofs.vulkan.machine.Machine.make_attempts.Goals as goal

pub returns-in-Ok-clause-attempts : goal.returns-in-Ok-clause-attempts
returns-in-Ok-clause-attempts g c = inl (refl, c.in-Ok.ensures.tries)

pub returns-in-Err-clause-attempts : goal.returns-in-Err-clause-attempts
returns-in-Err-clause-attempts g c =
    let old = c.args.self.now in
    let d = c.args.desc.now in
    let e = c.in-Err.error in
    let r = refusal_of e in
    let same = c.in-Err.ensures.refused in
    inr (record {
      cause = e;
      tries = subst (λ (s : State g.row.H.Denot). Tries old c.args.index d false (Err e) s) same c.in-Err.ensures.tries;
      follows = subst (λ (s : State g.row.H.Denot). Follows s d (next_type s.setup d r) r c.follow.result c.follow.new.self) same c.follow.ensures.follows;
    })
