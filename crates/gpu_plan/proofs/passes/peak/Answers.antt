use Rattle.std.proofs.Common.{inl, inr, arith}
use Rattle.gpu_plan.proofs.Alive.{peak_is}
use Rattle.gpu_plan.proofs.passes.peak.Goals as goal

pub returns : goal.returns
returns c = λ resources are.
    peak_is resources c.args.starts.now c.loop-start.most are
    (λ k d lt. c.loop-start.invariant.below k d (omega arith))
    (elim c.loop-start.invariant.met [
      | inl none ↦ inl none
      | inr one ↦ let low = one.1 in inr (one.0, omega arith, one.2)
    ])
