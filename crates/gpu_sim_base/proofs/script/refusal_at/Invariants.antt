use Rattle.std.proofs.Common.{◌≡◌, drop}
use Rattle.gpu_sim_base.specs.Script.{refusal_at}
use Rattle.gpu_sim_base.proofs.script.refusal_at.Given as goal

-- the entries so far are of other questions
abbrev pub invariant-loop-number : goal.invariant-loop-number
invariant-loop-number l = refusal_at (drop l.number-index l.entries) l.question ≡ refusal_at l.entries l.question
