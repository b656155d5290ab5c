use Rattle.std.proofs.Common.{arith}
use Rattle.std.proofs.lemmas.Bool.{iff_false}
use Rattle.gpu_plan.specs.declared.passes.Start.{Start}
use Rattle.gpu_plan.proofs.Alive.{best_first, best_new, best_old, busiest_from}
use Rattle.gpu_plan.proofs.passes.busiest.Goals as goal
use Rattle.gpu_plan.proofs.passes.busiest.Goals.{then-is_within+then-is_busier, else-is_within, else-is_within-via-then-is_within+else-is_busier, else-is_within-via-else-is_within}

none : Start
none = record { pass = 0; bytes = 0 }

pub loop-start-init : goal.loop-start-init
loop-start-init c = best_first c.args.starts.now c.args.first c.args.last _ c.start_at-best.ensures.pass c.start_at-best.ensures.bytes

pub loop-start-preserved : goal.loop-start-preserved
unfolding none
loop-start-preserved c = elim c.if-is_within.branch [
  | then-is_within+then-is_busier w ↦
      let within = c.is_within.ensures.0 w.if-is_within.true in
      rw w.best-is (best_new c.args.starts.now _ c.args.last c.loop-start.start-index c.loop-start.best none (omega arith) c.loop-start.invariant (within.0, within.1, w.is_busier.ensures.0 w.if-is_busier.true))
  | else-is_within w ↦ rw w.best-is (best_old c.args.starts.now _ c.args.last c.loop-start.start-index c.loop-start.best none (omega arith) c.loop-start.invariant (λ b. elim w.else-is_within.branch [
    | else-is_within-via-then-is_within+else-is_busier w' ↦ iff_false w'.is_busier.ensures w'.if-is_busier.false b.2
    | else-is_within-via-else-is_within w' ↦ iff_false c.is_within.ensures w'.if-is_within.false (b.0, b.1)
  ]))
]

pub returns : goal.returns
returns c = λ resources index are here begins ends lives. busiest_from resources c.args.starts.now c.args.first c.args.last index c.loop-start.start-index c.loop-start.best are here begins ends lives (omega arith) c.loop-start.invariant
