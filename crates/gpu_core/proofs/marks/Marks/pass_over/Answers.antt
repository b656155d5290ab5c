use Rattle.std.proofs.Common.{◌≡◌, ◌/◌, ◌-◌, ◌<◌, inl, inr, arith, length, ap, subst}
use Rattle.std.specs.Prelude.{slice_index}
use Rattle.std.proofs.lemmas.Bool.{cases_lt}
use Rattle.gpu_core.specs.Marks.{Marks}
use Rattle.gpu_core.proofs.Runs.{low_span, low_stretch}
use Rattle.gpu_core.proofs.marks.Marks.pass_over.Goals as goal

pub loop-below-preserved-then-index-least : goal.loop-below-preserved-then-index-least
loop-below-preserved-then-index-least c =
    let own = c.self.inside in
    let same : own.each.items ≡ c.args.self.now.marks = ap (λ (m : Marks). m.marks) c.self.view_is in
    let long = ap length same in
    record {
      within = omega arith;
      passed = λ i from lt.
          elim (cases_lt i c.loop-below.below) [
            | inl below ↦ subst (λ marks. slice_index marks i < c.args.least) same
                (low_stretch own.each.items own.runs.items own.spans.items own.stretches.items ((c.loop-below.below - 1) / 16 / 16 / 16) c.index.result.now c.args.least i c.self.invariant c.index.ensures c.if-index-least.true
                (omega arith) (omega arith) (omega arith))
            | inr past ↦ c.loop-below.invariant.passed i past lt
          ];
    }

pub loop-below-preserved-then-index-least-2 : goal.loop-below-preserved-then-index-least-2
loop-below-preserved-then-index-least-2 c =
    let own = c.self.inside in
    let same : own.each.items ≡ c.args.self.now.marks = ap (λ (m : Marks). m.marks) c.self.view_is in
    let long = ap length same in
    record {
      within = omega arith;
      passed = λ i from lt.
          elim (cases_lt i c.loop-below.below) [
            | inl below ↦ subst (λ marks. slice_index marks i < c.args.least) same
                (low_span own.each.items own.runs.items own.spans.items own.stretches.items ((c.loop-below.below - 1) / 16 / 16) c.index-else-index-least.result.now c.args.least i c.self.invariant c.index-else-index-least.ensures c.if-index-least-2.true
                (omega arith) (omega arith) (omega arith))
            | inr past ↦ c.loop-below.invariant.passed i past lt
          ];
    }
