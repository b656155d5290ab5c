use Rattle.std.proofs.Common.{◌≡◌, ◌/◌, ◌<◌, inl, inr, arith, length, ap, subst}
use Rattle.std.specs.Prelude.{slice_index}
use Rattle.std.proofs.lemmas.Bool.{cases_lt}
use Rattle.gpu_core.specs.Marks.{Marks}
use Rattle.gpu_core.proofs.Runs.{low_span, low_stretch}
use Rattle.gpu_core.proofs.marks.Marks.lowest.Goals as goal

pub loop-slot-preserved-then-index-enough : goal.loop-slot-preserved-then-index-enough
loop-slot-preserved-then-index-enough c = λ i lt within.
    let own = c.self.inside in
    let same : own.each.items ≡ c.args.self.now.marks = ap (λ (m : Marks). m.marks) c.self.view_is in
    let long = ap length same in
    elim (cases_lt i c.loop-slot.slot) [
      | inl below ↦ c.loop-slot.invariant i below within
      | inr from ↦ subst (λ marks. slice_index marks i < c.args.enough) same
          (low_stretch own.each.items own.runs.items own.spans.items own.stretches.items (c.loop-slot.slot / 16 / 16 / 16) c.index.result.now c.args.enough i c.self.invariant c.index.ensures c.if-index-enough.true
          (omega arith) (omega arith) (omega arith))
    ]

pub loop-slot-preserved-then-index-enough-2 : goal.loop-slot-preserved-then-index-enough-2
loop-slot-preserved-then-index-enough-2 c = λ i lt within.
    let own = c.self.inside in
    let same : own.each.items ≡ c.args.self.now.marks = ap (λ (m : Marks). m.marks) c.self.view_is in
    let long = ap length same in
    elim (cases_lt i c.loop-slot.slot) [
      | inl below ↦ c.loop-slot.invariant i below within
      | inr from ↦ subst (λ marks. slice_index marks i < c.args.enough) same
          (low_span own.each.items own.runs.items own.spans.items own.stretches.items (c.loop-slot.slot / 16 / 16) c.index-else-index-enough.result.now c.args.enough i c.self.invariant c.index-else-index-enough.ensures c.if-index-enough-2.true
          (omega arith) (omega arith) (omega arith))
    ]
