use Rattle.std.proofs.Common.{◌≡◌, ◌+◌, ◌∙◌, [], ◌∷◌, ap, arith, length}
use Rattle.std.specs.Prelude.{slice_index}
use Rattle.std.proofs.lemmas.List.{length-append}
use Rattle.gpu_core.proofs.Runs.{zero_behind, bound_longer}
use Rattle.gpu_core.proofs.marks.Marks.push.Goals as goal

pub invariant_of-self : goal.invariant_of-self
invariant_of-self c =
    let own = c.self.inside in
    let of = c.self.invariant in
    let more = c.push_reserved.ensures.items in
    let one : length c.push_reserved.new.self.items ≡ length own.each.items + 1 = ap length more ∙ length-append own.each.items (0 ∷ []) in
    record {
      of_marks = bound_longer own.each.items own.runs.items c.push_reserved.new.self.items c.cover.new.runs.items of.of_marks
          (λ i. ap (λ xs. slice_index xs i) more ∙ zero_behind own.each.items i) c.cover.ensures.same (omega arith) (omega arith);
      of_runs = bound_longer own.runs.items own.spans.items c.cover.new.runs.items c.cover-2.new.runs.items of.of_runs c.cover.ensures.same c.cover-2.ensures.same (omega arith) (omega arith);
      of_spans = bound_longer own.spans.items own.stretches.items c.cover-2.new.runs.items c.cover-3.new.runs.items of.of_spans c.cover-2.ensures.same c.cover-3.ensures.same (omega arith) (omega arith);
    }
