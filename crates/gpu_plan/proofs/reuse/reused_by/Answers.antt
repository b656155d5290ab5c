use Rattle.std.proofs.Common.{ℕ, arith}
use Rattle.std.proofs.lemmas.Bool.{iff_false}
use Rattle.gpu_plan.specs.Reuse.{Reuses}
use Rattle.gpu_plan.proofs.Listing.{lists_more, lists_same, lists_is}
use Rattle.gpu_plan.proofs.reuse.reused_by.Goals as goal
use Rattle.gpu_plan.proofs.reuse.reused_by.Goals.{then-is_reused+in_ok-push, else-is_reused}

pub loop-i-preserved : goal.loop-i-preserved
loop-i-preserved c =
    let a = c.args in
    let P : ℕ → Type 0 = λ i. Reuses a.resources.now a.offsets.now a.index i in
    elim c.if-is_reused.branch [
      | then-is_reused+in_ok-push w ↦
          let told = c.is_reused.ensures.0 w.if-is_reused.true in
          let more = lists_more P c.loop-i.i c.loop-i.found.items (record { over = told.0; bytes = told.1 }) c.loop-i.invariant in
          rw (w.found-is, w.in_ok-push.ensures.items) more
      | else-is_reused w ↦
          let same = lists_same P c.loop-i.i c.loop-i.found.items (λ r. iff_false c.is_reused.ensures w.if-is_reused.false (r.over, r.bytes)) c.loop-i.invariant in
          rw w.found-is same
    ]

pub returns : goal.returns
returns c =
    let a = c.args in
    let all = lists_is (λ i. Reuses a.resources.now a.offsets.now a.index i) c.loop-i.i _ c.loop-i.found.items (omega arith) c.loop-i.invariant in
    record { ascending = all.0; exact = all.1 }
