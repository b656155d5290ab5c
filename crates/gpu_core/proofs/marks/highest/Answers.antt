use Rattle.std.proofs.Common.{◌≡◌, ◌+◌, ◌-◌, ◌≤◌, slice_index, arith, subst}
use Rattle.std.proofs.lemmas.List.{length-take, length-drop}
use Rattle.gpu_core.proofs.marks.highest.Goals as goal

pub returns : goal.returns
returns c = λ i from to within.
    let start = c.args.start in
    let same : start + (i - start) ≡ i = omega arith in
    let looked = simp (length-take, length-drop) at c.loop-number-test.false in
    subst (λ k. slice_index c.args.numbers.now k ≤ c.loop-number.most) same (c.loop-number.invariant (i - start) (omega (arith, looked, c.min-end.ensures)))
