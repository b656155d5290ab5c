use Rattle.std.proofs.Common.{◌≡◌, ◌∷◌, [], ◌++◌, ◌+◌, ◌*◌, ◌<◌, ℕ, List, ap, sym, length, take, get_or, arith, ◌∙◌}
use Rattle.std.proofs.lemmas.Grind.{common_steps}
use Rattle.gpu_trace_text.specs.Hex.{hex}
use Rattle.gpu_trace_text.proofs.Hexed.{hex_length, hex_at, hex_push, take_two}
use Rattle.gpu_trace_text.proofs.hex.decode.Goals as goal

pub returns-then-count-text : goal.returns-then-count-text
returns-then-count-text c = λ bs fits is.
    let long = ap length is ∙ hex_length bs in
    omega (arith, long, c.if-count-text.true)

pub returns-in_default : goal.returns-in_default
returns-in_default c = λ bs fits is.
    let i = c.loop-i.i in
    let long = ap length is ∙ hex_length bs in
    let lt : i < length bs = omega (arith, long, c.loop-i-test.true, c.if-count-text.false) in
    let at = hex_at bs i lt in
    let high = ap (λ (xs : List ℕ). get_or xs (2 * i) 0) is ∙ at.0 in
    let low = ap (λ (xs : List ℕ). get_or xs (2 * i + 1) 0) is ∙ at.1 in
    c.in_default.ensures (get_or bs i 0) (fits i 0 lt) (λ k. high k ∷ low k ∷ [])

pub loop-i-preserved : goal.loop-i-preserved
loop-i-preserved c =
    let i = c.loop-i.i in
    let lt : 2 * i + 1 < length c.args.text.now = omega (arith, c.loop-i-test.true, c.if-count-text.false) in
    let even : 2 * (i + 1) ≡ 2 * i + 2 = omega arith in
    record {
      spelled = ap (λ k. take k c.args.text.now) even ∙
          (take_two c.args.text.now (2 * i) lt ∙ (ap (λ (xs : List ℕ). xs ++ get_or c.args.text.now (2 * i) 0 ∷ get_or c.args.text.now (2 * i + 1) 0 ∷ []) c.loop-i.invariant.spelled
          ∙ (ap (λ (ys : List ℕ). hex c.loop-i.bytes.items ++ ys) c.in-Some.ensures ∙ (sym (hex_push c.loop-i.bytes.items c.in-Some.byte) ∙ sym (ap hex c.push_reserved.ensures.items)))));
      count = grind (arith, common_steps, c.loop-i.invariant.count);
      room = grind (arith, common_steps, c.loop-i.invariant.room);
    }
