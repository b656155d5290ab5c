use Rattle.std.proofs.Common.{◌∙◌, sym, inl, inr, arith, ◌≡◌, get_or, length, ◌<◌, ◌≤◌}
use Rattle.std.proofs.lemmas.Grind.{common_steps}
use Rattle.std.proofs.lemmas.Bool.{cases_lt, false≢true}
use Rattle.gpu_block_session.proofs.Numbers.{front, read_option}
use Rattle.gpu_block_session.proofs.words.number.Goals as goal

pub returns-then-is_empty : goal.returns-then-is_empty
returns-then-is_empty c = λ n small is. let f = front c.as_bytes-bytes.result.now n small (c.as_bytes-bytes.ensures.value ∙ is) in grind (arith, common_steps, f.some)

pub returns-then-bytes-eq43 : goal.returns-then-bytes-eq43
returns-then-bytes-eq43 c = λ n small is. let f = front c.as_bytes-bytes.result.now n small (c.as_bytes-bytes.ensures.value ∙ is) in let d = f.digit in omega (arith, c.if-bytes-eq43.true)

pub returns-then-has_leading_zero : goal.returns-then-has_leading_zero
returns-then-has_leading_zero c = λ n small is.
    let f = front c.as_bytes-bytes.result.now n small (c.as_bytes-bytes.ensures.value ∙ is) in
    let zero = c.has_leading_zero.ensures.0 c.if-has_leading_zero.true in
    omega (arith, zero.1, f.zero_alone zero.0)

pub returns : goal.returns
returns c =
    let e = c.as_bytes-bytes.ensures.value in
    let some : 0 < length c.as_bytes-bytes.result.now = grind (arith, common_steps) in
    let lead : get_or c.as_bytes-bytes.result.now 0 0 ≡ 48 → length c.as_bytes-bytes.result.now ≤ 1 = λ is.
    elim (cases_lt 1 (length c.as_bytes-bytes.result.now)) [
      | inl several ↦ absurd (false≢true (sym c.if-has_leading_zero.false ∙ c.has_leading_zero.ensures.1 (is, several)))
      | inr one ↦ one
    ] in
    let p = read_option c.as_bytes-bytes.result.now c.parse.result c.ok.result c.ok.ensures.value (rw e c.parse.ensures.value.0) some c.if-bytes-eq43.false lead in
    rw (← e) p
