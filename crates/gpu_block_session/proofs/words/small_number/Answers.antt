use Rattle.std.proofs.Common.{◌≡◌, ◌∙◌, sym, arith}
use Rattle.std.proofs.lemmas.Fmt.{decimal_injective}
use Rattle.gpu_block_session.proofs.words.small_number.Goals as goal

pub returns-else-number : goal.returns-else-number
returns-else-number c = λ n small is.
    let same : c.in_ok-number.number ≡ n = decimal_injective c.in_ok-number.number n (omega arith) (omega arith) (sym c.in_ok-number.ensures ∙ is) in
    omega arith
