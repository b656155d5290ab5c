use Rattle.std.proofs.Common.{◌≡◌, ◌∙◌, sym, subst, arith}
use Rattle.std.proofs.lemmas.Fmt.{decimal_injective}
use Rattle.gpu_trace_text.specs.Ask.{IsLength}
use Rattle.gpu_trace_text.proofs.device.ask.size_of.Goals as goal

pub returns-else-is_length : goal.returns-else-is_length
returns-else-is_length c = λ n long is.
    let same : c.in_ok-size.size ≡ n = decimal_injective c.in_ok-size.size n (omega arith) (omega (arith, long.1)) (sym c.in_ok-size.ensures ∙ is) in
    let fits = c.is_length.ensures.1 (subst IsLength (sym same) long) in
    cc
