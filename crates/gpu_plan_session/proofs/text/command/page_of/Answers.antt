use Rattle.std.proofs.Common.{◌≡◌, ◌∙◌, sym, IsTrue, arith}
use Rattle.std.specs.Int.{is_power_of_two}
use Rattle.std.proofs.lemmas.Fmt.{decimal_injective}
use Rattle.gpu_plan_session.proofs.text.command.page_of.Goals as goal

pub returns-else-is_power_of_two : goal.returns-else-is_power_of_two
returns-else-is_power_of_two c = λ n small power is.
    let same : c.in_ok-number.number ≡ n = decimal_injective c.in_ok-number.number n (omega arith) small (sym c.in_ok-number.ensures ∙ is) in
    let power' : IsTrue (is_power_of_two c.in_ok-number.number) = rw same power.one_bit in
    cc
