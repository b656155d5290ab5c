use Rattle.std.proofs.Common.{◌≡◌, ap, sym, ◌∙◌}
use Rattle.std.specs.Int.{w32}
use Rattle.std.specs.Fmt.{signed_decimal}
use Rattle.std.proofs.lemmas.Fmt.{parse-signed_decimal}
use Rattle.std.proofs.lemmas.Int.{to_z-of_z}
use Rattle.std.specs.Prelude.{FitsSigned as SFits}
use Rattle.gpu_block_session.proofs.Canonical.{differ, mag_below}
use Rattle.gpu_block_session.proofs.words.code.Goals as goal

pub returns-in_default : goal.returns-in_default
returns-in_default c = λ z fits is. c.in_default.not-Ok z (parse-signed_decimal w32 z c.args.word.now c.parse.result fits (mag_below z fits) is c.parse.ensures.value.0)

pub returns : goal.returns
returns c = λ z fits is.
    let p = parse-signed_decimal w32 z c.args.word.now c.parse.result fits (mag_below z fits) is c.parse.ensures.value.0 in
    let same : c.in-Ok.number ≡ z = cc in
    let range : SFits w32 c.in-Ok.number = rw same fits in
    let again : c.as_str.result.now ≡ c.args.word.now = c.as_str.ensures.value ∙ (simp to_z-of_z at c.in_ok-again.ensures.ok) ∙ ap signed_decimal same ∙ sym is in
    differ c.as_str.result.now c.args.word.now c.eq.result c.eq.ensures c.if-eq.false again
