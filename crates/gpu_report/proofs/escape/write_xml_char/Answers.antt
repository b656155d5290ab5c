use Rattle.std.proofs.Common.{◌≢◌, ◌≤◌, arith, sym}
use Rattle.std.proofs.Output.{has_written_of_eq}
use Rattle.std.proofs.lemmas.Grind.{common_steps}
use Rattle.gpu_report.specs.Escape.{xml_char}
use Rattle.gpu_report.proofs.Escapes.{xml_char-plain}
use Rattle.gpu_report.proofs.escape.write_xml_char.Goals as goal

pub returns-in_default : goal.returns-in_default
returns-in_default g c =
    let not_38 : c.args.c ≢ 38 = λ e. absurd (omega arith) in
    let not_60 : c.args.c ≢ 60 = λ e. absurd (omega arith) in
    let not_62 : c.args.c ≢ 62 = λ e. absurd (omega arith) in
    let not_34 : c.args.c ≢ 34 = λ e. absurd (omega arith) in
    let low : 32 ≤ c.args.c = omega arith in
    let not_65534 : c.args.c ≢ 65534 = λ e. absurd (omega arith) in
    let not_65535 : c.args.c ≢ 65535 = λ e. absurd (omega arith) in
    λ plain ok.
    has_written_of_eq g.W.Write.write_str_gives c.args.f.now _ _ c.write_char.new.self
    (sym (xml_char-plain c.args.c not_38 not_60 not_62 not_34 low not_65534 not_65535))
    (c.write_char.ensures.writes plain ok)
