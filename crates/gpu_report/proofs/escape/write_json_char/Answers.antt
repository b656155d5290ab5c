use Rattle.std.proofs.Common.{◌≢◌, ◌≤◌, arith, sym}
use Rattle.std.proofs.Output.{has_written_of_eq}
use Rattle.std.proofs.lemmas.Grind.{common_steps}
use Rattle.gpu_report.specs.Escape.{json_byte}
use Rattle.gpu_report.specs.declared.escape.Escaping.TheVariants.{Json}
use Rattle.gpu_report.proofs.Escapes.{escaped-encode, json_byte-plain}
use Rattle.gpu_report.proofs.escape.write_json_char.Goals as goal

pub returns-in_default : goal.returns-in_default
returns-in_default g c =
    let not_34 : c.args.c ≢ 34 = λ e. absurd (omega arith) in
    let not_92 : c.args.c ≢ 92 = λ e. absurd (omega arith) in
    let low : 32 ≤ c.args.c = omega arith in
    λ plain ok.
    has_written_of_eq g.W.Write.write_str_gives c.args.f.now _ _ c.write_char.new.self
    (sym (escaped-encode c.args.c (json_byte-plain c.args.c not_34 not_92 low)))
    (c.write_char.ensures.writes plain ok)

pub returns-in-34 : goal.returns-in-34
unfolding json_byte
returns-in-34 g c = grind (arith, common_steps)

pub returns-in-92 : goal.returns-in-92
unfolding json_byte
returns-in-92 g c = grind (arith, common_steps)

pub returns-in-8 : goal.returns-in-8
unfolding json_byte
returns-in-8 g c = grind (arith, common_steps)

pub returns-in-12 : goal.returns-in-12
unfolding json_byte
returns-in-12 g c = grind (arith, common_steps)

pub returns-in-10 : goal.returns-in-10
unfolding json_byte
returns-in-10 g c = grind (arith, common_steps)

pub returns-in-13 : goal.returns-in-13
unfolding json_byte
returns-in-13 g c = grind (arith, common_steps)

pub returns-in-9 : goal.returns-in-9
unfolding json_byte
returns-in-9 g c = grind (arith, common_steps)

pub returns-in-0-to-31 : goal.returns-in-0-to-31
unfolding json_byte
returns-in-0-to-31 g c = grind (arith, common_steps)
