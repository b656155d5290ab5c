use Rattle.std.proofs.Common.{◌∙◌, sym, ap, List, Some}
use Rattle.std.specs.List.{slice_get}
use Rattle.std.specs.Option.{option_map}
use Rattle.gpu_block_pieces.specs.Leak.{LeakOf, leak_text}
use Rattle.gpu_c.proofs.TypesVisits.{nth_leak}
use Rattle.gpu_c.proofs.types_visit.leak_at.Goals as goal

pub returns-in-None-clause-text : goal.returns-in-None-clause-text
returns-in-None-clause-text g c =
    let found = nth_leak c.leaks.result c.nth.result c.nth.new.self c.args.number c.nth.ensures.ran in
    ap (option_map leak_text) (sym c.in-None.is ∙ found ∙ ap (λ (xs : List LeakOf). slice_get xs c.args.number) c.leaks.ensures)

pub returns-in_ok-to_string-in-Some-clause-text : goal.returns-in_ok-to_string-in-Some-clause-text
returns-in_ok-to_string-in-Some-clause-text g c =
    let found = nth_leak c.leaks.result c.nth.result c.nth.new.self c.args.number c.nth.ensures.ran in
    ap Some c.in_ok-to_string-in-Some.ensures.ok
    ∙ ap (option_map leak_text) (sym c.in-Some.is ∙ found ∙ ap (λ (xs : List LeakOf). slice_get xs c.args.number) c.leaks.ensures)
