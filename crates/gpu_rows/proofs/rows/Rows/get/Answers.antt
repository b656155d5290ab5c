use Rattle.std.proofs.Common.{◌≡◌, ◌<◌, ◌≤◌, true, false, nat_lt, length, refl, sym, arith}
use Rattle.std.proofs.lemmas.Bool.Decides.{nat_tests}
use Rattle.std.proofs.lemmas.List.{get_or_past, get_or_read}
use Rattle.std.proofs.lemmas.Option.{slice_get_past, slice_get_read}
use Rattle.gpu_rows.proofs.Placing.{counts}
use Rattle.gpu_rows.proofs.rows.Rows.get.Goals as goal

pub returns-then-index-self-clause-value : goal.returns-then-index-self-clause-value
returns-then-index-self-clause-value g c =
    let now = c.args.self.now in
    let past : length now.items ≤ c.args.index = omega (arith, counts c.self.inside.pages.items c.self.inside.len c.self.inside.room now c.self.invariant c.self.view_is) in
    sym (slice_get_past now.items c.args.index past)

pub returns-then-index-self-clause-item : goal.returns-then-index-self-clause-item
returns-then-index-self-clause-item g c =
    let now = c.args.self.now in
    let past : length now.items ≤ c.args.index = omega (arith, counts c.self.inside.pages.items c.self.inside.len c.self.inside.room now c.self.invariant c.self.view_is) in
    let no : false ≡ nat_lt c.args.index (length now.items) = grind (arith, nat_tests) in
    (no, tt, λ lt. absurd (omega arith), past, λ le d. sym (get_or_past now.items c.args.index d past))

pub at-requires : goal.at-requires
at-requires g c = omega (arith, counts c.self.inside.pages.items c.self.inside.len c.self.inside.room c.args.self.now c.self.invariant c.self.view_is)

pub returns-clause-value : goal.returns-clause-value
returns-clause-value g c =
    let now = c.args.self.now in
    let lt : c.args.index < length now.items = omega (arith, counts c.self.inside.pages.items c.self.inside.len c.self.inside.room now c.self.invariant c.self.view_is) in
    sym (slice_get_read now.items (length now.items) c.args.index c.at.result.now refl lt c.at.ensures)

pub returns-clause-item : goal.returns-clause-item
returns-clause-item g c =
    let now = c.args.self.now in
    let lt : c.args.index < length now.items = omega (arith, counts c.self.inside.pages.items c.self.inside.len c.self.inside.room now c.self.invariant c.self.view_is) in
    let is : true ≡ nat_lt c.args.index (length now.items) = grind (arith, nat_tests) in
    let read = get_or_read now.items c.args.index c.at.result.now lt c.at.ensures in
    (is, c.at.ensures, λ below. refl, (lt, read), λ le. read)
