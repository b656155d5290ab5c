use Rattle.std.proofs.Common.{◌≡◌, ◌+◌, ◌-◌, ◌<◌, length, vec_len, refl, ap, arith}
use Rattle.std.proofs.lemmas.List.{nil_from_length, length-take}
use Rattle.gpu_rows.specs.Rows.{row_count}
use Rattle.gpu_rows.proofs.Placing.{counts, fits, has_page, has_last, pops_page, pops_row, pops_rest, pops_last}
use Rattle.gpu_rows.proofs.rows.Rows.pop.Goals as goal

pub returns-then-self-eq0-clause-variant : goal.returns-then-self-eq0-clause-variant
returns-then-self-eq0-clause-variant g c =
    let none : row_count c.args.self.now ≡ 0 = omega (arith, counts c.self.inside.pages.items c.self.inside.len c.self.inside.room c.args.self.now c.self.invariant c.self.view_is) in
    (λ no. absurd (cc no), λ some. absurd (omega arith))

pub returns-then-self-eq0-clause-rest : goal.returns-then-self-eq0-clause-rest
returns-then-self-eq0-clause-rest g c =
    let none : row_count c.args.self.now ≡ 0 = omega (arith, counts c.self.inside.pages.items c.self.inside.len c.self.inside.room c.args.self.now c.self.invariant c.self.view_is) in
    rw (nil_from_length c.args.self.now.items none) refl

pub returns-then-self-eq0-clause-value : goal.returns-then-self-eq0-clause-value
returns-then-self-eq0-clause-value g c d some =
    absurd (omega (arith, counts c.self.inside.pages.items c.self.inside.len c.self.inside.room c.args.self.now c.self.invariant c.self.view_is))

pub index_mut-requires : goal.index_mut-requires
index_mut-requires g c =
    let pages = c.self.inside.pages.items in
    omega (arith, has_page pages (c.self.inside.len - 1) (omega (arith, fits pages c.self.inside.len c.self.inside.room c.self.invariant)), c.self.inside.pages.ok.0)

pub invariant_of-self : goal.invariant_of-self
invariant_of-self g c =
    let pages = c.self.inside.pages.items in
    let old = c.index_mut.result.now in
    let new = c.pop.new.self in
    let some : 0 < vec_len old = has_last pages c.self.inside.len c.self.inside.room old c.self.invariant (omega arith) c.index_mut.ensures.value in
    let less : vec_len new + 1 ≡ vec_len old = omega (arith, ap length c.pop.ensures.rest, length-take (vec_len old - 1) old.items, old.ok.0, new.ok.0) in
    pops_page pages c.self.inside.len c.self.inside.room old new c.self.invariant (omega arith) c.index_mut.ensures.value less c.pop.ensures.capacity

pub returns-clause-items : goal.returns-clause-items
returns-clause-items g c =
    let pages = c.self.inside.pages.items in
    let old = c.index_mut.result.now in
    let some : 0 < vec_len old = has_last pages c.self.inside.len c.self.inside.room old c.self.invariant (omega arith) c.index_mut.ensures.value in
    rw (← c.self.view_is)
    (pops_row pages c.self.inside.len c.self.inside.room old c.pop.new.self c.pop.result c.self.invariant (omega arith) c.index_mut.ensures.value (c.pop.ensures.variant.1 some) c.pop.ensures.items)

pub returns-clause-variant : goal.returns-clause-variant
returns-clause-variant g c =
    let pages = c.self.inside.pages.items in
    let old = c.index_mut.result.now in
    let some : 0 < vec_len old = has_last pages c.self.inside.len c.self.inside.room old c.self.invariant (omega arith) c.index_mut.ensures.value in
    (λ is. omega (arith, counts pages c.self.inside.len c.self.inside.room c.args.self.now c.self.invariant c.self.view_is), λ is. c.pop.ensures.variant.1 some)

pub returns-clause-rest : goal.returns-clause-rest
returns-clause-rest g c =
    let pages = c.self.inside.pages.items in
    let old = c.index_mut.result.now in
    let some : 0 < vec_len old = has_last pages c.self.inside.len c.self.inside.room old c.self.invariant (omega arith) c.index_mut.ensures.value in
    rw (← c.self.view_is)
    (pops_rest pages c.self.inside.len c.self.inside.room old c.pop.new.self c.pop.result c.self.invariant (omega arith) c.index_mut.ensures.value (c.pop.ensures.variant.1 some) c.pop.ensures.items)

pub returns-clause-value : goal.returns-clause-value
returns-clause-value g c =
    let pages = c.self.inside.pages.items in
    let old = c.index_mut.result.now in
    let some : 0 < vec_len old = has_last pages c.self.inside.len c.self.inside.room old c.self.invariant (omega arith) c.index_mut.ensures.value in
    rw (← c.self.view_is) (λ d is.
    pops_last pages c.self.inside.len c.self.inside.room old c.pop.new.self c.pop.result d c.self.invariant (omega arith) c.index_mut.ensures.value (c.pop.ensures.variant.1 some) c.pop.ensures.items)
