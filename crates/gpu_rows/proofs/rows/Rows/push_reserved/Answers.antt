use Rattle.std.proofs.Common.{◌<◌, ◌∙◌, length, ap, arith}
use Rattle.std.proofs.lemmas.List.{length_push}
use Rattle.gpu_rows.specs.Pages.{rows_of}
use Rattle.gpu_rows.proofs.Placing.{counts, has_page, has_room, pushes_page, pushes_row}
use Rattle.gpu_rows.proofs.rows.Rows.push_reserved.Goals as goal

pub index_mut-requires : goal.index_mut-requires
index_mut-requires g c =
    let pages = c.self.inside.pages.items in
    let count = c.self.inside.len in
    let lt : count < c.self.inside.room = omega (arith, c.requires, counts pages count c.self.inside.room c.args.self.now c.self.invariant c.self.view_is) in
    omega (arith, has_page pages count (omega (arith, lt, c.self.invariant.least)), c.self.inside.pages.ok.0)

pub push_reserved-requires : goal.push_reserved-requires
push_reserved-requires g c =
    let pages = c.self.inside.pages.items in
    let count = c.self.inside.len in
    let lt : count < c.self.inside.room = omega (arith, c.requires, counts pages count c.self.inside.room c.args.self.now c.self.invariant c.self.view_is) in
    has_room pages count c.self.inside.room c.index_mut.result.now c.self.invariant lt c.index_mut.ensures.value

pub overflow_add-self : goal.overflow_add-self
overflow_add-self g c = omega (arith, c.requires, counts c.self.inside.pages.items c.self.inside.len c.self.inside.room c.args.self.now c.self.invariant c.self.view_is, c.self.invariant.few)

pub invariant_of-self : goal.invariant_of-self
invariant_of-self g c =
    let pages = c.self.inside.pages.items in
    let count = c.self.inside.len in
    let lt : count < c.self.inside.room = omega (arith, c.requires, counts pages count c.self.inside.room c.args.self.now c.self.invariant c.self.view_is) in
    pushes_page pages count c.self.inside.room c.index_mut.result.now c.push_reserved.new.self c.self.invariant lt c.index_mut.ensures.value c.push_reserved.ensures.len c.push_reserved.ensures.capacity

pub returns-clause-items : goal.returns-clause-items
returns-clause-items g c =
    let pages = c.self.inside.pages.items in
    let count = c.self.inside.len in
    let lt : count < c.self.inside.room = omega (arith, c.requires, counts pages count c.self.inside.room c.args.self.now c.self.invariant c.self.view_is) in
    rw (← c.self.view_is)
    (pushes_row pages count c.self.inside.room c.index_mut.result.now c.push_reserved.new.self c.args.row c.self.invariant lt c.index_mut.ensures.value c.push_reserved.ensures.items)

pub returns-clause-len : goal.returns-clause-len
returns-clause-len g c =
    let pages = c.self.inside.pages.items in
    let count = c.self.inside.len in
    let lt : count < c.self.inside.room = omega (arith, c.requires, counts pages count c.self.inside.room c.args.self.now c.self.invariant c.self.view_is) in
    rw (← c.self.view_is)
    (ap length (pushes_row pages count c.self.inside.room c.index_mut.result.now c.push_reserved.new.self c.args.row c.self.invariant lt c.index_mut.ensures.value c.push_reserved.ensures.items)
    ∙ length_push (rows_of pages) c.args.row)
