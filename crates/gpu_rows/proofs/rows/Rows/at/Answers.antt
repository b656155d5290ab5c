use Rattle.std.proofs.Common.{◌<◌, arith}
use Rattle.gpu_rows.proofs.Placing.{counts, fits, has_page, has_row, is_row}
use Rattle.gpu_rows.proofs.rows.Rows.at.Goals as goal

pub index-requires : goal.index-requires
index-requires g c =
    let pages = c.self.inside.pages.items in
    let count = c.self.inside.len in
    let lt : c.args.index < count = omega (arith, c.requires, counts pages count c.self.inside.room c.args.self.now c.self.invariant c.self.view_is) in
    omega (arith, has_page pages c.args.index (omega (arith, fits pages count c.self.inside.room c.self.invariant)), c.self.inside.pages.ok.0)

pub index-requires-2 : goal.index-requires-2
index-requires-2 g c =
    let pages = c.self.inside.pages.items in
    let count = c.self.inside.len in
    let lt : c.args.index < count = omega (arith, c.requires, counts pages count c.self.inside.room c.args.self.now c.self.invariant c.self.view_is) in
    has_row pages count c.self.inside.room c.args.index c.index.result.now c.self.invariant lt c.index.ensures

pub returns : goal.returns
returns g c =
    let pages = c.self.inside.pages.items in
    let count = c.self.inside.len in
    let lt : c.args.index < count = omega (arith, c.requires, counts pages count c.self.inside.room c.args.self.now c.self.invariant c.self.view_is) in
    rw (← c.self.view_is) (is_row pages count c.self.inside.room c.args.index c.index.result.now c.index-2.result.now c.self.invariant lt c.index.ensures c.index-2.ensures)
