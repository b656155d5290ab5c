use Rattle.std.proofs.Common.{◌<◌, ◌%◌, refl, arith}
use Rattle.std.specs.Vec.{with_item}
use Rattle.gpu_rows.proofs.Placing.{counts, fits, has_page, has_row, is_row, writes_page, writes_seen}
use Rattle.gpu_rows.proofs.rows.Rows.at_mut.Goals as goal

pub index_mut-page-requires : goal.index_mut-page-requires
index_mut-page-requires g c =
    let pages = c.self.inside.pages.items in
    let count = c.self.inside.len in
    let lt : c.args.index < count = omega (arith, c.requires, counts pages count c.self.inside.room c.args.self.now c.self.invariant c.self.view_is) in
    omega (arith, has_page pages c.args.index (omega (arith, fits pages count c.self.inside.room c.self.invariant)), c.self.inside.pages.ok.0)

pub index_mut-requires : goal.index_mut-requires
index_mut-requires g c =
    let pages = c.self.inside.pages.items in
    let count = c.self.inside.len in
    let lt : c.args.index < count = omega (arith, c.requires, counts pages count c.self.inside.room c.args.self.now c.self.invariant c.self.view_is) in
    has_row pages count c.self.inside.room c.args.index c.index_mut-page.result.now c.self.invariant lt c.index_mut-page.ensures.value

pub invariant_of-self-lent : goal.invariant_of-self-lent
invariant_of-self-lent g c w =
    let pages = c.self.inside.pages.items in
    let page = c.index_mut-page.result.now in
    let count = c.self.inside.len in
    let lt : c.args.index < count = omega (arith, c.requires, counts pages count c.self.inside.room c.args.self.now c.self.invariant c.self.view_is) in
    writes_page pages count c.self.inside.room c.args.index page (with_item page (c.args.index % 256) w) c.self.invariant lt c.index_mut-page.ensures.value refl refl

pub returns : goal.returns
returns g c =
    let pages = c.self.inside.pages.items in
    let page = c.index_mut-page.result.now in
    let count = c.self.inside.len in
    let lt : c.args.index < count = omega (arith, c.requires, counts pages count c.self.inside.room c.args.self.now c.self.invariant c.self.view_is) in
    rw (← c.self.view_is) (
      (refl, λ w. writes_seen pages count c.self.inside.room c.args.index page (with_item page (c.args.index % 256) w) w c.self.invariant lt c.index_mut-page.ensures.value refl),
      record {
        writes_back = tt;
        value = is_row pages count c.self.inside.room c.args.index page c.index_mut.result.now c.self.invariant lt c.index_mut-page.ensures.value c.index_mut.ensures.value;
      },
    )
