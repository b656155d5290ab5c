use Rattle.std.proofs.Common.{length, ap, ◌∙◌, arith}
use Rattle.std.proofs.lemmas.List.{length_push}
use Rattle.gpu_rows.specs.Pages.{rows_of}
use Rattle.gpu_rows.proofs.Paging.{pages_more, rows_more}
use Rattle.gpu_rows.proofs.rows.add_pages.Goals as goal

pub loop-alloc-preserved : goal.loop-alloc-preserved
loop-alloc-preserved g c =
    let pages = c.loop-alloc.pages.items in
    let page = c.in_ok-page.page in
    let same = rows_more pages page c.in_ok-page.ensures.items in
    let more = ap length c.push_reserved.ensures.items ∙ length_push pages page in record {
      paged = rw (c.push_reserved.ensures.items, same) (pages_more 256 256 pages (length (rows_of pages)) page c.loop-alloc.invariant.paged c.in_ok-page.ensures.len c.in_ok-page.ensures.capacity);
      same = rw c.push_reserved.ensures.items (same ∙ c.loop-alloc.invariant.same);
      kept = omega (arith, more, c.loop-alloc.invariant.kept);
      few = omega (arith, more, c.loop-alloc.pages.ok.0);
      room = omega (arith, c.push_reserved.ensures.capacity, c.loop-alloc.invariant.room);
    }
